use Rattle.std.proofs.Common.{◌++◌, [], ap, ◌∙◌, bytes_eq}
use Rattle.std.specs.Prelude.{if◌then◌else◌}
use Rattle.sm_merge.specs.steps.Filling.{folded_rows}
use Rattle.sm_merge.specs.steps.MemberLists.{rows_under}
use Rattle.sm_merge.proofs.MemberListsMade.{put_one}
use Rattle.sm_merge.proofs.effective_members.put_list.Goals as goal

pub returns : goal.returns
returns c = λ name.
    ap (rows_under name) c.in_ok-push.ensures.items ∙ put_one name c.in_ok-name.name c.args.lists.now.items c.args.rows
    ∙ ap (λ m. rows_under name c.args.lists.now.items ++ (if bytes_eq m name then folded_rows c.args.rows.items else []))
    c.in_ok-name.ensures.bytes
