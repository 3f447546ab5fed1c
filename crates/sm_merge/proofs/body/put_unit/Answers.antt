use Rattle.std.proofs.Common.{◌≡◌, ◌++◌, [], ◌∷◌, ap, subst, ◌∙◌}
use Rattle.std.specs.Prelude.{OnOk}
use Rattle.sm_tree.specs.Node.{text}
use Rattle.sm_tree.specs.View.{members_view}
use Rattle.sm_tree.proofs.Views.{node_text}
use Rattle.sm_merge.proofs.body.put_unit.Goals as goal

pub returns : goal.returns
returns c =
    subst (λ n. OnOk c.put_pair.result
    (members_view c.put_pair.new.fields.items ≡ members_view c.args.fields.now.items ++ (c.args.name.now, n) ∷ []))
    (node_text c.in_ok-copy.field-0 ∙ ap text c.in_ok-copy.ensures.bytes) c.put_pair.ensures
