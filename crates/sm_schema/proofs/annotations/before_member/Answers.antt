use Rattle.std.proofs.Common.{codes, ap, ◌∙◌}
use Rattle.std.specs.Option.{option_copied}
use Rattle.sm_shapes.specs.TableView.{table_data}
use Rattle.sm_schema.specs.Noted.{default_tree, with_deprecated, with_member_notes, with_text, with_tree}
use Rattle.sm_schema.specs.steps.Joined.{joined}
use Rattle.sm_schema.specs.steps.Numbered.{listing}
use Rattle.sm_schema.proofs.annotations.before_member.Goals as goal

pub returns : goal.returns
returns c ps more =
    let d = listing (table_data c.args.table.now) c.args.json_names ps in
    let said = c.member-said.result in
    let default = default_tree d c.args.member in
    let last = with_deprecated said.deprecated more in
    let second = with_tree (codes "default") default last in
    c.in_ok-put_deprecated.ensures more ∙ c.in_ok-put_default.ensures ps last ∙ c.in_ok-put_said.ensures second
    ∙ ap (λ ps. joined ps (with_text (codes "description") (option_copied said.description) second)) c.no_pairs-pairs.ensures
    ∙ ap (λ m. with_member_notes m default more) c.member-said.ensures
