use Rattle.std.proofs.Common.{sym, subst, ap, ◌<◌, ◌≡◌, ◌∙◌}
use Rattle.std.specs.Prelude.{Some}
use Rattle.sm_tree.specs.View.{node_of}
use Rattle.sm_shapes.specs.TableData.{shape_count}
use Rattle.sm_service.specs.ServiceView.{service_data}
use Rattle.sm_messages.specs.Goals.{goal_of, the_error}
use Rattle.sm_messages.specs.Messages.{place_told}
use Rattle.sm_messages.specs.TreeAnswers.{told_under}
use Rattle.sm_messages.proofs.HeadsJudged.{told_within}
use Rattle.sm_messages.proofs.TreeBodies.{goal_structure}
use Rattle.sm_messages.proofs.values.tree_reply.Goals as goal

pub error_at-requires : goal.error_at-requires
error_at-requires g c =
    let s = service_data c.args.service.now in
    let names : place_told s c.args.operation (told_under c.args.by_code (node_of c.args.tree.now)) ≡ Some c.in-Some.place =
    ap (place_told s c.args.operation) (sym c.text_told.ensures) ∙ sym c.place_told.ensures ∙ c.in-Some.is
    in (
      c.requires.number,
      told_within s c.args.operation (told_under c.args.by_code (node_of c.args.tree.now)) c.in-Some.place names,
    )

pub tree_value-requires-clause-number : goal.tree_value-requires-clause-number
tree_value-requires-clause-number g c =
    let s = service_data c.args.service.now in
    let names : place_told s c.args.operation (told_under c.args.by_code (node_of c.args.tree.now)) ≡ Some c.in-Some.place =
    ap (place_told s c.args.operation) (sym c.text_told.ensures) ∙ sym c.place_told.ensures ∙ c.in-Some.is
    in
    subst (λ e. e.shape < shape_count s.table) (sym c.error_at.ensures)
    (goal_structure s (goal_of c.args.operation (the_error c.in-Some.place)) c.requires.servable (
      c.requires.number,
      told_within s c.args.operation (told_under c.args.by_code (node_of c.args.tree.now)) c.in-Some.place names,
    )).0
