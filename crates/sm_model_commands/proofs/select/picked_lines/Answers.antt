use Rattle.std.proofs.Common.{◌≡◌, subst}
use Rattle.std.specs.Prelude.{IfOk}
use Rattle.sm_model.specs.GraphView.{maps_of}
use Rattle.sm_select.specs.Selectors.{steps_of}
use Rattle.sm_select.specs.View.{selector_view}
use Rattle.sm_model_commands.specs.SelectLines.{id_lines}
use Rattle.sm_model_commands.proofs.Selects.{lines_picked}
use Rattle.sm_model_commands.proofs.select.picked_lines.Goals as goal

pub returns : goal.returns
returns c =
    lines_picked (maps_of c.args.graph.now) (steps_of (selector_view c.args.selector.now)) c.in_ok-ids.ids.items c.id_lines.result
    c.in_ok-ids.ensures
    (subst (λ xs. IfOk c.id_lines.result (λ lines. lines.items ≡ id_lines xs)) c.as_slice.ensures.value c.id_lines.ensures)
