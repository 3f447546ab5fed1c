use Rattle.sm_model.specs.GraphView.{maps_of}
use Rattle.sm_model_commands.proofs.Selects.{none_told, picked_told}
use Rattle.sm_model_commands.proofs.select.selected.Goals as goal

pub returns-in-Ok-picked_lines : goal.returns-in-Ok-picked_lines
returns-in-Ok-picked_lines c =
    picked_told (maps_of c.args.graph.now) c.args.text.now c.in-Ok.selector c.in-Ok-picked_lines.lines c.in-Ok.ensures
    c.in-Ok-picked_lines.ensures

pub returns : goal.returns
returns c =
    none_told (maps_of c.args.graph.now) c.args.text.now c.no_selector.result (c.no_selector.ensures c.args.text.now c.in-Err.ensures)
