use Rattle.std.proofs.Common.{None, Some}
use Rattle.sm_model.specs.GraphView.{maps_of}
use Rattle.sm_model.specs.Reaching.{id_of_number}
use Rattle.sm_select.specs.Picks.{HasValue}
use Rattle.sm_select.specs.View.{path_view}
use Rattle.sm_select.proofs.FilterFacts.{some_value}
use Rattle.sm_select.proofs.filters.has_value.Goals as goal

pub returns-in-Some : goal.returns-in-Some
returns-in-Some c =
    let g = c.args.graph.now in
    some_value (HasValue (maps_of g) (id_of_number g c.args.number) (path_view c.args.path.now)) (Some c.in-Some.field-0) c.in-Some.ensures

pub returns-in-None : goal.returns-in-None
returns-in-None c =
    let g = c.args.graph.now in
    some_value (HasValue (maps_of g) (id_of_number g c.args.number) (path_view c.args.path.now)) None c.in-None.ensures
