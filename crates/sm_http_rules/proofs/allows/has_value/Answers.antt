use Rattle.std.proofs.Common.{sym, ◌∙◌}
use Rattle.std.specs.FinMap as fin
use Rattle.sm_model.specs.GraphView.{maps_of}
use Rattle.sm_model.specs.Reaching.{id_of_number}
use Rattle.sm_http_rules.specs.steps.Allowing.{map_test}
use Rattle.sm_http_rules.proofs.AllowedTold.{map_free}
use Rattle.sm_http_rules.proofs.TargetTested.{no_target, target_tested}
use Rattle.sm_http_rules.proofs.allows.has_value.Goals as goal

pub returns-in-Some : goal.returns-in-Some
returns-in-Some c =
    let m = maps_of c.args.graph.now in
    c.is_value_at.ensures
    ∙ sym (target_tested (map_test m c.args.values) m (fin.get m.shapes (id_of_number c.args.graph.now c.args.member))
    (id_of_number c.args.graph.now c.in-Some.target) c.in-Some.ensures.1)

pub returns-in-None : goal.returns-in-None
returns-in-None c =
    let m = maps_of c.args.graph.now in
    sym (no_target (map_test m c.args.values) (map_free m c.args.values) m
    (fin.get m.shapes (id_of_number c.args.graph.now c.args.member)) c.in-None.ensures)
