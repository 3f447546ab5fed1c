use Rattle.std.proofs.Common.{sym, ◌∙◌}
use Rattle.std.specs.FinMap as fin
use Rattle.sm_model.specs.GraphView.{maps_of}
use Rattle.sm_model.specs.Reaching.{id_of_number}
use Rattle.sm_rules.specs.Bindings.{allows_target}
use Rattle.sm_http_traits.specs.Bindings.{binding_said}
use Rattle.sm_http_rules.proofs.AllowedTold.{all_free}
use Rattle.sm_http_rules.proofs.TargetTested.{no_target, target_tested}
use Rattle.sm_http_rules.proofs.allows.allows.Goals as goal

pub returns-in-Some : goal.returns-in-Some
returns-in-Some c =
    let m = maps_of c.args.graph.now in
    c.allows_at.ensures
    ∙ sym (target_tested (allows_target m (binding_said c.args.binding)) m (fin.get m.shapes (id_of_number c.args.graph.now c.args.member))
    (id_of_number c.args.graph.now c.in-Some.target) c.in-Some.ensures.1)

pub returns-in-None : goal.returns-in-None
returns-in-None c =
    let m = maps_of c.args.graph.now in
    sym (no_target (allows_target m (binding_said c.args.binding)) (all_free m (binding_said c.args.binding)) m
    (fin.get m.shapes (id_of_number c.args.graph.now c.args.member)) c.in-None.ensures)
