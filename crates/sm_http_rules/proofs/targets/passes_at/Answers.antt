use Rattle.std.proofs.Common.{sym, ◌∙◌}
use Rattle.std.specs.FinMap as fin
use Rattle.sm_model.specs.GraphView.{maps_of}
use Rattle.sm_model.specs.Reaching.{id_of_number}
use Rattle.sm_http_rules.specs.steps.Allowing.{test_of}
use Rattle.sm_http_rules.proofs.TargetTested.{kind_passes, member_fails}
use Rattle.sm_http_rules.proofs.targets.passes_at.Goals as goal

pub returns-in-Some : goal.returns-in-Some
returns-in-Some c =
    let m = maps_of c.args.graph.now in
    c.is_wanted.ensures
    ∙ sym (kind_passes (test_of c.args.wanted) (fin.get m.shapes (id_of_number c.args.graph.now c.args.number)) c.in-Some.kind
    c.in-Some.ensures)

pub returns-in-None : goal.returns-in-None
returns-in-None c = sym (member_fails (test_of c.args.wanted) c.args.graph.now c.args.number c.requires c.in-None.ensures)
