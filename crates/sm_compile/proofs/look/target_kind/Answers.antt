use Rattle.std.proofs.Common.{ap, sym, ◌∙◌}
use Rattle.sm_model.specs.GraphView.{maps_of}
use Rattle.sm_model.specs.Reaching.{id_of_number}
use Rattle.sm_compile.specs.steps.Looked.{kind_where, target_under}
use Rattle.sm_compile.proofs.LookedUp.{kind_missing}
use Rattle.sm_compile.proofs.look.target_kind.Goals as goal

pub returns-in-Some : goal.returns-in-Some
returns-in-Some c =
    c.kind_of.ensures ∙ sym (ap (kind_where (maps_of c.args.graph.now)) c.in-Some.ensures.1)

pub returns-in-None : goal.returns-in-None
returns-in-None c =
    let g = c.args.graph.now in
    kind_missing (maps_of g) (target_under (maps_of g) (id_of_number g c.args.member)) c.in-None.ensures
