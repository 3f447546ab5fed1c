use Rattle.std.proofs.Common.{subst, sym}
use Rattle.sm_model.specs.GraphRows.{ids_of}
use Rattle.sm_model.specs.steps.TargetNumbers.{IsNumberAmong}
use Rattle.sm_model.specs.steps.Rising.{Rise}
use Rattle.sm_model.proofs.TargetsKept.{ids_rise, number_stands}
use Rattle.sm_model.proofs.graph.Graph.number.Goals as goal

pub number_in-requires-clause-rise : goal.number_in-requires-clause-rise
number_in-requires-clause-rise c = subst (λ rows. Rise (ids_of rows)) (sym c.as_slice.ensures.value) (ids_rise c.args.self.now)

pub returns : goal.returns
returns c =
    number_stands c.args.self.now c.args.id.now c.number_in.result
    (subst (λ rows. IsNumberAmong (ids_of rows) c.args.id.now c.number_in.result) c.as_slice.ensures.value c.number_in.ensures)
