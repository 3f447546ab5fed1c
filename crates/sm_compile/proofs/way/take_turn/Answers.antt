use Rattle.std.proofs.Common.{subst}
use Rattle.sm_compile.specs.steps.Walking.{NoneIsNext}
use Rattle.sm_compile.proofs.way.take_turn.Goals as goal

pub leave-requires-clause-none : goal.leave-requires-clause-none
leave-requires-clause-none c =
    let g = c.args.graph.now in
    let w = c.args.walk.now in
    subst (λ ms. NoneIsNext g w.known.items ms w.shape w.at) c.as_slice-2.ensures.value
    (subst (λ ks. NoneIsNext g ks c.as_slice-2.result.now w.shape w.at) c.as_slice.ensures.value c.in-None.ensures)
