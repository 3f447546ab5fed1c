use Rattle.std.proofs.Common.{sym, subst}
use Rattle.std.specs.List.{Contains}
use Rattle.std.proofs.lemmas.List.{take_all}
use Rattle.sm_load.proofs.SuppressorsFound.{none_yet}
use Rattle.sm_load.proofs.suppressed.suppressor_for.Goals as goal

pub loop-suppressor-preserved : goal.loop-suppressor-preserved
loop-suppressor-preserved c =
    none_yet c.args.suppressors.now c.loop-suppressor.suppressor-index c.suppressor-item.result c.args.event.now c.id.result.now c.eq.result
    c.loop-suppressor-test.true c.suppressor-item.is c.loop-suppressor.invariant c.id.ensures c.eq.ensures c.if-eq.false

pub returns : goal.returns
returns c = λ s among is.
    c.loop-suppressor.invariant s
    (subst (λ ss. Contains ss s) (sym (take_all c.loop-suppressor.suppressor-index c.args.suppressors.now c.loop-suppressor-test.false)) among)
    is
