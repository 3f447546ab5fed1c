use Rattle.std.proofs.Common.{get_or, length, suc, arith}
use Rattle.sm_select.proofs.RunLists.{sums_rise}
use Rattle.sm_select.proofs.neighbors.to_starts.Goals as goal

pub overflow_add-before : goal.overflow_add-before
overflow_add-before c =
    let at = c.loop-number in
    let old = c.args.counts.now in
    omega (
      arith,
      at.invariant.sum,
      at.invariant.later at.number (omega arith),
      c.requires.few,
      sums_rise (λ j. get_or old j 0) (suc at.number) (length old) (omega (arith, c.loop-number-test.true)),
    )
