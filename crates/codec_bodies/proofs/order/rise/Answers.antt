use Rattle.std.proofs.Common.{◌+◌, drop, arith}
use Rattle.std.specs.Prelude.{slice_index_or}
use Rattle.std.specs.List.Sorted.{IsStrictlySortedBy}
use Rattle.std.specs.Ordering.{nat_cmp}
use Rattle.std.proofs.lemmas.Cmp.{nat_cmp_total}
use Rattle.std.proofs.lemmas.List.{drop_more}
use Rattle.codec_bodies.proofs.Rising.{rise_behind, none_rise, one_rises, step_behind, first_step, at_end, drop_none, less_first}
use Rattle.codec_bodies.proofs.order.rise.Goals.{in-Some+else-number-before, in-None}
use Rattle.codec_bodies.proofs.order.rise.Goals as goal

pub loop-number-preserved : goal.loop-number-preserved
loop-number-preserved c h =
    let i = c.loop-number.number-index in
    let xs = c.args.numbers.now in
    let x = slice_index_or xs i 0 in
    let cut = drop_more xs i 0 (omega (arith, c.loop-number-test.true, c.loop-number.auto.number-index-end)) in
    elim c.match-last.branch [
      | in-Some+else-number-before w ↦
          step_behind (IsStrictlySortedBy nat_cmp) c.loop-number.last w.in-Some.before x (drop i xs) (drop (i + 1) xs) _ w.in-Some.is cut
          (rise_behind nat_cmp nat_cmp_total w.in-Some.before x (drop (i + 1) xs)
          (less_first w.in-Some.before x (omega (arith, w.if-number-before.false)))) c.loop-number.invariant h
      | in-None w ↦
          first_step (IsStrictlySortedBy nat_cmp) c.loop-number.last x (drop i xs)
          (drop (i + 1) xs) _ w.in-None.is cut c.loop-number.invariant h
    ]

pub returns : goal.returns
returns c good =
    at_end (IsStrictlySortedBy nat_cmp) c.loop-number.last (drop c.loop-number.number-index c.args.numbers.now) _
    (drop_none c.args.numbers.now c.loop-number.number-index
    (omega (arith, c.loop-number-test.false, c.loop-number.auto.number-index-end)))
    (none_rise nat_cmp nat_cmp_total) (one_rises nat_cmp nat_cmp_total) c.loop-number.invariant
