use Rattle.std.proofs.Common.{◌≡◌, ◌<◌, length, sym, subst, arith}
use Rattle.std.specs.Vec.{with_items}
use Rattle.std.proofs.lemmas.List.{with_items_is}
use Rattle.sm_select.specs.Neighbors.{AreNeighbors}
use Rattle.sm_select.specs.steps.Runs.{RiseFrom, runs_from}
use Rattle.sm_select.proofs.FilledRuns.{fills_ended, fills_rise, starts_begun}
use Rattle.sm_select.proofs.RunLists.{sums_fit}
use Rattle.sm_select.proofs.neighbors.Neighbors.new.Goals as goal

pub to_starts-steps-requires : goal.to_starts-steps-requires
to_starts-steps-requires c = record {
  few = sums_fit c.args.back c.args.links.now c.count_steps.new.counts
      (λ k lt. c.count_steps.ensures.steps k (subst (λ n. k < n) c.count_steps.ensures.whole lt)) (omega (arith, c.well_formed));
}

pub put_steps-requires-clause-none : goal.put_steps-requires-clause-none
put_steps-requires-clause-none c =
    starts_begun c.args.back c.args.links.now c.count_steps.new.counts c.to_starts-steps.new.counts c.as_mut_slice.result.now
    c.to_starts-steps.result
    (λ k lt. c.count_steps.ensures.steps k (subst (λ n. k < n) c.count_steps.ensures.whole lt))
    c.to_starts-steps.ensures.whole c.to_starts-steps.ensures.starts c.to_starts-steps.ensures.steps
    (omega (arith, c.as_mut_slice.ensures.len, c.in_ok-numbers.ensures.len))

pub invariant_of-result : goal.invariant_of-result
invariant_of-result c =
    let numbers = c.put_steps.new.numbers in
    let ends = c.put_steps.new.ends in
    subst (λ es. RiseFrom 0 es (length (with_items c.in_ok-numbers.numbers numbers).items))
    (sym (with_items_is c.in_ok-ends.ends ends (omega (
      arith,
      c.put_steps.auto.ends,
      c.to_starts-steps.ensures.whole,
      c.count_steps.ensures.whole,
      c.as_mut_slice-places.ensures.len,
    ))))
    (subst (λ ns. RiseFrom 0 ends (length ns))
    (sym (with_items_is c.in_ok-numbers.numbers numbers (omega (arith, c.put_steps.auto.numbers, c.as_mut_slice.ensures.len))))
    (fills_rise (length c.to_starts-steps.new.counts) c.args.back c.args.links.now numbers ends c.put_steps.ensures))

pub returns : goal.returns
returns c =
    let numbers = c.put_steps.new.numbers in
    let ends = c.put_steps.new.ends in
    let count : length c.to_starts-steps.new.counts ≡ c.args.count =
    omega (
      arith,
      c.to_starts-steps.ensures.whole,
      c.count_steps.ensures.whole,
      c.as_mut_slice-places.ensures.len,
      c.in_ok-ends.ensures.len,
    ) in
    subst (λ es. AreNeighbors c.args.count c.args.links.now c.args.back
    (runs_from (with_items c.in_ok-numbers.numbers numbers).items 0 es))
    (sym (with_items_is c.in_ok-ends.ends ends (omega (
      arith,
      c.put_steps.auto.ends,
      c.to_starts-steps.ensures.whole,
      c.count_steps.ensures.whole,
      c.as_mut_slice-places.ensures.len,
    ))))
    (subst (λ ns. AreNeighbors c.args.count c.args.links.now c.args.back (runs_from ns 0 ends))
    (sym (with_items_is c.in_ok-numbers.numbers numbers (omega (arith, c.put_steps.auto.numbers, c.as_mut_slice.ensures.len))))
    (subst (λ n. AreNeighbors n c.args.links.now c.args.back (runs_from numbers 0 ends)) count
    (fills_ended (length c.to_starts-steps.new.counts) c.args.back c.args.links.now numbers ends c.put_steps.ensures)))
