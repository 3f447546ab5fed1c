use Rattle.std.proofs.Common.{eqb}
use Rattle.std.proofs.lemmas.List.Filters.{dedup_is}
use Rattle.std.proofs.lemmas.List.Kept.{Contains-dedup_nat, Contains-from_dedup}
use Rattle.std.proofs.lemmas.List.Sorted.{Contains-permutation, IsPermutation-sym}
use Rattle.std.proofs.lemmas.Map.Keys.{IsStrictlyIncreasing-dedup}
use Rattle.sm_passes.proofs.numbers.rising.Goals as goal

pub returns-clause-rise : goal.returns-clause-rise
returns-clause-rise c =
    rw (dedup_is eqb _ _ c.dedup.ensures.filtered) (IsStrictlyIncreasing-dedup _ c.sort_unstable.ensures.sorted)

pub returns-clause-same : goal.returns-clause-same
returns-clause-same c k =
    let is = dedup_is eqb _ _ c.dedup.ensures.filtered in
    let moved = c.sort_unstable.ensures.permutation in (
      λ h. rw is (Contains-dedup_nat _ k (Contains-permutation _ _ k moved h)),
      λ h. Contains-permutation _ _ k (IsPermutation-sym _ _ moved) (Contains-from_dedup eqb _ k (rw is at h)),
    )
