use Rattle.std.proofs.Common.{eqb}
use Rattle.std.proofs.lemmas.List.Filters.{dedup_is}
use Rattle.std.proofs.lemmas.List.Kept.{Contains-dedup_nat, Contains-from_dedup}
use Rattle.std.proofs.lemmas.List.Sorted.{Contains-permutation, IsPermutation-sym}
use Rattle.std.proofs.lemmas.Map.Keys.{IsStrictlyIncreasing-dedup}
use Rattle.sm_service.proofs.AgainPlaces.{again_told}
use Rattle.sm_service.proofs.operation_errors.in_order.Goals as goal

pub returns : goal.returns
returns c =
    let is = dedup_is eqb _ _ c.dedup.ensures.filtered in
    let moved = c.sort_unstable.ensures.permutation in
    again_told c.args.own.now c.args.shared.now c.args.places.items c.dedup.new.self.items c.requires.shared c.requires.places
    (rw is (IsStrictlyIncreasing-dedup _ c.sort_unstable.ensures.sorted))
    (λ k. (
      λ h. rw is (Contains-dedup_nat _ k (Contains-permutation _ _ k moved h)),
      λ h. Contains-permutation _ _ k (IsPermutation-sym _ _ moved) (Contains-from_dedup eqb _ k (rw is at h)),
    ))
