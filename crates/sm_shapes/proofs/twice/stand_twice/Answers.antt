use Rattle.std.proofs.Common.{◌≡◌, rules, subst}
use Rattle.std.specs.List.{IsAllAdjacentAnswer}
use Rattle.std.proofs.lemmas.Fn.{always_returns_same}
use Rattle.std.proofs.lemmas.List.Sorted.{ranks_by}
use Rattle.sm_shapes.specs.ValueView.{val_of}
use Rattle.sm_shapes.proofs.SortedTwice.{comes_before, twice_told}
use Rattle.sm_shapes.proofs.ValueOrders.{values_in_order}
use Rattle.sm_shapes.proofs.twice.stand_twice.Goals as goal

pub returns : goal.returns
returns c =
    twice_told (λ v. val_of v.now) c.args.values.items c.sort_by.new.self.items c.is_sorted_by.result c.in_ok-sort_by.ensures.permutation
    (c.in_ok-sort_by.ensures.sorted (comes_before (λ v. val_of v.now)) (ranks_by values_in_order (λ v. val_of v.now))
    (always_returns_same _ _ _ (λ a r f called. search rules)))
    (subst (λ xs. IsAllAdjacentAnswer (λ x y b. b ≡ comes_before (λ v. val_of v.now) x y) xs c.is_sorted_by.result) (search rules)
    (c.is_sorted_by.ensures.cases (comes_before (λ v. val_of v.now)) (always_returns_same _ _ _ (λ a r f called. search rules))))
