use Rattle.std.proofs.Common.{◌≡◌, rules, subst}
use Rattle.std.specs.List.{IsAllAdjacentAnswer}
use Rattle.std.proofs.lemmas.Fn.{always_returns_same}
use Rattle.std.proofs.lemmas.List.Sorted.{ranks_by}
use Rattle.sm_shapes.specs.Values.{text_val}
use Rattle.sm_shapes.proofs.SortedTwice.{comes_before, twice_told}
use Rattle.sm_shapes.proofs.ValueOrders.{values_in_order}
use Rattle.sm_compile.proofs.Differing.{texts_told}
use Rattle.sm_compile.proofs.differ.texts_differ.Goals as goal

pub returns : goal.returns
returns c =
    texts_told c.args.texts.items c.is_sorted_by.result
    (twice_told (λ t. text_val t.now) c.args.texts.items c.sort_unstable_by.new.self.items c.is_sorted_by.result
    c.sort_unstable_by.ensures.permutation
    (c.sort_unstable_by.ensures.sorted (comes_before (λ t. text_val t.now)) (ranks_by values_in_order (λ t. text_val t.now))
    (always_returns_same _ _ _ (λ a r f called. search rules)))
    (subst (λ xs. IsAllAdjacentAnswer (λ x y b. b ≡ comes_before (λ t. text_val t.now) x y) xs c.is_sorted_by.result) (search rules)
    (c.is_sorted_by.ensures.cases (comes_before (λ t. text_val t.now)) (always_returns_same _ _ _ (λ a r f called. search rules)))))
