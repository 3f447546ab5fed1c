-- Statements have one list of events: lists that rise and have the same entries are one.
use Rattle.std.proofs.Common.{◌≡◌, ◌⊎◌, inl, inr, ◌<◌, ℕ, zero, suc, List, [], ◌∷◌, length, sym, arith}
use Rattle.std.specs.Cmp.{IsTotalOrder}
use Rattle.std.specs.Cmp.Lexicographic.{nat_list_cmp_total}
use Rattle.std.specs.List.{AllByRecursion, Contains}
use Rattle.std.specs.List.Sorted.{IsStrictlySortedBy}
use Rattle.std.specs.declared.cmp.Ordering.TheVariants.{Less}
use Rattle.std.proofs.lemmas.Cmp.{then_total}
use Rattle.sm_model.specs.EventView.{EventTold, event_cmp, IsBeforeAll, AreInOrder}
use Rattle.sm_model.specs.Graphs.{text_cmp}
use Rattle.sm_model.proofs.OneRising.{one_rising}
use Rattle.sm_merge.specs.Merged.{AreEventsOf}
use Rattle.sm_merge.specs.Stated.{Stated}

by_text : (text : EventTold → List ℕ) → IsTotalOrder (λ a b. text_cmp (text a) (text b))
by_text text = record {
  antisymm = λ x y. nat_list_cmp_total.antisymm (text x) (text y);
  trans = λ x y z. nat_list_cmp_total.trans (text x) (text y) (text z);
  congr = λ x y z. nat_list_cmp_total.congr (text x) (text y) (text z);
}

pub event_order : IsTotalOrder event_cmp
event_order = then_total (by_text (λ e. e.shape)) (then_total (by_text (λ e. e.event)) (by_text (λ e. e.detail)))

abbrev pub Has : EventTold → List EventTold → Type 0
Has e [] = ⊥
Has e (f ∷ fs) = (e ≡ f) ⊎ Has e fs

pub has_each : (e : EventTold) (fs : List EventTold) → Contains fs e → Has e fs
has_each e [] (k, inside, at) = absurd (omega (arith, inside))
has_each e (f ∷ fs) (zero, inside, at) = inl (sym at)
has_each e (f ∷ fs) (suc k, inside, at) = let less : k < length fs = omega (arith, inside) in inr (has_each e fs (k, less, at))

pub each_has : (e : EventTold) (fs : List EventTold) → Has e fs → Contains fs e
each_has e [] h = absurd h
each_has e (f ∷ fs) (inl same) = let inside : 0 < length (f ∷ fs) = omega arith in (0, inside, sym same)
each_has e (f ∷ fs) (inr h) =
    let later = each_has e fs h in
    let inside : suc later.0 < length (f ∷ fs) = omega (arith, later.1) in
    (suc later.0, inside, later.2)

-- the order of events as the order of a list
above : (e : EventTold) (fs : List EventTold) → IsBeforeAll e fs → AllByRecursion (λ f. event_cmp e f ≡ Less) fs
above e [] h = tt
above e (f ∷ fs) h = (h.0, above e fs h.1)

pub sorted : (es : List EventTold) → AreInOrder es → IsStrictlySortedBy event_cmp es
unfolding IsStrictlySortedBy
sorted [] h = tt
sorted (e ∷ es) h = (above e es h.0, sorted es h.1)

pub one_list : (ss : List Stated) (es fs : List EventTold) → AreEventsOf ss es → AreEventsOf ss fs → Path (List EventTold) es fs
one_list ss es fs h k =
    one_rising event_order es fs (sorted es h.in_order) (sorted fs k.in_order) (λ e. (
      λ there. (k.all e).1 ((h.all e).0 there),
      λ there. (h.all e).1 ((k.all e).0 there),
    ))
