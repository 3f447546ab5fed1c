-- Events that are sorted, and of which each is kept once.
use Rattle.std.proofs.Common.{◌≡◌, ◌<◌, ◌+◌, ℕ, Bool, true, false, cond, List, [], ◌∷◌, length, get_or, IsPermutation, IsSortedBy, refl}
use Rattle.std.proofs.Common.{inl, inr, sym, ap, subst, ◌∙◌, arith}
use Rattle.std.specs.List.{AllByRecursion, Contains, dedup, dedup_from}
use Rattle.std.specs.List.Sorted.{IsSorted, IsStrictlySortedBy}
use Rattle.std.specs.FinMap.{slice_cmp-IsAntisymmetric, nat_cmp-IsAntisymmetric}
use Rattle.std.specs.Ordering.{eq_by_cmp, is_eq, is_lt, ordering_then}
use Rattle.std.specs.declared.cmp.Ordering.{Ordering}
use Rattle.std.specs.declared.cmp.Ordering.TheVariants.{Less, Equal, Greater}
use Rattle.std.proofs.lemmas.Bool.{true≢false}
use Rattle.std.proofs.lemmas.Cmp.{eq_by_cmp_equiv}
use Rattle.std.proofs.lemmas.List.{get_or-map, length-map}
use Rattle.std.proofs.lemmas.List.Kept.{Contains-dedup, Contains-from_dedup, IsStrictlySortedBy-dedup}
use Rattle.std.proofs.lemmas.List.Sorted.{Contains-permutation, IsPermutation-map, IsPermutation-sym}
use Rattle.sm_model.specs.EventView.{AreErrors, AreInOrder, EventTold, IsBeforeAll, event_cmp, event_view, events_view}
use Rattle.sm_model.specs.Graphs.{text_cmp}
use Rattle.sm_model.specs.declared.event.ModelEvent.{ModelEvent}
use Rattle.sm_model.specs.declared.event.Severity.TheVariants.{Error}
use Rattle.sm_model.proofs.OneRising.{contains_behind, contains_either, contains_head, contains_none}
use Rattle.sm_merge.specs.steps.EventLists.{HaveSameEvents}
use Rattle.sm_merge.proofs.OneList.{event_order}

abbrev pub same : ModelEvent → ModelEvent → Bool
same a b = is_eq (event_cmp (event_view a) (event_view b))

abbrev pub before : ModelEvent → ModelEvent → Bool
before a b = is_lt (event_cmp (event_view a) (event_view b))

abbrev same_told : EventTold → EventTold → Bool
same_told = eq_by_cmp event_cmp

seen_from : (e : ModelEvent) (es : List ModelEvent)
    → events_view (dedup_from same e es) ≡ dedup_from same_told (event_view e) (events_view es)
seen_from e [] = refl
seen_from e (f ∷ es) = by_test (seen_from e es) (seen_from f es) (same f e)
  where
    by_test : events_view (dedup_from same e es) ≡ dedup_from same_told (event_view e) (events_view es)
        → events_view (dedup_from same f es) ≡ dedup_from same_told (event_view f) (events_view es) → (b : Bool)
        → events_view (cond b (dedup_from same e es) (e ∷ dedup_from same f es))
        ≡ cond b (dedup_from same_told (event_view e) (events_view es))
        (event_view e ∷ dedup_from same_told (event_view f) (events_view es))
    by_test first second true = first
    by_test first second false = ap (λ fs. event_view e ∷ fs) second

seen : (es : List ModelEvent) → events_view (dedup same es) ≡ dedup same_told (events_view es)
seen [] = refl
seen (e ∷ es) = seen_from e es

still_sorted : (es : List ModelEvent) → IsSortedBy before es → IsSorted event_cmp (events_view es)
still_sorted [] up k d low high = absurd (omega (arith, high))
still_sorted (e ∷ es) up k d low high =
    let long = length-map (e ∷ es) event_view in
    let within : k + 1 < length (e ∷ es) = omega (arith, high, long) in
    let here : k < length (e ∷ es) = omega (arith, within) in
    ap (λ f. is_lt (event_cmp f (get_or (events_view (e ∷ es)) k d))) (get_or-map event_view (e ∷ es) (k + 1) e d within)
    ∙ ap (λ f. is_lt (event_cmp (event_view (get_or (e ∷ es) (k + 1) e)) f)) (get_or-map event_view (e ∷ es) k e d here)
    ∙ up k e low within

before_each : (e : EventTold) (es : List EventTold) → AllByRecursion (λ f. event_cmp e f ≡ Less) es → IsBeforeAll e es
before_each e [] h = tt
before_each e (f ∷ es) h = (h.0, before_each e es h.1)

in_order_from : (es : List EventTold) → IsStrictlySortedBy event_cmp es → AreInOrder es
unfolding IsStrictlySortedBy
in_order_from [] h = tt
in_order_from (e ∷ es) h = (before_each e es h.0, in_order_from es h.1)

pub ordered : (es fs : List ModelEvent) → IsSortedBy before es → fs ≡ dedup same es → AreInOrder (events_view fs)
ordered es fs up is =
    subst AreInOrder (sym (ap events_view is ∙ seen es))
    (in_order_from _ (IsStrictlySortedBy-dedup event_order (λ x y. refl) (events_view es) (still_sorted es up)))

-- events that tie are one
parts : (r s : Ordering) → is_eq (ordering_then r s) ≡ true → (r ≡ Equal) × (is_eq s ≡ true)
parts Less s h = absurd (true≢false (sym h))
parts Equal s h = (refl, h)
parts Greater s h = absurd (true≢false (sym h))

equal_from : (r : Ordering) → is_eq r ≡ true → r ≡ Equal
equal_from Less h = absurd (true≢false (sym h))
equal_from Equal h = refl
equal_from Greater h = absurd (true≢false (sym h))

one_text : (a b : List ℕ) → text_cmp a b ≡ Equal → a ≡ b
one_text a b e = slice_cmp-IsAntisymmetric nat_cmp-IsAntisymmetric a b e

pub one_event : (a b : EventTold) → same_told a b ≡ true → a ≡ b
one_event a b h =
    let first = parts (text_cmp a.shape b.shape) (ordering_then (text_cmp a.event b.event) (text_cmp a.detail b.detail)) h in
    let second = parts (text_cmp a.event b.event) (text_cmp a.detail b.detail) first.1 in
    let shape = one_text a.shape b.shape first.0 in
    let event = one_text a.event b.event second.0 in
    let detail = one_text a.detail b.detail (equal_from (text_cmp a.detail b.detail) second.1) in
    λ i. record { shape = shape i; event = event i; detail = detail i }

pub same_events : (es fs gs : List ModelEvent) → IsPermutation es fs → gs ≡ dedup same fs → HaveSameEvents (events_view es) (events_view gs)
same_events es fs gs moved is e =
    let all : events_view gs ≡ dedup same_told (events_view fs) = ap events_view is ∙ seen fs in
    let told = IsPermutation-map event_view es fs moved in (
      λ has. subst (λ l. Contains l e) (sym all) (Contains-dedup (eq_by_cmp_equiv event_order) one_event (events_view fs) e
          (Contains-permutation (events_view es) (events_view fs) e told has)),
      λ has. Contains-permutation (events_view fs) (events_view es) e (IsPermutation-sym (events_view es) (events_view fs) told)
          (Contains-from_dedup same_told (events_view fs) e (subst (λ l. Contains l e) all has)),
    )

-- and each is one of them
pub kept_events : (es fs gs : List ModelEvent) → IsPermutation es fs → gs ≡ dedup same fs → (e : ModelEvent) → Contains gs e → Contains es e
kept_events es fs gs moved is e h =
    Contains-permutation fs es e (IsPermutation-sym es fs moved) (Contains-from_dedup same fs e (subst (λ l. Contains l e) is h))

-- so it is an error where all are
error_among : (es : List ModelEvent) (e : ModelEvent) → AreErrors es → Contains es e → e.severity ≡ Error
error_among [] e h c = absurd (contains_none e c)
error_among (f ∷ es) e h c = elim (contains_either f e es c) [
  | inl is ↦ subst (λ (x : ModelEvent). x.severity ≡ Error) is h.0
  | inr more ↦ error_among es e h.1 more
]

pub errors_among : (es fs : List ModelEvent) → ((e : ModelEvent) → Contains fs e → Contains es e) → AreErrors es → AreErrors fs
errors_among es [] kept h = tt
errors_among es (f ∷ fs) kept h = (
  error_among es f h (kept f (contains_head f fs)),
  errors_among es fs
      (λ e c. kept e (contains_behind f e fs c)) h,
)
