-- A selector picks one list of ids, and it can't be that it picks none.
use Rattle.std.proofs.Common.{◌≡◌, inl, inr, ℕ, ◌<◌, zero, suc, Bool, true, false, cond, List, [], ◌∷◌, length, map, refl, sym, ◌∙◌}
use Rattle.std.proofs.Common.{subst, arith, Some}
use Rattle.std.specs.Cmp.Lexicographic.{nat_list_cmp_total}
use Rattle.std.specs.FinMap as fin
use Rattle.std.specs.FinMap.{entries_sorted, get-entries, nat_cmp-IsAntisymmetric, slice_cmp-IsAntisymmetric}
use Rattle.std.specs.FinMap.Entries.{find}
use Rattle.std.specs.Prelude.{T}
use Rattle.std.specs.List.{AllByRecursion, Contains}
use Rattle.std.specs.List.Sorted.{IsStrictlySortedBy}
use Rattle.std.specs.Ordering.{is_eq}
use Rattle.std.specs.declared.cmp.Ordering.{Ordering}
use Rattle.std.specs.declared.cmp.Ordering.TheVariants.{Less, Equal, Greater}
use Rattle.std.proofs.lemmas.Bool.{true≢false}
use Rattle.std.proofs.lemmas.Option.{none-some}
use Rattle.sm_model.specs.Formed.{StandsAmong}
use Rattle.sm_model.specs.Graphs.{Entry, text_cmp}
use Rattle.sm_model.proofs.OneRising.{one_rising}
use Rattle.sm_select.specs.Laws.{OnePicked, SomePicked}
use Rattle.sm_select.specs.Picks.{IsPicked}
use Rattle.sm_select.proofs.LedInGraph.{picks_in}
use Rattle.sm_select.proofs.PickedIds.{keys_sorted}

stands_from : (k : List ℕ) (ks : List (List ℕ)) → Contains ks k → StandsAmong k ks
stands_from k [] (i, inside, at) = absurd (omega (arith, inside))
stands_from k (j ∷ ks) (zero, inside, at) = inl (sym at)
stands_from k (j ∷ ks) (suc i, inside, at) = let less : i < length ks = omega (arith, inside) in inr (stands_from k ks (i, less, at))

from_stands : (k : List ℕ) (ks : List (List ℕ)) → StandsAmong k ks → Contains ks k
from_stands k [] h = absurd h
from_stands k (j ∷ ks) (inl same) = let inside : 0 < length (j ∷ ks) = omega arith in (0, inside, sym same)
from_stands k (j ∷ ks) (inr h) =
    let later = from_stands k ks h in
    let inside : suc later.0 < length (j ∷ ks) = omega (arith, later.1) in (suc later.0, inside, later.2)

-- ids that these come before
abbrev IsBefore : List ℕ → List (List ℕ) → Type 0
IsBefore k ks = AllByRecursion (λ j. text_cmp k j ≡ Less) ks

pub one_picked : OnePicked
one_picked g steps ids others h k =
    one_rising nat_list_cmp_total ids others h.in_order k.in_order (λ id. (
      λ there. (k.picked id).1 ((h.picked id).0 there),
      λ there. (h.picked id).1 ((k.picked id).0 there),
    ))

-- what holds of some ids, in their order
record AreSome (P : List ℕ → Type 0) (xs : List (List ℕ)) : Type 0 where
  ids : List (List ℕ)
  before : (x : List ℕ) → IsBefore x xs → IsBefore x ids
  rise : IsStrictlySortedBy text_cmp xs → IsStrictlySortedBy text_cmp ids
  holds : (k : List ℕ) → StandsAmong k ids → P k
  all : (k : List ℕ) → StandsAmong k xs → P k → StandsAmong k ids

module _ (P : List ℕ → Type 0) where
  risen : (x : List ℕ) (xs : List (List ℕ)) (rest : AreSome P xs) → IsStrictlySortedBy text_cmp (x ∷ xs)
      → IsStrictlySortedBy text_cmp (x ∷ rest.ids)
  unfolding IsStrictlySortedBy
  risen x xs rest h = (rest.before x h.0, rest.rise h.1)

  risen_behind : (x : List ℕ) (xs : List (List ℕ)) (rest : AreSome P xs) → IsStrictlySortedBy text_cmp (x ∷ xs)
      → IsStrictlySortedBy text_cmp rest.ids
  unfolding IsStrictlySortedBy
  risen_behind x xs rest h = rest.rise h.1

  with_id : (x : List ℕ) (xs : List (List ℕ)) → P x → AreSome P xs → AreSome P (x ∷ xs)
  with_id x xs is rest = record {
    ids = x ∷ rest.ids;
    before = λ y h. (h.0, rest.before y h.1);
    rise = risen x xs rest;
    holds = λ k h. elim h [ inl same ↦ subst P (sym same) is | inr later ↦ rest.holds k later ];
    all = λ k h here. elim h [ inl same ↦ inl same | inr later ↦ inr (rest.all k later here) ];
  }

  without_id : (x : List ℕ) (xs : List (List ℕ)) → (P x → ⊥) → AreSome P xs → AreSome P (x ∷ xs)
  without_id x xs none rest = record {
    ids = rest.ids;
    before = λ y h. rest.before y h.1;
    rise = risen_behind x xs rest;
    holds = rest.holds;
    all = λ k h here. elim h [ inl same ↦ absurd (none (subst P same here)) | inr later ↦ rest.all k later here ];
  }

  empty_rises : IsStrictlySortedBy text_cmp []
  unfolding IsStrictlySortedBy
  empty_rises = tt

  some_of : (xs : List (List ℕ)) → (AreSome P xs → ⊥) → ⊥
  some_of [] none = none (record {
    ids = [];
    before = λ x h. tt;
    rise = λ h. empty_rises;
    holds = λ k h. absurd h;
    all = λ k h here. absurd h;
  })
  some_of (x ∷ xs) none = some_of xs (λ rest. none (without_id x xs (λ is. none (with_id x xs is rest)) rest))

-- a key that is found stands among the keys
abbrev key_list : List (List ℕ × Entry) → List (List ℕ)
key_list es = map (λ (e : List ℕ × Entry). e.0) es

equal_from : (r : Ordering) → is_eq r ≡ true → r ≡ Equal
equal_from Less h = absurd (true≢false (sym h))
equal_from Equal h = refl
equal_from Greater h = absurd (true≢false (sym h))

found_stands : (q : List ℕ) (es : List (List ℕ × Entry)) (x : Entry) → find text_cmp q es ≡ Some x → StandsAmong q (key_list es)
found_stands q [] x h = absurd (none-some x h)
found_stands q (e ∷ es) x h = by_test (λ rest. found_stands q es x rest) (is_eq (text_cmp q e.0)) refl h
  where
    by_test : (find text_cmp q es ≡ Some x → StandsAmong q (key_list es)) → (b : Bool) → is_eq (text_cmp q e.0) ≡ b
        → cond b (Some e.1) (find text_cmp q es) ≡ Some x → StandsAmong q (key_list (e ∷ es))
    by_test later true is there =
        inl (slice_cmp-IsAntisymmetric nat_cmp-IsAntisymmetric q e.0 (equal_from (text_cmp q e.0) is))
    by_test later false is there = inr (later there)

from_t : (b : Bool) → T b → b ≡ true
from_t true h = refl
from_t false h = absurd h

pub some_picked : SomePicked
some_picked g steps none = some_of (IsPicked g steps) (key_list (fin.entries g.shapes)) (λ s. none s.ids (record {
  in_order = s.rise (keys_sorted (fin.entries g.shapes) (from_t _ (entries_sorted g.shapes)));
  picked = λ id. (
    λ h. s.holds id (stands_from id s.ids h),
    λ h.
        let there = picks_in g steps h.0 id h.1.0 h.2 in
        from_stands id s.ids (s.all id (found_stands id (fin.entries g.shapes) there.0 (sym (get-entries g.shapes id) ∙ there.1)) h),
  );
}))
