-- Ids that rise, and those of them of which something holds: that there is such a list, said by two denials.
use Rattle.std.proofs.Common.{◌≡◌, inl, inr, ℕ, Bool, true, false, cond, List, [], ◌∷◌, map, Some, refl, sym, ◌∙◌, subst}
use Rattle.std.specs.Prelude.{◌↔◌, T}
use Rattle.std.specs.Cmp.Lexicographic.{nat_list_cmp_total}
use Rattle.std.specs.FinMap as fin
use Rattle.std.specs.FinMap.{entries_sorted, get-entries, nat_cmp-IsAntisymmetric, slice_cmp-IsAntisymmetric}
use Rattle.std.specs.FinMap.Entries.{below_all, find, is_sorted}
use Rattle.std.specs.List.{AllByRecursion, Contains}
use Rattle.std.specs.List.Sorted.{IsStrictlySortedBy}
use Rattle.std.specs.Ordering.{is_eq, is_lt}
use Rattle.std.specs.declared.cmp.Ordering.{Ordering}
use Rattle.std.specs.declared.cmp.Ordering.TheVariants.{Less, Equal, Greater}
use Rattle.std.proofs.lemmas.Option.{none-some}
use Rattle.sm_model.specs.Graphs.{GraphMaps, text_cmp}
use Rattle.sm_model.specs.Relations.{IsInGraph}
use Rattle.sm_model.proofs.OneRising.{before_one, contains_behind, contains_either, contains_head, contains_none}
use Rattle.sm_model.proofs.Searching.{and_left, and_right, less_from}
use Rattle.sm_model.proofs.Worklist.{apart}

all_from : (P : List ℕ → Type 0) (ys : List (List ℕ)) → ((y : List ℕ) → Contains ys y → P y) → AllByRecursion P ys
all_from P [] h = tt
all_from P (y ∷ ys) h = (h y (contains_head y ys), all_from P ys (λ z there. h z (contains_behind y z ys there)))

-- those of a list that rises of which something holds
module _ (In : List ℕ → Type 0) where
  abbrev pub AreKept : List (List ℕ) → List (List ℕ) → Type 0
  AreKept ks rs = (x : List ℕ) → Contains rs x ↔ (Contains ks x × In x)

  with_one : (k : List ℕ) (ks rs : List (List ℕ)) → In k → AreKept ks rs → AreKept (k ∷ ks) (k ∷ rs)
  with_one k ks rs holds_here are x = (
    λ there. elim (contains_either k x rs there) [
      | inl same ↦ (subst (Contains (k ∷ ks)) same (contains_head k ks), subst In same holds_here)
      | inr later ↦ let r = (are x).0 later in (contains_behind k x ks r.0, r.1)
    ],
    λ h. elim (contains_either k x ks h.0) [
      | inl same ↦ subst (Contains (k ∷ rs)) same (contains_head k rs)
      | inr later ↦ contains_behind k x rs ((are x).1 (later, h.1))
    ],
  )

  without_one : (k : List ℕ) (ks rs : List (List ℕ)) → (In k → ⊥) → AreKept ks rs → AreKept (k ∷ ks) rs
  without_one k ks rs never are x = (
    λ there. let r = (are x).0 there in (contains_behind k x ks r.0, r.1),
    λ h. elim (contains_either k x ks h.0) [
      | inl same ↦ absurd (never (subst In (sym same) h.1))
      | inr later ↦ (are x).1 (later, h.1)
    ],
  )

  pub some_kept : (ks : List (List ℕ)) → IsStrictlySortedBy text_cmp ks
      → ((rs : List (List ℕ)) → IsStrictlySortedBy text_cmp rs → AreKept ks rs → ⊥) → ⊥
  unfolding IsStrictlySortedBy
  some_kept [] rise none = none [] tt (λ x. ((λ there. absurd (contains_none x there)), λ h. absurd (contains_none x h.0)))
  some_kept (k ∷ ks) rise none = some_kept ks rise.1 (λ rs rises are.
      let below = all_from (λ y. text_cmp k y ≡ Less) rs (λ y there. before_one nat_list_cmp_total k y ks rise.0 ((are y).0 there).0) in
      none rs rises (without_one k ks rs (λ here. none (k ∷ rs) (below, rises) (with_one k ks rs here are)) are))

-- the ids of a graph
holds : (b : Bool) → T b → b ≡ true
holds true h = refl
holds false h = absurd h

tied : (r : Ordering) → is_eq r ≡ true → r ≡ Equal
tied Less h = absurd (apart h)
tied Equal h = refl
tied Greater h = absurd (apart h)

module _ {X : Type 0} where
  below_keys : (k : List ℕ) (es : List (List ℕ × X)) → below_all text_cmp k es ≡ true
      → AllByRecursion (λ y. text_cmp k y ≡ Less) (map (λ e. e.0) es)
  below_keys k [] h = tt
  below_keys k (e ∷ es) h =
      (less_from (text_cmp k e.0) (and_left _ _ h), below_keys k es (and_right (is_lt (text_cmp k e.0)) _ h))

  keys_rise : (es : List (List ℕ × X)) → is_sorted text_cmp es ≡ true → IsStrictlySortedBy text_cmp (map (λ e. e.0) es)
  unfolding IsStrictlySortedBy
  keys_rise [] h = tt
  keys_rise (e ∷ es) h = (below_keys e.0 es (and_left _ _ h), keys_rise es (and_right (below_all text_cmp e.0 es) _ h))

  key_found : (es : List (List ℕ × X)) (q : List ℕ) (x : X) → find text_cmp q es ≡ Some x → Contains (map (λ e. e.0) es) q
  key_found [] q x h = absurd (none-some x h)
  key_found (e ∷ es) q x h = by (λ rest. key_found es q x rest) (is_eq (text_cmp q e.0)) refl h
    where
      by : (find text_cmp q es ≡ Some x → Contains (map (λ e. e.0) es) q) → (b : Bool) → is_eq (text_cmp q e.0) ≡ b
          → cond b (Some e.1) (find text_cmp q es) ≡ Some x → Contains (e.0 ∷ map (λ e. e.0) es) q
      by later true is at =
          let same : q ≡ e.0 = slice_cmp-IsAntisymmetric nat_cmp-IsAntisymmetric q e.0 (tied (text_cmp q e.0) is) in
          subst (Contains (e.0 ∷ map (λ e. e.0) es)) (sym same) (contains_head e.0 (map (λ e. e.0) es))
      by later false is at = contains_behind e.0 q (map (λ e. e.0) es) (later at)

module _ (g : GraphMaps) where
  abbrev pub graph_ids : List (List ℕ)
  graph_ids = fin.keys g.shapes

  pub graph_ids_rise : IsStrictlySortedBy text_cmp (fin.keys g.shapes)
  graph_ids_rise = keys_rise (fin.entries g.shapes) (holds _ (entries_sorted g.shapes))

  pub among_graph : (id : List ℕ) → IsInGraph g id → Contains (fin.keys g.shapes) id
  among_graph id h = key_found (fin.entries g.shapes) id h.0 (sym (get-entries g.shapes id) ∙ h.1)
