-- Where a binary search ends among entries whose keys rise by the bytes of texts, and what a finite map gives there.
use Rattle.std.proofs.Common.{inl, inr, ◌≡◌, ℕ, ◌<◌, ◌≤◌, Bool, true, false, List, [], ◌∷◌, length, get_or, map, Some, None, Option, sym}
use Rattle.std.proofs.Common.{ap, ◌∙◌, suc, subst, refl, arith, zero}
use Rattle.std.specs.Prelude.{◌&&◌, IsSomeAnd, slice_get, cond}
use Rattle.std.specs.Option.{option_map}
use Rattle.std.specs.List.{HoldsAt}
use Rattle.std.specs.List.Sorted.{IsNonDecreasingBy, IsPartitionPoint}
use Rattle.std.specs.FinMap.{slice_cmp-IsAntisymmetric, nat_cmp-IsAntisymmetric}
use Rattle.std.proofs.lemmas.Option.{slice_get-map, slice_get-get_or}
use Rattle.std.proofs.lemmas.List.{get_or-map, length-map}
use Rattle.std.proofs.lemmas.Bool.{cases_lt}
use Rattle.std.specs.FinMap.Entries.{is_sorted, below_all, find}
use Rattle.std.specs.Cmp.Lexicographic.{nat_list_cmp_total}
use Rattle.std.specs.Ordering.{ordering_index, ordering_reverse, is_lt, is_eq}
use Rattle.std.specs.declared.cmp.Ordering.{Ordering}
use Rattle.std.specs.declared.cmp.Ordering.TheVariants.{Less, Equal, Greater}
use Rattle.sm_model.specs.Graphs.{text_cmp}

pub and_left : (a b : Bool) → (a && b) ≡ true → a ≡ true
and_left true b h = refl
and_left false b h = h

pub and_right : (a b : Bool) → (a && b) ≡ true → b ≡ true
and_right true b h = h
and_right false b h = absurd (subst (λ c. cond c ⊥ (Unit {0})) h tt)

pub less_from : (r : Ordering) → is_lt r ≡ true → r ≡ Less
less_from Less h = refl
less_from Equal h = absurd (subst (λ c. cond c ⊥ (Unit {0})) h tt)
less_from Greater h = absurd (subst (λ c. cond c ⊥ (Unit {0})) h tt)

-- the order of texts, the other way round
turned : (a b : List ℕ) → text_cmp b a ≡ ordering_reverse (text_cmp a b)
turned a b = nat_list_cmp_total.antisymm b a

turned_equal : (a b : List ℕ) → text_cmp a b ≡ Equal → text_cmp b a ≡ Equal
turned_equal a b e = turned a b ∙ ap ordering_reverse e

reversed_apart : (r : Ordering) → is_eq r ≡ false → is_eq (ordering_reverse r) ≡ false
reversed_apart Less h = refl
reversed_apart Equal h = h
reversed_apart Greater h = refl

turned_apart : (a b : List ℕ) → is_eq (text_cmp a b) ≡ false → is_eq (text_cmp b a) ≡ false
turned_apart a b h = ap is_eq (turned a b) ∙ reversed_apart (text_cmp a b) h

-- a key below one that ties with q comes before q
before_tied : (a b q : List ℕ) → text_cmp a b ≡ Less → text_cmp b q ≡ Equal → text_cmp a q ≡ Less
before_tied a b q less tied =
    turned q a ∙ ap ordering_reverse (nat_list_cmp_total.congr q b a (turned_equal b q tied) ∙ turned a b ∙ ap ordering_reverse less)

after : (a b q : List ℕ) → text_cmp a b ≡ Less → text_cmp b q ≡ Equal → text_cmp q a ≡ Greater
after a b q less tied = turned a q ∙ ap ordering_reverse (before_tied a b q less tied)

-- along keys that rise the answers for q rise
index_rises : (a b q : List ℕ) → text_cmp a b ≡ Less → (r : Ordering) → text_cmp b q ≡ r → ordering_index (text_cmp a q) ≤ ordering_index r
index_rises a b q less Less below = subst (λ r. ordering_index r ≤ 0) (sym (nat_list_cmp_total.trans a b q less below)) (omega arith)
index_rises a b q less Equal tied = subst (λ r. ordering_index r ≤ 1) (sym (before_tied a b q less tied)) (omega arith)
index_rises a b q less Greater above = at_most_two (text_cmp a q)
  where
    at_most_two : (r : Ordering) → ordering_index r ≤ 2
    at_most_two Less = omega arith
    at_most_two Equal = omega arith
    at_most_two Greater = omega arith

module _ {X : Type 0} where
  -- the key at a place
  abbrev pub key_at : List (List ℕ × X) → ℕ → (List ℕ × X) → List ℕ
  key_at es i d = (get_or es i d).0

  below_each : (k : List ℕ) (es : List (List ℕ × X)) → below_all text_cmp k es ≡ true → (d : List ℕ × X) (j : ℕ) → j < length es
      → text_cmp k (key_at es j d) ≡ Less
  below_each k [] h d j lt = absurd (omega (arith, lt))
  below_each k (e ∷ es) h d zero lt = less_from (text_cmp k e.0) (and_left _ _ h)
  below_each k (e ∷ es) h d (suc j) lt = below_each k es (and_right (is_lt (text_cmp k e.0)) _ h) d j (omega (arith, lt))

  -- the keys rise
  pub keys_rise : (es : List (List ℕ × X)) → is_sorted text_cmp es ≡ true → (d : List ℕ × X) (i j : ℕ) → i < j → j < length es
      → text_cmp (key_at es i d) (key_at es j d) ≡ Less
  keys_rise [] h d i j less lt = absurd (omega (arith, lt))
  keys_rise (e ∷ es) h d i zero less lt = absurd (omega (arith, less))
  keys_rise (e ∷ es) h d zero (suc j) less lt = below_each e.0 es (and_left _ _ h) d j (omega (arith, lt))
  keys_rise (e ∷ es) h d (suc i) (suc j) less lt =
      keys_rise es (and_right (below_all text_cmp e.0 es) _ h) d i j (omega (arith, less)) (omega (arith, lt))

  pub equal_to : (es : List (List ℕ × X)) → is_sorted text_cmp es ≡ true → (d : List ℕ × X) (i : ℕ) → i < length es → (q : List ℕ)
      → text_cmp (key_at es i d) q ≡ Equal → find text_cmp q es ≡ Some (get_or es i d).1
  equal_to [] h d i lt q tied = absurd (omega (arith, lt))
  equal_to (e ∷ es) h d zero lt q tied = ap (λ r. cond (is_eq r) (Some e.1) (find text_cmp q es)) (turned_equal e.0 q tied)
  equal_to (e ∷ es) h d (suc i) lt q tied =
      ap (λ r. cond (is_eq r) (Some e.1) (find text_cmp q es))
      (after e.0 (key_at es i d) q (below_each e.0 es (and_left _ _ h) d i (omega (arith, lt))) tied)
      ∙ equal_to es (and_right (below_all text_cmp e.0 es) _ h) d i (omega (arith, lt)) q tied

  nowhere : (es : List (List ℕ × X)) (q : List ℕ) (d : List ℕ × X)
      → ((j : ℕ) → j < length es → is_eq (text_cmp (key_at es j d) q) ≡ false) → find text_cmp q es ≡ None
  nowhere [] q d differ = refl
  nowhere (e ∷ es) q d differ =
      ap (λ b. cond b (Some e.1) (find text_cmp q es)) (turned_apart e.0 q (differ 0 (omega arith)))
      ∙ nowhere es q d (λ j lt. differ (suc j) (omega (arith, lt)))

module _ {R X : Type 0} (f : R → List ℕ × X) where
  -- what rows stand for, row by row
  keys_of_rows : (rows : List R) → is_sorted text_cmp (map f rows) ≡ true → (d : R) (i j : ℕ) → i < j → j < length rows
      → text_cmp (f (get_or rows i d)).0 (f (get_or rows j d)).0 ≡ Less
  keys_of_rows rows h d i j less lt =
      ap (λ a. text_cmp a.0 (f (get_or rows j d)).0) (sym (get_or-map f rows i d (f d) (omega (arith, less, lt))))
      ∙ ap (λ b. text_cmp (get_or (map f rows) i (f d)).0 b.0) (sym (get_or-map f rows j d (f d) lt))
      ∙ keys_rise (map f rows) h (f d) i j less (subst (λ n. j < n) (sym (length-map rows f)) lt)

  same_place : (rows : List R) (q : List ℕ) (d : R) (i j : ℕ) → i ≡ j
      → ordering_index (text_cmp (f (get_or rows i d)).0 q) ≤ ordering_index (text_cmp (f (get_or rows j d)).0 q)
  same_place rows q d i j e =
      subst (λ k. ordering_index (text_cmp (f (get_or rows i d)).0 q) ≤ ordering_index (text_cmp (f (get_or rows k d)).0 q)) e (omega arith)

  -- the answers for q rise along the rows, as a binary search asks
  pub rises : (rows : List R) → is_sorted text_cmp (map f rows) ≡ true → (q : List ℕ)
      → IsNonDecreasingBy (λ r. ordering_index (text_cmp (f r).0 q)) rows
  rises rows h q i j d le lt = elim (cases_lt i j) [
    | inl less ↦ index_rises (f (get_or rows i d)).0 (f (get_or rows j d)).0 q (keys_of_rows rows h d i j less lt) _ refl
    | inr ge ↦ same_place rows q d i j (omega (arith, le, ge))
  ]

  -- where a search finds q, the map has what stands there
  pub found_at : (rows : List R) → is_sorted text_cmp (map f rows) ≡ true → (q : List ℕ) (i : ℕ) → i < length rows
      → HoldsAt (λ r. text_cmp (f r).0 q ≡ Equal) rows i
      → IsSomeAnd (slice_get (map f rows) i) (λ e. (e.0 ≡ q) × (find text_cmp q (map f rows) ≡ Some e.1))
  found_at [] h q i lt tied = absurd (omega (arith, lt))
  found_at (r ∷ rs) h q i lt tied =
      let rows = r ∷ rs in
      let here = get_or rows i r in
      subst (λ o. IsSomeAnd o (λ e. (e.0 ≡ q) × (find text_cmp q (map f rows) ≡ Some e.1)))
      (sym (slice_get-map f rows i ∙ ap (option_map f) (slice_get-get_or rows i r lt))) (
        slice_cmp-IsAntisymmetric nat_cmp-IsAntisymmetric (f here).0 q (tied r),
        equal_to (map f rows) h (f r) i (subst (λ n. i < n) (sym (length-map rows f)) lt) q
            (ap (λ e. text_cmp e.0 q) (get_or-map f rows i r (f r) lt) ∙ tied r) ∙ ap (λ e. Some e.1) (get_or-map f rows i r (f r) lt),
      )

  apart_from_less : (r : Ordering) → r ≡ Less → is_eq r ≡ false
  apart_from_less r e = ap is_eq e

  apart_from_greater : (r : Ordering) → r ≡ Greater → is_eq r ≡ false
  apart_from_greater r e = ap is_eq e

  -- and where it doesn't, the map has nothing
  pub found_nowhere : (rows : List R) (q : List ℕ) (i : ℕ)
      → IsPartitionPoint (λ r. text_cmp (f r).0 q ≡ Less) (λ r. text_cmp (f r).0 q ≡ Greater) rows i
      → find text_cmp q (map f rows) ≡ None
  found_nowhere [] q i parted = refl
  found_nowhere (r ∷ rs) q i parted =
      let rows = r ∷ rs in
      nowhere (map f rows) q (f r) (λ j lt.
      let within : j < length rows = subst (λ n. j < n) (length-map rows f) lt in
      ap (λ e. is_eq (text_cmp e.0 q)) (get_or-map f rows j r (f r) within)
      ∙ elim (cases_lt j i) [
        | inl less ↦ apart_from_less _ (parted.0 j r (omega arith) less)
        | inr ge ↦ apart_from_greater _ (parted.1 j r ge within)
      ])

  -- the value where a search finds q
  pub value_found : (rows : List R) → is_sorted text_cmp (map f rows) ≡ true → (q : List ℕ) (i : ℕ) → i < length rows
      → HoldsAt (λ r. text_cmp (f r).0 q ≡ Equal) rows i → (v : X) → IsSomeAnd (slice_get rows i) (λ r. v ≡ (f r).1)
      → find text_cmp q (map f rows) ≡ Some v
  value_found rows h q i lt tied v at =
      joined (slice_get rows i) at (subst (λ o. IsSomeAnd o (λ e. (e.0 ≡ q) × (find text_cmp q (map f rows) ≡ Some e.1)))
      (slice_get-map f rows i)
      (found_at rows h q i lt tied))
    where
      joined : (o : Option R) → IsSomeAnd o (λ r. v ≡ (f r).1)
          → IsSomeAnd (option_map f o) (λ e. (e.0 ≡ q) × (find text_cmp q (map f rows) ≡ Some e.1)) → find text_cmp q (map f rows) ≡ Some v
      joined None a b = absurd a
      joined (Some r) a b = b.1 ∙ ap Some (sym a)
