-- The shapes of a table are exactly those of its set that have values, each once, in the order of their ids.
use Rattle.std.proofs.Common.{◌≡◌, inl, inr, ℕ, zero, suc, ◌<◌, ◌≤◌, Bool, true, false, List, [], ◌∷◌, ◌++◌, map, length, get_or, Option}
use Rattle.std.proofs.Common.{Some, None, refl, sym, ap, ◌∙◌, subst, arith}
use Rattle.std.specs.Prelude.{◌↔◌}
use Rattle.std.specs.List.{AllByRecursion, Contains}
use Rattle.std.specs.List.Sorted.{IsStrictlySortedBy}
use Rattle.std.specs.Cmp.{nat_cmp_is}
use Rattle.std.specs.Ordering.{nat_cmp}
use Rattle.std.specs.FinMap as fin
use Rattle.std.specs.FinMap.{is_sorted}
use Rattle.std.specs.declared.cmp.Ordering.{Ordering}
use Rattle.std.specs.declared.cmp.Ordering.TheVariants.{Less}
use Rattle.std.proofs.lemmas.Bool.{cases_eq, cases_lt}
use Rattle.std.proofs.lemmas.List.{append-nil, length-append, map-append}
use Rattle.std.proofs.lemmas.List.Elements.{Contains-append_cases, Contains-append_left, Contains-push}
use Rattle.std.proofs.lemmas.Option.{get_or_from_slice_get}
use Rattle.sm_model.specs.Graphs.{text_cmp, Entry, GraphMaps, shape_entry, member_entry}
use Rattle.sm_model.specs.GraphView.{entries_of, maps_of}
use Rattle.sm_model.specs.Reaching.{AreMarks, id_of_number}
use Rattle.sm_model.specs.declared.graph.Graph.{Graph}
use Rattle.sm_model.proofs.GraphFacts.{id_at}
use Rattle.sm_model.proofs.LinkNumbers.{stands_at}
use Rattle.sm_model.proofs.NumberedIds.{number_of}
use Rattle.sm_model.proofs.OneRising.{contains_either, contains_head, contains_behind, contains_none}
use Rattle.sm_model.proofs.Searching.{and_left, keys_rise}
use Rattle.sm_model.proofs.Worklist.{apart}
use Rattle.sm_compile.specs.Compiled.{IsTabled}
use Rattle.sm_compile.specs.Sound.{IsValueShape}
use Rattle.sm_compile.specs.Tabling.{has_values_where, is_tabled, tabled_below}
use Rattle.sm_compile.specs.steps.Looked.{kind_in, kind_under}
use Rattle.sm_compile.proofs.SoundTests.{both_of, first_of, second_of}
use Rattle.sm_compile.proofs.TabledNumbers.{put}

-- what a function gives for a list
pub mapped_from : {X Y : Type 0} (f : X → Y) (xs : List X) (y : Y) → Contains (map f xs) y → (x : X) × Contains xs x × (f x ≡ y)
mapped_from f [] y h = absurd (contains_none y h)
mapped_from f (x ∷ xs) y h = elim (contains_either (f x) y (map f xs) h) [
  | inl is ↦ (x, contains_head x xs, is)
  | inr later ↦ let r = mapped_from f xs y later in (r.0, contains_behind x r.0 xs r.1, r.2)
]

pub mapped_to : {X Y : Type 0} (f : X → Y) (xs : List X) (x : X) → Contains xs x → Contains (map f xs) (f x)
mapped_to f [] x h = absurd (contains_none x h)
mapped_to f (y ∷ xs) x h = elim (contains_either y x xs h) [
  | inl is ↦ subst (λ z. Contains (f y ∷ map f xs) (f z)) is (contains_head (f y) (map f xs))
  | inr later ↦ contains_behind (f y) (f x) (map f xs) (mapped_to f xs x later)
]

-- one more behind a list that rises
module _ {K : Type 0} (R : K → K → Ordering) where
  before_all : (k : K) (ks : List K) (j : K) → AllByRecursion (λ y. R k y ≡ Less) ks → R k j ≡ Less
      → AllByRecursion (λ y. R k y ≡ Less) (ks ++ j ∷ [])
  before_all k [] j h less = (less, tt)
  before_all k (i ∷ ks) j h less = (h.0, before_all k ks j h.1 less)

  pub more_rises : (ks : List K) (j : K) → IsStrictlySortedBy R ks → ((k : K) → Contains ks k → R k j ≡ Less)
      → IsStrictlySortedBy R (ks ++ j ∷ [])
  unfolding IsStrictlySortedBy
  more_rises [] j h all = (tt, tt)
  more_rises (k ∷ ks) j h all = (
    before_all k ks j h.0 (all k (contains_head k ks)),
    more_rises ks j h.1 (λ i there. all i (contains_behind k i ks there)),
  )

pub rise_more : (ks : List (List ℕ)) (j : List ℕ) → IsStrictlySortedBy text_cmp ks → ((k : List ℕ) → Contains ks k → text_cmp k j ≡ Less)
    → IsStrictlySortedBy text_cmp (ks ++ j ∷ [])
rise_more = more_rises text_cmp

pub nothing_rises : IsStrictlySortedBy text_cmp []
unfolding IsStrictlySortedBy
nothing_rises = tt

no_numbers_rise : IsStrictlySortedBy nat_cmp []
unfolding IsStrictlySortedBy
no_numbers_rise = tt

-- a shape that has values
pub value_where : (m : GraphMaps) (id : List ℕ) → (has_values_where (kind_under m id) ≡ true) ↔ IsValueShape m id
value_where m id = (λ h. by (fin.get m.shapes id) refl h, λ v. ap (λ (o : Option Entry). has_values_where (kind_in o)) v.1 ∙ v.2)
  where
    by : (o : Option Entry) → fin.get m.shapes id ≡ o → has_values_where (kind_in o) ≡ true → IsValueShape m id
    by None has is = absurd (apart is)
    by (Some (shape_entry s)) has is = (s, has, is)
    by (Some (member_entry n)) has is = absurd (apart is)

module _ (g : Graph) where
  -- ids rise with their numbers
  pub ids_rise : (i j : ℕ) → i < j → j < length (entries_of g) → text_cmp (id_of_number g i) (id_of_number g j) ≡ Less
  ids_rise i j less lt =
      let es = entries_of g in
      let a = stands_at g i (omega (arith, less, lt)) in
      let b = stands_at g j lt in
      let sorted = and_left (is_sorted text_cmp es) _ g.sound in
      let rise = keys_rise es sorted (a.0, a.1) i j less lt in
      let first : (get_or es i (a.0, a.1)).0 ≡ id_of_number g i =
      ap (λ (x : List ℕ × Entry). x.0) (get_or_from_slice_get es i (a.0, a.1) (a.0, a.1) a.2) ∙ sym (id_at g i a.0 a.1 a.2) in
      let second : (get_or es j (a.0, a.1)).0 ≡ id_of_number g j =
      ap (λ (x : List ℕ × Entry). x.0) (get_or_from_slice_get es j (b.0, b.1) (a.0, a.1) b.2) ∙ sym (id_at g j b.0 b.1 b.2) in
      subst (λ q. text_cmp (id_of_number g i) q ≡ Less) second
      (subst (λ q. text_cmp q (get_or es j (a.0, a.1)).0 ≡ Less) first rise)

  module _ (marks : List Bool) where
    pub tabled_in : (n k : ℕ) → Contains (tabled_below g marks n) k → (k < n) × (is_tabled g marks k ≡ true)
    tabled_in zero k h = absurd (contains_none k h)
    tabled_in (suc n) k h = elim (Contains-append_cases (tabled_below g marks n) (put (is_tabled g marks n) n) k h) [
      | inl before ↦ let r = tabled_in n k before in (omega (arith, r.0), r.1)
      | inr here ↦ by (is_tabled g marks n) refl here
    ]
      where
        by : (b : Bool) → is_tabled g marks n ≡ b → Contains (put b n) k → (k < suc n) × (is_tabled g marks k ≡ true)
        by true is here =
            let same : n ≡ k = elim (contains_either n k [] here) [ inl e ↦ e | inr none ↦ absurd (contains_none k none) ] in
            (omega (arith, same), ap (is_tabled g marks) (sym same) ∙ is)
        by false is here = absurd (contains_none k here)

    pub in_tabled : (n k : ℕ) → k < n → is_tabled g marks k ≡ true → Contains (tabled_below g marks n) k
    in_tabled zero k lt is = absurd (omega (arith, lt))
    in_tabled (suc n) k lt is = elim (cases_eq k n) [
      | inl same ↦ subst (λ b. Contains (tabled_below g marks n ++ put b n) k) (sym (ap (is_tabled g marks) (sym same) ∙ is))
          (subst (Contains (tabled_below g marks n ++ n ∷ [])) (sym same) (Contains-push (tabled_below g marks n) n))
      | inr other ↦ Contains-append_left (tabled_below g marks n) (put (is_tabled g marks n) n) k (in_tabled n k (below other) is)
    ]
      where
        below : (k ≡ n → ⊥) → k < n
        below other = elim (cases_lt k n) [ inl less ↦ less | inr ge ↦ absurd (other (omega (arith, ge, lt))) ]

    joined_more : (b : Bool) (n : ℕ) → n < length (entries_of g)
        → IsStrictlySortedBy text_cmp (map (id_of_number g) (tabled_below g marks n))
        → IsStrictlySortedBy text_cmp (map (id_of_number g) (tabled_below g marks n ++ put b n))
    joined_more true n lt h =
        subst (IsStrictlySortedBy text_cmp) (sym (map-append (id_of_number g) (tabled_below g marks n) (n ∷ [])))
        (rise_more (map (id_of_number g) (tabled_below g marks n)) (id_of_number g n) h before)
      where
        before : (k : List ℕ) → Contains (map (id_of_number g) (tabled_below g marks n)) k → text_cmp k (id_of_number g n) ≡ Less
        before k there =
            let r = mapped_from (id_of_number g) (tabled_below g marks n) k there in
            subst (λ q. text_cmp q (id_of_number g n) ≡ Less) r.2 (ids_rise r.0 n (tabled_in n r.0 r.1).0 lt)
    joined_more false n lt h =
        subst (λ ks. IsStrictlySortedBy text_cmp (map (id_of_number g) ks)) (sym (append-nil (tabled_below g marks n))) h

    pub tabled_rise : (n : ℕ) → n ≤ length (entries_of g) → IsStrictlySortedBy text_cmp (map (id_of_number g) (tabled_below g marks n))
    tabled_rise zero le = nothing_rises
    tabled_rise (suc n) le = joined_more (is_tabled g marks n) n (omega (arith, le)) (tabled_rise n (omega (arith, le)))

    -- and so do the numbers
    put_rises : (b : Bool) (n : ℕ) → IsStrictlySortedBy nat_cmp (tabled_below g marks n)
        → IsStrictlySortedBy nat_cmp (tabled_below g marks n ++ put b n)
    put_rises true n h = more_rises nat_cmp (tabled_below g marks n) n h (λ k there. sym (nat_cmp_is k n Less (tabled_in n k there).0))
    put_rises false n h = subst (IsStrictlySortedBy nat_cmp) (sym (append-nil (tabled_below g marks n))) h

    pub tabled_numbers_rise : (n : ℕ) → IsStrictlySortedBy nat_cmp (tabled_below g marks n)
    tabled_numbers_rise zero = no_numbers_rise
    tabled_numbers_rise (suc n) = put_rises (is_tabled g marks n) n (tabled_numbers_rise n)

    -- there are no more of them than numbers
    put_few : (b : Bool) (n : ℕ) → length (tabled_below g marks n) ≤ n → length (tabled_below g marks n ++ put b n) ≤ suc n
    put_few b n le = let both = length-append (tabled_below g marks n) (put b n) in let one = few b in omega (arith, both, one, le)
      where
        few : (b : Bool) → length (put b n) ≤ 1
        few true = omega arith
        few false = omega arith

    pub tabled_few : (n : ℕ) → length (tabled_below g marks n) ≤ n
    tabled_few zero = omega arith
    tabled_few (suc n) = put_few (is_tabled g marks n) n (tabled_few n)

    -- they are the shapes of the set
    pub tabled_told : (In : List ℕ → Type 0) → AreMarks (length (entries_of g)) (λ k. In (id_of_number g k)) marks
        → (id : List ℕ) → Contains (map (id_of_number g) (tabled_below g marks (length (entries_of g)))) id ↔ IsTabled (maps_of g) In id
    tabled_told In are id = (
      λ h.
          let n = length (entries_of g) in
          let r = mapped_from (id_of_number g) (tabled_below g marks n) id h in
          let is = (tabled_in n r.0 r.1).1 in
          let marked = first_of (get_or marks r.0 false) (has_values_where (kind_under (maps_of g) (id_of_number g r.0))) is in
          let value = second_of (get_or marks r.0 false) (has_values_where (kind_under (maps_of g) (id_of_number g r.0))) is in (
            subst In r.2 ((are.marked r.0).0 marked).1,
            subst (IsValueShape (maps_of g)) r.2 ((value_where (maps_of g) (id_of_number g r.0)).0 value),
          ),
      λ h.
          let x = number_of g id (shape_entry h.1.0, h.1.1) in
          let marked = (are.marked x.0).1 (x.1, subst In (sym x.2) h.0) in
          let value = (value_where (maps_of g) (id_of_number g x.0)).1 (subst (IsValueShape (maps_of g)) (sym x.2) h.1) in
          subst (Contains (map (id_of_number g) (tabled_below g marks (length (entries_of g))))) x.2
          (mapped_to (id_of_number g) (tabled_below g marks (length (entries_of g))) x.0
          (in_tabled (length (entries_of g)) x.0 x.1
          (both_of (get_or marks x.0 false) (has_values_where (kind_under (maps_of g) (id_of_number g x.0))) marked value))),
    )
