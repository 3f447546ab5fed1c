-- Lists that stand one behind the other, by their places; rows told by their places.
use Rattle.std.proofs.Common.{◌≡◌, inl, inr, ℕ, zero, suc, ◌+◌, ◌<◌, ◌≤◌, List, [], ◌∷◌, ◌++◌, map, length, get_or, take, Some, refl, sym}
use Rattle.std.proofs.Common.{ap, ◌∙◌, subst, arith, append-nil}
use Rattle.std.specs.Prelude.{slice_get}
use Rattle.std.specs.List.{Contains, flat_map}
use Rattle.std.proofs.lemmas.Bool.{cases_lt}
use Rattle.std.proofs.lemmas.List.{length-append}
use Rattle.std.proofs.lemmas.Option.{none-some, same_Some}
use Rattle.sm_model.proofs.OneRising.{contains_behind, contains_either, contains_head, contains_none}
use Rattle.sm_compile.specs.steps.Numbered.{EachAt, run}

-- where a list of lists joined begins with the next of them
module _ {X Y : Type 0} (f : X → List Y) (d : X) where
  pub first_next : (xs : List X) (i : ℕ) → i < length xs
      → length (flat_map f (take (i + 1) xs)) ≡ length (flat_map f (take i xs)) + length (f (get_or xs i d))
  first_next [] i lt = absurd (omega (arith, lt))
  first_next (x ∷ xs) zero lt = let same : length (f x) ≡ 0 + length (f x) = omega arith in ap length (append-nil (f x)) ∙ same
  first_next (x ∷ xs) (suc i) lt =
      let less : i < length xs = omega (arith, lt) in
      let rest = first_next xs i less in
      let a = length-append (f x) (flat_map f (take (i + 1) xs)) in
      let b = length-append (f x) (flat_map f (take i xs)) in
      let next : suc i + 1 ≡ suc (i + 1) = omega arith in
      let whole : length (f x ++ flat_map f (take (i + 1) xs)) ≡ length (f x ++ flat_map f (take i xs)) + length (f (get_or xs i d)) = omega
      (arith, rest, a, b) in
      ap (λ n. length (flat_map f (take n (x ∷ xs)))) next ∙ whole

  pub first_rises : (xs : List X) (i j : ℕ) → i ≤ j → j ≤ length xs → length (flat_map f (take i xs)) ≤ length (flat_map f (take j xs))
  first_rises xs zero j le lt = omega arith
  first_rises [] (suc i) j le lt = absurd (omega (arith, le, lt))
  first_rises (x ∷ xs) (suc i) zero le lt = absurd (omega (arith, le))
  first_rises (x ∷ xs) (suc i) (suc j) le lt =
      let le2 : i ≤ j = omega (arith, le) in
      let lt2 : j ≤ length xs = omega (arith, lt) in
      let rest = first_rises xs i j le2 lt2 in
      let a = length-append (f x) (flat_map f (take i xs)) in
      let b = length-append (f x) (flat_map f (take j xs)) in
      omega (arith, rest, a, b)

  -- a place is in one of them
  pub one_block : (xs : List X) (i j k : ℕ) → i < length xs → j < length xs
      → length (flat_map f (take i xs)) ≤ k → k < length (flat_map f (take i xs)) + length (f (get_or xs i d))
      → length (flat_map f (take j xs)) ≤ k → k < length (flat_map f (take j xs)) + length (f (get_or xs j d)) → i ≡ j
  one_block xs i j k lt gt a b c e = elim (cases_lt i j) [
    | inl less ↦ absurd (above i j less gt lt b c)
    | inr ge ↦ elim (cases_lt j i) [
      | inl less ↦ absurd (above j i less lt gt e a)
      | inr also ↦ omega (arith, ge, also)
    ]
  ]
    where
      above : (i j : ℕ) → i < j → j < length xs → i < length xs → k < length (flat_map f (take i xs)) + length (f (get_or xs i d))
          → length (flat_map f (take j xs)) ≤ k → ⊥
      above i j less gt lt b c =
          let le : i + 1 ≤ j = omega (arith, less) in
          let le2 : j ≤ length xs = omega (arith, gt) in
          let next = first_next xs i lt in
          let rise = first_rises xs (i + 1) j le le2 in
          omega (arith, next, rise, b, c)

-- what stands at the numbers of a run
pub run_within : (first n k : ℕ) → Contains (run first n) k → (first ≤ k) × (k < first + n)
run_within first zero k h = absurd (contains_none k h)
run_within first (suc n) k h = elim (contains_either first k (run (first + 1) n) h) [
  | inl is ↦ (omega (arith, is), omega (arith, is))
  | inr later ↦ let r = run_within (first + 1) n k later in (omega (arith, r.0), omega (arith, r.1))
]

pub within_run : (first n k : ℕ) → first ≤ k → k < first + n → Contains (run first n) k
within_run first zero k le lt = absurd (omega (arith, le, lt))
within_run first (suc n) k le lt = elim (cases_lt first k) [
  | inl less ↦ contains_behind first k (run (first + 1) n) (within_run (first + 1) n k (omega (arith, less)) (omega (arith, lt)))
  | inr ge ↦ let same : first ≡ k = omega (arith, le, ge) in subst (Contains (run first (suc n))) same
      (contains_head first (run (first + 1) n))
]

pub run_more : (first n : ℕ) → run first (n + 1) ≡ run first n ++ (first + n) ∷ []
run_more first zero = let e : first ≡ first + 0 = omega arith in ap (λ k. k ∷ []) e
run_more first (suc n) =
    let e : first + 1 + n ≡ first + suc n = omega arith in
    let next : suc n + 1 ≡ suc (n + 1) = omega arith in
    ap (run first) next ∙ ap (λ ks. first ∷ ks) (run_more (first + 1) n ∙ ap (λ k. run (first + 1) n ++ k ∷ []) e)

pub run_long : (first n : ℕ) → length (run first n) ≡ n
run_long first zero = refl
run_long first (suc n) = ap suc (run_long (first + 1) n)

-- the things at a run of places
pub mapped_run : {Y : Type 0} (h : ℕ → Y) (ys : List Y) (e : Y) (first n : ℕ) → length ys ≡ n
    → ((j : ℕ) → j < n → h (first + j) ≡ get_or ys j e) → map h (run first n) ≡ ys
mapped_run h [] e first zero long same = refl
mapped_run h [] e first (suc n) long same = absurd (omega (arith, long))
mapped_run h (y ∷ ys) e first zero long same = absurd (omega (arith, long))
mapped_run h (y ∷ ys) e first (suc n) long same =
    let less : 0 < suc n = omega arith in
    let zero_more : first ≡ first + 0 = omega arith in
    let head = ap h zero_more ∙ same 0 less in
    let rest = mapped_run h ys e (first + 1) n (omega (arith, long)) (λ j lt.
    let gt : suc j < suc n = omega (arith, lt) in
    let at : first + 1 + j ≡ first + suc j = omega arith in ap h at ∙ same (suc j) gt) in
    λ i. head i ∷ rest i

-- the last row
slice_last : {D : Type 0} (ds : List D) (d e : D) (k : ℕ) → slice_get (ds ++ d ∷ []) k ≡ Some e → (k < length ds → slice_get ds k ≡ Some e)
slice_last ds d e k h lt = by_case ds k h lt
  where
    by_case : (ds : List _) (k : ℕ) → slice_get (ds ++ d ∷ []) k ≡ Some e → k < length ds → slice_get ds k ≡ Some e
    by_case [] k h lt = absurd (omega (arith, lt))
    by_case (x ∷ ds) zero h lt = h
    by_case (x ∷ ds) (suc k) h lt = by_case ds k h (omega (arith, lt))

slice_end : {D : Type 0} (ds : List D) (d e : D) (k : ℕ) → slice_get (ds ++ d ∷ []) k ≡ Some e → length ds ≤ k → (k ≡ length ds) × (d ≡ e)
slice_end [] d e zero h le = (refl, same_Some d e h)
slice_end [] d e (suc k) h le = absurd (none-some e h)
slice_end (x ∷ ds) d e zero h le = absurd (omega (arith, le))
slice_end (x ∷ ds) d e (suc k) h le = let r = slice_end ds d e k h (omega (arith, le)) in (ap suc r.0, r.1)

pub each_more : {D : Type 0} (Says : ℕ → D → Type 0) (ds : List D) (d : D) → EachAt Says ds → Says (length ds) d → EachAt Says
    (ds ++ d ∷ [])
each_more Says ds d each here k e h = elim (cases_lt k (length ds)) [
  | inl less ↦ each k e (slice_last ds d e k h less)
  | inr ge ↦ let r = slice_end ds d e k h ge in subst (λ j. Says j e) (sym r.0) (subst (Says (length ds)) r.1 here)
]

pub each_none : {D : Type 0} (Says : ℕ → D → Type 0) → EachAt Says []
each_none Says k d h = absurd (none-some d h)
