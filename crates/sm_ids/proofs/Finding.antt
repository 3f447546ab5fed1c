-- What the lengths of the runs of underscores and of identifier bytes say of the identifier from a place on.
use Rattle.std.proofs.Common.{◌≡◌, ℕ, suc, zero, ◌+◌, ◌-◌, ◌<◌, ◌≤◌, ◌⊎◌, inl, inr, Bool, true, false, cond, ◌==◌, List, [], ◌∷◌, ◌++◌}
use Rattle.std.proofs.Common.{length, take, drop, get_or, refl, sym, ap, subst, ◌∙◌, arith}
use Rattle.std.proofs.Math.Seq.{take-add}
use Rattle.std.proofs.lemmas.List.{take-append-drop, take_rest}
use Rattle.std.proofs.lemmas.Bool.{cases_lt, cond-true, cond-false}
use Rattle.std.proofs.lemmas.Bool.Decides.{nat_tests}
use Rattle.std.proofs.lemmas.Grind.{common_steps}
use Rattle.std.specs.Char.{is_ascii_alphabetic, is_ascii_alphanumeric}
use Rattle.std.proofs.lemmas.List.Sums.{prefix_len_stops}
use Rattle.std.specs.List.{list_all, prefix_len, slice_range}
use Rattle.sm_ids.specs.Identifier.{is_identifier_byte, IsIdentifier}
use Rattle.sm_ids.specs.IdText.{BreaksAt}
use Rattle.sm_ids.specs.steps.Ahead.{is_underscore, Part, EndsRun, Ahead, IsIdentifierFrom}
use Rattle.sm_ids.proofs.Identifiers.{opener, Shuts, whole}
use Rattle.sm_ids.proofs.Cutting.{and_also}
use Rattle.sm_ids.proofs.Namespaces.{bool_cases}
use Rattle.sm_ids.proofs.Breaking.{breaks_shut}
use Rattle.sm_ids.proofs.Scanning.{byte_cut}

-- the byte that opens, by the number of underscores
opener_of : (u : List ℕ) (k c : ℕ) → k ≤ length u → opener (take k u) c ≡ cond (k == 0) (is_ascii_alphabetic c) (is_ascii_alphanumeric c)
opener_of u zero c within = refl
opener_of [] (suc k) c within = absurd (omega arith)
opener_of (x ∷ u) (suc k) c within = let some : (suc k == 0) ≡ false = grind (arith, nat_tests) in
    sym (cond-false (suc k == 0) (is_ascii_alphabetic c) (is_ascii_alphanumeric c) some)

-- each byte of a run passes, and the byte behind it doesn't
pub run_passes : (p : ℕ → Bool) (xs : List ℕ) (n : ℕ) → n ≡ prefix_len p xs → list_all p (take n xs) ≡ true
run_passes p xs n e = subst (λ k. list_all p (take k xs) ≡ true) (sym e) (passes p xs)
  where
    one_more : (n : ℕ) → 1 + n ≡ suc n
    one_more n = omega arith

    passes : (p : ℕ → Bool) (xs : List ℕ) → list_all p (take (prefix_len p xs) xs) ≡ true
    passes p [] = refl
    passes p (x ∷ xs) = elim (bool_cases (p x)) [
      | inl passing ↦ subst (λ k. list_all p (take k (x ∷ xs)) ≡ true)
          (sym (cond-true (p x) (1 + prefix_len p xs) 0 passing ∙ one_more (prefix_len p xs)))
          (and_also (p x) (list_all p (take (prefix_len p xs) xs)) passing (passes p xs))
      | inr other ↦ subst (λ k. list_all p (take k (x ∷ xs)) ≡ true) (sym (cond-false (p x) (1 + prefix_len p xs) 0 other)) refl
    ]

pub run_stops : (p : ℕ → Bool) (xs : List ℕ) (n : ℕ) → n ≡ prefix_len p xs → n < length xs → p (get_or xs n 0) ≡ false
run_stops p xs n e lt = subst (λ k. k < length xs → p (get_or xs k 0) ≡ false) (sym e) (prefix_len_stops p xs 0) lt

-- the prefix that a count told is all there is of the run
ends_run : (test : ℕ → Bool) (r : List ℕ) (n : ℕ) → n ≤ length r → (n < length r → test (get_or r n 0) ≡ false) → EndsRun test (drop n r)
ends_run test r n within stop = elim (cases_lt n (length r)) [
  | inl lt ↦ subst (EndsRun test) (sym (byte_cut r n lt)) (stop lt)
  | inr le ↦ let none : drop n r ≡ [] = grind (arith, common_steps) in subst (EndsRun test) (sym none) tt
]

drop_more : (bs : List ℕ) (i n : ℕ) → drop n (drop i bs) ≡ drop (i + n) bs
drop_more bs i n = grind (arith, common_steps)

get_more : (bs : List ℕ) (i n : ℕ) → get_or (drop i bs) n 0 ≡ get_or bs (i + n) 0
get_more bs i n = grind (arith, common_steps)

-- underscores, the byte behind them, and a run behind that
slice_is : (bs : List ℕ) (from k n : ℕ) → from + k < length bs
    → slice_range bs from (from + k + 1 + n) ≡ take k (drop from bs) ++ get_or bs (from + k) 0 ∷ take n (drop (from + k + 1) bs)
slice_is bs from k n lt =
    let count : from + k + 1 + n - from ≡ k + suc n = omega arith in
    ap (λ j. take j (drop from bs)) count ∙ take-add k (suc n) (drop from bs)
    ∙ ap (λ r. take k (drop from bs) ++ take (suc n) r) (drop_more bs from k ∙ byte_cut bs (from + k) lt)

found : (bs : List ℕ) (from k n : ℕ) → from ≤ length bs → k ≤ length (drop from bs) → list_all is_underscore (take k (drop from bs)) ≡ true
    → from + k < length bs → cond (k == 0) (is_ascii_alphabetic (get_or bs (from + k) 0))
    (is_ascii_alphanumeric (get_or bs (from + k) 0)) ≡ true
    → n ≤ length (drop (from + k + 1) bs) → list_all is_identifier_byte (take n (drop (from + k + 1) bs)) ≡ true
    → (n < length (drop (from + k + 1) bs) → is_identifier_byte (get_or (drop (from + k + 1) bs) n 0) ≡ false)
    → IsIdentifierFrom bs from (from + k + 1 + n)
found bs from k n start within underscores lt opens few bytes stop = record {
  above = omega arith;
  within = let len : length (drop (from + k + 1) bs) + (from + k + 1) ≡ length bs = grind (arith, common_steps) in omega arith;
  identifier = subst IsIdentifier (sym (slice_is bs from k n lt))
      (whole (take k (drop from bs)) (get_or bs (from + k) 0) (take n (drop (from + k + 1) bs)) underscores
      (opener_of (drop from bs) k (get_or bs (from + k) 0) within ∙ opens) bytes);
  ends = subst (EndsRun is_identifier_byte) (drop_more bs (from + k + 1) n)
      (ends_run is_identifier_byte (drop (from + k + 1) bs) n few stop);
}

-- the same, over the slices that the code makes
pub identifier_found : (bs u r : List ℕ) (from k n : ℕ) → u ≡ take (length bs - from) (drop from bs)
    → r ≡ take (length bs - (from + k + 1)) (drop (from + k + 1) bs) → from ≤ length bs → k ≤ length u
    → list_all is_underscore (take k u) ≡ true
    → from + k < length bs → cond (k == 0) (is_ascii_alphabetic (get_or bs (from + k) 0))
    (is_ascii_alphanumeric (get_or bs (from + k) 0)) ≡ true
    → n ≤ length r → list_all is_identifier_byte (take n r) ≡ true → (n < length r → is_identifier_byte (get_or r n 0) ≡ false)
    → IsIdentifierFrom bs from (from + k + 1 + n)
identifier_found bs u r from k n eu er start within underscores lt opens few bytes stop =
    let fu : u ≡ drop from bs = eu ∙ take_rest bs from in
    let fr : r ≡ drop (from + k + 1) bs = er ∙ take_rest bs (from + k + 1) in
    found bs from k n start (subst (λ x. k ≤ length x) fu within) (subst (λ x. list_all is_underscore (take k x) ≡ true) fu underscores) lt
    opens
    (subst (λ x. n ≤ length x) fr few) (subst (λ x. list_all is_identifier_byte (take n x) ≡ true) fr bytes)
    (subst (λ x. n < length x → is_identifier_byte (get_or x n 0) ≡ false) fr stop)

-- behind the underscores no identifier goes on
shuts_at : (bs u : List ℕ) (from k : ℕ) → u ≡ drop from bs → k ≤ length u → (k < length u → is_underscore (get_or u k 0) ≡ false)
    → (length bs ≤ from + k) ⊎ (cond (k == 0) (is_ascii_alphabetic (get_or bs (from + k) 0))
    (is_ascii_alphanumeric (get_or bs (from + k) 0)) ≡ false)
    → Shuts (opener (take k u)) (drop k u)
shuts_at bs u from k eu within stop (inl none) =
    subst (Shuts (opener (take k u))) (sym (let len : length (drop from bs) ≤ k = grind (arith, common_steps) in let all : length u ≤ k =
    subst (λ x. length x ≤ k) (sym eu) len in let e : drop k u ≡ [] = grind (arith, common_steps) in e)) tt
shuts_at bs u from k eu within stop (inr shut) = elim (cases_lt k (length u)) [
  | inl lt ↦
      let here : get_or u k 0 ≡ get_or bs (from + k) 0 = ap (λ x. get_or x k 0) eu ∙ get_more bs from k in
      subst (Shuts (opener (take k u))) (sym (byte_cut u k lt)) (
        opener_of u k (get_or u k 0) within ∙ ap (λ c. cond (k == 0) (is_ascii_alphabetic c) (is_ascii_alphanumeric c)) here ∙ shut,
        stop lt,
      )
  | inr le ↦ let none : drop k u ≡ [] = grind (arith, common_steps) in subst (Shuts (opener (take k u))) (sym none) tt
]

pub identifier_breaks : (bs u : List ℕ) (from k : ℕ) → u ≡ take (length bs - from) (drop from bs) → k ≤ length u
    → list_all is_underscore (take k u) ≡ true → (k < length u → is_underscore (get_or u k 0) ≡ false)
    → (length bs ≤ from + k) ⊎ (cond (k == 0) (is_ascii_alphabetic (get_or bs (from + k) 0))
    (is_ascii_alphanumeric (get_or bs (from + k) 0)) ≡ false)
    → (from ≤ from + k) × ((part : Part) → BreaksAt (Ahead part) (drop from bs) (from + k - from))
identifier_breaks bs u from k eu within underscores stop shut =
    let fu : u ≡ drop from bs = eu ∙ take_rest bs from in
    let len : length (take k u) ≡ k = grind (arith, common_steps) in
    let count : length (take k u) ≡ from + k - from = omega arith in
    let shuts = shuts_at bs u from k fu within stop shut in (
      omega arith,
      λ part. subst (λ x. BreaksAt (Ahead part) x (from + k - from)) (take-append-drop k u ∙ fu)
          (subst (BreaksAt (Ahead part) (take k u ++ drop k u)) count (breaks_shut part (take k u) (drop k u) underscores shuts)),
    )
