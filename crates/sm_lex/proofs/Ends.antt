-- Where strings and text blocks end: one step of the search, and a run of them.
use Rattle.std.proofs.Common.{◌≡◌, ℕ, suc, ◌+◌, ◌-◌, ◌≤◌, ◌<◌, Bool, true, false, cond, List, [], ◌∷◌, length, get_or, take, drop, refl}
use Rattle.std.proofs.Common.{sym, ap, subst, ◌∙◌, arith, eqb, ◌&&◌}
use Rattle.std.specs.Prelude.{Option, Some, None, codes, nat_eq}
use Rattle.std.specs.Option.{option_map}
use Rattle.std.specs.List.{starts_with}
use Rattle.std.proofs.lemmas.List.{drop_more, drop-drop, take_all, length-drop}
use Rattle.std.proofs.lemmas.Bool.Decides.{nat_tests}
use Rattle.sm_lex.specs.Lines.{is_backslash}
use Rattle.sm_lex.specs.Tokens.{first_end, one_quote, three_quotes}

-- a place counted on twice
twice : (j k : ℕ) (o : Option ℕ) → option_map (λ n. n + k) (option_map (λ n. n + j) o) ≡ option_map (λ n. n + (k + j)) o
twice j k None = refl
twice j k (Some n) = let e : n + j + k ≡ n + (k + j) = omega arith in ap Some e

some_is : (m n : ℕ) → Some m ≡ Some n → m ≡ n
some_is m n e = cc

one_further : (ends : List ℕ → Bool) (c m n : ℕ) (s : List ℕ) → m + 1 ≡ n → (m < length s) × (ends (drop m s) ≡ true)
    → (n < suc (length s)) × (ends (drop n (c ∷ s)) ≡ true)
one_further ends c m n s e h = let same : suc m ≡ n = omega arith in subst (λ k. (k < suc (length s)) × (ends (drop k (c ∷ s)) ≡ true))
    same (omega (arith, h.0), h.1)

abbrev pub step_len : ℕ → ℕ
step_len c = cond (is_backslash c) 2 1

behind_backslash : (ends : List ℕ → Bool) (r : List ℕ)
    → option_map (λ n. n + 1) (first_end ends true r) ≡ option_map (λ n. n + 2) (first_end ends false (drop 1 r))
behind_backslash ends [] = refl
behind_backslash ends (d ∷ r) = twice 1 1 (first_end ends false r)

-- no end at the byte c
step_on : (ends : List ℕ → Bool) (c : ℕ) (r : List ℕ) → ends (c ∷ r) ≡ false
    → first_end ends false (c ∷ r) ≡ option_map (λ n. n + step_len c) (first_end ends false (drop (step_len c) (c ∷ r)))
step_on ends c r misses = ap (λ b. cond b (Some 0) (option_map (λ n. n + 1) (first_end ends (is_backslash c) r))) misses
    ∙ by_byte (is_backslash c)
  where
    by_byte : (b : Bool)
        → option_map (λ n. n + 1) (first_end ends b r) ≡ option_map (λ n. n + cond b 2 1) (first_end ends false (drop (cond b 2 1) (c ∷ r)))
    by_byte true = behind_backslash ends r
    by_byte false = refl

-- the search has come to the place `at`, and has found no end before it
abbrev pub Searched : (List ℕ → Bool) → List ℕ → ℕ → Type 0
Searched ends s at = first_end ends false s ≡ option_map (λ n. n + at) (first_end ends false (drop at s))

pub searched_step : (ends : List ℕ → Bool) (s : List ℕ) (at : ℕ) → at < length s → ends (drop at s) ≡ false → Searched ends s at
    → Searched ends s (at + step_len (get_or s at 0))
searched_step ends s at lt misses before =
    let c = get_or s at 0 in
    let split : drop at s ≡ c ∷ drop (at + 1) s = drop_more s at 0 lt in
    let here = step_on ends c (drop (at + 1) s) (ap ends (sym split) ∙ misses) in
    let moved : first_end ends false (drop at s) ≡ option_map (λ n. n + step_len c) (first_end ends false (drop (at + step_len c) s)) =
    ap (first_end ends false) split ∙ here ∙ ap (λ r. option_map (λ n. n + step_len c) (first_end ends false r))
    (ap (drop (step_len c)) (sym split) ∙ drop-drop (step_len c) at s)
    in
    before ∙ ap (option_map (λ n. n + at)) moved ∙ twice (step_len c) at (first_end ends false (drop (at + step_len c) s))

-- the tests that the code makes
pub quote_at : (s : List ℕ) (at : ℕ) (b : Bool) → at < length s → eqb (get_or s at 0) 34 ≡ b → one_quote (drop at s) ≡ b
quote_at s at b lt e = ap one_quote (drop_more s at 0 lt) ∙ e

pub quotes_at : (s : List ℕ) (at : ℕ) (b : Bool) → starts_with nat_eq (take (length s - at) (drop at s)) (codes "\"\"\"") ≡ b
    → three_quotes (drop at s) ≡ b
quotes_at s at b e =
    let short : length (drop at s) ≤ length s - at = omega (arith, length-drop at s) in
    ap three_quotes (sym (take_all (length s - at) (drop at s) short)) ∙ e

-- where the search ends, an end stands
end_holds : (ends : List ℕ → Bool) (escaped : Bool) (s : List ℕ) (n : ℕ) → first_end ends escaped s ≡ Some n
    → (n < length s) × (ends (drop n s) ≡ true)
end_holds ends escaped [] n e = absurd (let h : None ≡ Some n = e in cc)
end_holds ends true (c ∷ s) n e = behind_one (first_end ends false s) refl e (λ m h. end_holds ends false s m h)
  where
    behind_one : (o : Option ℕ) → first_end ends false s ≡ o → option_map (λ k. k + 1) o ≡ Some n
        → ((m : ℕ) → first_end ends false s ≡ Some m → (m < length s) × (ends (drop m s) ≡ true))
        → (n < suc (length s)) × (ends (drop n (c ∷ s)) ≡ true)
    behind_one None h g more = absurd (let k : None ≡ Some n = g in cc)
    behind_one (Some m) h g more = one_further ends c m n s (some_is (m + 1) n g) (more m h)
end_holds ends false (c ∷ s) n e = at_byte (ends (c ∷ s)) refl (first_end ends (is_backslash c) s) refl e
    (λ m h. end_holds ends (is_backslash c) s m h)
  where
    at_byte : (b : Bool) → ends (c ∷ s) ≡ b → (o : Option ℕ) → first_end ends (is_backslash c) s ≡ o
        → cond b (Some 0) (option_map (λ k. k + 1) o) ≡ Some n
        → ((m : ℕ) → first_end ends (is_backslash c) s ≡ Some m → (m < length s) × (ends (drop m s) ≡ true)) → (n < suc (length s))
        × (ends (drop n (c ∷ s)) ≡ true)
    at_byte true f o h g more = let zeroth : 0 ≡ n = some_is 0 n g in subst
        (λ k. (k < suc (length s)) × (ends (drop k (c ∷ s)) ≡ true)) zeroth (omega arith, f)
    at_byte false f None h g more = absurd (let k : None ≡ Some n = g in cc)
    at_byte false f (Some m) h g more = one_further ends c m n s (some_is (m + 1) n g) (more m h)

pub found_end : (ends : List ℕ → Bool) (s : List ℕ) (n : ℕ) → Some n ≡ first_end ends false s → (n < length s) × (ends (drop n s) ≡ true)
found_end ends s n e = end_holds ends false s n (sym e)

pub quote_there : (s : List ℕ) (n : ℕ) → n < length s → one_quote (drop n s) ≡ true → get_or s n 0 ≡ 34
quote_there s n lt e = let here : eqb (get_or s n 0) 34 ≡ true = ap one_quote (sym (drop_more s n 0 lt)) ∙ e in grind (arith, nat_tests)

pub both : (x y : Bool) → x && y ≡ true → (x ≡ true) × (y ≡ true)
both true true e = (refl, refl)
both true false e = absurd (let h : false ≡ true = e in cc)
both false y e = absurd (let h : false ≡ true = e in cc)

-- each of three quotation marks is one
pub three_are : (s : List ℕ) → three_quotes s ≡ true → (r : List ℕ) × (s ≡ 34 ∷ (34 ∷ (34 ∷ r)))
three_are [] e = absurd (let h : false ≡ true = e in cc)
three_are (a ∷ []) e = absurd (let h : false ≡ true = (both (nat_eq 34 a) false e).1 in cc)
three_are (a ∷ (b ∷ [])) e = absurd (let h : false ≡ true = (both (nat_eq 34 b) false
    (both (nat_eq 34 a) (nat_eq 34 b && false) e).1).1 in cc)
three_are (a ∷ (b ∷ (c ∷ r))) e =
    let one = both (nat_eq 34 a) (nat_eq 34 b && (nat_eq 34 c && true)) e in
    let two = both (nat_eq 34 b) (nat_eq 34 c && true) one.1 in
    let first = one.0 in
    let second = two.0 in
    let third = (both (nat_eq 34 c) true two.1).0 in
    let a_is : a ≡ 34 = grind (arith, nat_tests, first) in
    let b_is : b ≡ 34 = grind (arith, nat_tests, second) in
    let c_is : c ≡ 34 = grind (arith, nat_tests, third) in
    (r, cc)
