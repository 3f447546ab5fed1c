-- Runs of digits and fractions: where they end is determined.
use Rattle.std.proofs.Common.{◌≡◌, ℕ, suc, ◌+◌, ◌<◌, ◌≤◌, Bool, true, false, cond, List, [], ◌∷◌, ◌++◌, length, take, drop, refl, sym, ap}
use Rattle.std.proofs.Common.{subst, ◌∙◌, arith, length-take, get_or}
use Rattle.std.proofs.lemmas.Bool.Decides.{nat_tests}
use Rattle.std.proofs.lemmas.List.{take-append-drop}
use Rattle.std.proofs.lemmas.Str.{digit_value_digit}
use Rattle.std.proofs.lemmas.Str.Parse.{digit_at}
use Rattle.std.specs.Char.{digit_value, is_ascii_digit}
use Rattle.std.specs.List.{prefix_len}
use Rattle.std.specs.Str.Parse.{AllDigits}
use Rattle.sm_time.specs.TimeText.{fraction_text}
use Rattle.sm_time.specs.steps.Parts.{NoDigitFirst, EndsFraction, SplitsFraction}

-- the first byte
abbrev first_of : List ℕ → ℕ
first_of [] = 0
first_of (c ∷ cs) = c

-- the bytes after it
abbrev rest_of : List ℕ → List ℕ
rest_of [] = []
rest_of (c ∷ cs) = cs

-- equal texts have one first byte
pub same_first : (a b : ℕ) (s t : List ℕ) → a ∷ s ≡ b ∷ t → a ≡ b
same_first a b s t e = ap first_of e

-- and one rest
pub same_rest : (a b : ℕ) (s t : List ℕ) → a ∷ s ≡ b ∷ t → s ≡ t
same_rest a b s t e = ap rest_of e

-- no text is empty and not
not_longer : (a : ℕ) (s : List ℕ) → [] ≡ a ∷ s → ⊥
not_longer a s e = omega (arith, ap length e)

-- a digit has a value below ten
pub digit_small : (c : ℕ) → is_ascii_digit c ≡ true → digit_value c < 10
digit_small c h = grind (arith, nat_tests)

-- and what has another value is none
digit_large : (c : ℕ) → is_ascii_digit c ≡ false → 10 ≤ digit_value c
digit_large c h = grind (arith, nat_tests)

one_more : (n : ℕ) → 1 + n ≡ suc n
one_more n = omega arith

-- the run of digits that stands first
pub run_digits : (xs : List ℕ) → AllDigits 10 (take (prefix_len is_ascii_digit xs) xs)
run_digits [] = tt
run_digits (x ∷ xs) = go x xs (is_ascii_digit x) refl (run_digits xs)
  where
    go : (x : ℕ) (xs : List ℕ) (b : Bool) → is_ascii_digit x ≡ b → AllDigits 10 (take (prefix_len is_ascii_digit xs) xs)
        → AllDigits 10 (take (cond b (1 + prefix_len is_ascii_digit xs) 0) (x ∷ xs))
    go x xs true e rest = subst (λ n. AllDigits 10 (take n (x ∷ xs))) (sym (one_more (prefix_len is_ascii_digit xs)))
        (digit_small x e, rest)
    go x xs false e rest = tt

-- and what comes after it
pub run_ends : (xs : List ℕ) → NoDigitFirst (drop (prefix_len is_ascii_digit xs) xs)
run_ends [] = tt
run_ends (x ∷ xs) = go x xs (is_ascii_digit x) refl (run_ends xs)
  where
    go : (x : ℕ) (xs : List ℕ) (b : Bool) → is_ascii_digit x ≡ b → NoDigitFirst (drop (prefix_len is_ascii_digit xs) xs)
        → NoDigitFirst (drop (cond b (1 + prefix_len is_ascii_digit xs) 0) (x ∷ xs))
    go x xs true e rest = subst (λ n. NoDigitFirst (drop n (x ∷ xs))) (sym (one_more (prefix_len is_ascii_digit xs))) rest
    go x xs false e rest = digit_large x e

-- each byte of a text of digits has a value below ten
pub digit_below : (bs : List ℕ) (i : ℕ) → AllDigits 10 bs → i < length bs → digit_value (get_or bs i 0) < 10
digit_below bs i h lt =
    let range = digit_at bs i h lt in
    omega (arith, digit_value_digit (get_or bs i 0) range, range)

-- two texts that are digits and then no digit are the same in both parts
pub one_run : (xs ys r s : List ℕ) → AllDigits 10 xs → AllDigits 10 ys → NoDigitFirst r → NoDigitFirst s → xs ++ r ≡ ys ++ s
    → (xs ≡ ys) × (r ≡ s)
one_run [] [] r s h k f g e = (refl, e)
one_run [] (y ∷ ys) [] s h k f g e = absurd (not_longer _ _ e)
one_run [] (y ∷ ys) (c ∷ r) s h k f g e = absurd (omega (arith, ap digit_value (same_first _ _ _ _ e), k.0))
one_run (x ∷ xs) [] r [] h k f g e = absurd (not_longer _ _ (sym e))
one_run (x ∷ xs) [] r (c ∷ s) h k f g e = absurd (omega (arith, ap digit_value (same_first _ _ _ _ e), h.0))
one_run (x ∷ xs) (y ∷ ys) r s h k f g e =
    let same = same_first _ _ _ _ e in
    let rest = one_run xs ys r s h.1 k.1 f g (same_rest _ _ _ _ e) in
    ((λ i. same i ∷ rest.0 i), rest.1)

-- what ends a fraction begins with no digit
pub no_digit : (r : List ℕ) → EndsFraction r → NoDigitFirst r
no_digit [] h = tt
no_digit (c ∷ cs) h = h.1

-- a fraction and what ends it are determined
pub one_tail : (ds es r s : List ℕ) → AllDigits 10 ds → AllDigits 10 es → EndsFraction r → EndsFraction s
    → fraction_text ds ++ r ≡ fraction_text es ++ s → (ds ≡ es) × (r ≡ s)
one_tail [] [] r s h k f g e = (refl, e)
one_tail [] (d ∷ es) [] s h k f g e = absurd (not_longer _ _ e)
one_tail [] (d ∷ es) (c ∷ r) s h k f g e = absurd (f.0 (same_first _ _ _ _ e))
one_tail (d ∷ ds) [] r [] h k f g e = absurd (not_longer _ _ (sym e))
one_tail (d ∷ ds) [] r (c ∷ s) h k f g e = absurd (g.0 (sym (same_first _ _ _ _ e)))
one_tail (d ∷ ds) (c ∷ es) r s h k f g e = one_run (d ∷ ds) (c ∷ es) r s h k (no_digit r f) (no_digit s g) (same_rest _ _ _ _ e)

-- a point, digits and then no digit are a fraction and what follows in one way alone
only_fraction : (ds r es s : List ℕ) → AllDigits 10 ds → NoDigitFirst r → AllDigits 10 es → EndsFraction s
    → 46 ∷ (ds ++ r) ≡ fraction_text es ++ s → (es ≡ ds) × (s ≡ r)
only_fraction ds r [] [] h f k g e = absurd (not_longer _ _ (sym e))
only_fraction ds r [] (c ∷ s) h f k g e = absurd (g.0 (sym (same_first _ _ _ _ e)))
only_fraction ds r (d ∷ es) s h f k g e = one_run (d ∷ es) ds s r k h (no_digit s g) f (sym (same_rest _ _ _ _ e))

-- a point, some digits and a rest are split there
split_of : (ds r : List ℕ) → 0 < length ds → AllDigits 10 ds → NoDigitFirst r → SplitsFraction (46 ∷ (ds ++ r)) ds r
split_of [] r some h f = absurd (omega arith)
split_of (d ∷ ds) r some h f = record { parts = refl; are_digits = h; only = λ es s k g e. only_fraction (d ∷ ds) r es s h f k g e }

-- the same, of a run found at a place
pub split_run : (text rest : List ℕ) (n : ℕ) → text ≡ 46 ∷ rest → 0 < n → n ≤ length rest → AllDigits 10 (take n rest)
    → NoDigitFirst (drop n rest) → SplitsFraction text (take n rest) (drop n rest)
split_run text rest n e some within digits ends =
    let whole = split_of (take n rest) (drop n rest) (omega (arith, length-take n rest)) digits ends in
    let P : List ℕ → Type 0 = λ l. SplitsFraction l (take n rest) (drop n rest) in
    subst P (ap (λ l. 46 ∷ l) (take-append-drop n rest) ∙ sym e) whole
