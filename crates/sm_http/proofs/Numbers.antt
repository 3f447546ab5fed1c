-- Numbers of digits, of any length.
use Rattle.std.proofs.Common.{◌≡◌, ℕ, suc, zero, ◌+◌, ◌-◌, ◌*◌, ◌<◌, ◌≤◌, Bool, true, false, cond, ◌&&◌, List, [], ◌∷◌, ◌++◌, length}
use Rattle.std.proofs.Common.{take, drop, get_or, replicate, refl, sym, ap, subst, ◌∙◌, arith}
use Rattle.std.proofs.Common.{true≢false, eq-eqb}
use Rattle.std.specs.Cmp.{both_ways}
use Rattle.std.specs.Cmp.Lexicographic.{pointwise}
use Rattle.sm_tree.proofs.Equal.{bytes_equal_is}
use Rattle.std.specs.Prelude.{if◌then◌else◌, nat_le, nat_eq}
use Rattle.std.proofs.lemmas.Bool.{leb-true, leb-false, eqb-true}
use Rattle.std.proofs.lemmas.Bool.Decides.{nat_tests}
use Rattle.std.proofs.lemmas.List.Folds.{list_all_at}
use Rattle.std.proofs.lemmas.Int.Digits.{digits_value_more}
use Rattle.std.proofs.lemmas.Str.Parse.{digits_value-take-le}
use Rattle.std.specs.Char.{digit_value, is_ascii_digit}
use Rattle.std.specs.List.{list_all, prefix_len}
use Rattle.std.specs.Str.Parse.{digits_value, digits_value_after}
use Rattle.sm_http.specs.Limits.{message_body_limit}
use Rattle.sm_http.specs.BodyFields.{is_length, is_same_length}
use Rattle.sm_http.specs.steps.Digits.{is_zero_digit, significant}

pub and_left : (p q : Bool) → (p && q) ≡ true → p ≡ true
and_left true q e = refl
and_left false q e = e

pub and_right : (p q : Bool) → (p && q) ≡ true → q ≡ true
and_right true q e = e
and_right false q e = absurd (true≢false (sym e))

-- ---- digits

digit_is : (c : ℕ) → is_ascii_digit c ≡ true → digit_value c ≡ c - 48
digit_is c h = grind (arith, nat_tests)

digit_from : (c : ℕ) → is_ascii_digit c ≡ true → 48 ≤ c
digit_from c h = grind (arith, nat_tests)

digit_small : (c : ℕ) → is_ascii_digit c ≡ true → c ≤ 57
digit_small c h = grind (arith, nat_tests)

pub length_digits : (bs : List ℕ) → is_length bs ≡ true → list_all is_ascii_digit bs ≡ true
length_digits [] e = absurd (true≢false (sym e))
length_digits (b ∷ bs) e = e

digit_at : (bs : List ℕ) (i : ℕ) (t : Bool) → list_all is_ascii_digit bs ≡ true → i < length bs
    → is_ascii_digit (get_or bs i 0) ≡ t → is_ascii_digit (get_or bs i 0) ≡ true
digit_at bs i true all inside e = e
digit_at bs i false all inside e = absurd (true≢false (sym all ∙ list_all_at is_ascii_digit bs i 0 inside e))

-- ---- the number, digit by digit

pub value_more : (bs : List ℕ) (i : ℕ) → is_length bs ≡ true → i < length bs
    → digits_value 10 (take (i + 1) bs) ≡ digits_value 10 (take i bs) * 10 + (get_or bs i 0 - 48)
value_more bs i e inside =
    let digit = digit_at bs i (is_ascii_digit (get_or bs i 0)) (length_digits bs e) inside refl in
    digits_value_more 10 bs i inside ∙ ap (λ d. digits_value 10 (take i bs) * 10 + d) (digit_is (get_or bs i 0) digit)

pub value_past : (bs : List ℕ) (i number : ℕ) → is_length bs ≡ true → i < length bs → number ≡ digits_value 10 (take i bs)
    → message_body_limit < number * 10 + (get_or bs i 0 - 48) → message_body_limit < digits_value 10 bs
value_past bs i number e inside is past =
    let whole = digits_value-take-le 10 bs (i + 1) (omega arith) in
    let more = value_more bs i e inside in
    omega arith

-- ---- the same number

-- so many digits have one number
same_after : (n m : ℕ) (a b : List ℕ) → length a ≡ length b → list_all is_ascii_digit a ≡ true → list_all is_ascii_digit b ≡ true
    → digits_value_after 10 n a ≡ digits_value_after 10 m b → (n ≡ m) × (a ≡ b)
same_after n m [] [] len pa pb e = (e, refl)
same_after n m [] (d ∷ b) len pa pb e = absurd (omega arith)
same_after n m (c ∷ a) [] len pa pb e = absurd (omega arith)
same_after n m (c ∷ a) (d ∷ b) len pa pb e =
    let this = and_left (is_ascii_digit c) (list_all is_ascii_digit a) pa in
    let that = and_left (is_ascii_digit d) (list_all is_ascii_digit b) pb in
    let tails = same_after (n * 10 + digit_value c) (m * 10 + digit_value d) a b (omega arith)
    (and_right (is_ascii_digit c) (list_all is_ascii_digit a) pa) (and_right (is_ascii_digit d) (list_all is_ascii_digit b) pb) e in
    let sums = tails.0 in
    let c_is = digit_is c this in
    let d_is = digit_is d that in
    let c_from = digit_from c this in
    let d_from = digit_from d that in
    let c_small = digit_small c this in
    let d_small = digit_small d that in
    let digits : c ≡ d = omega arith in
    (omega arith, ap (λ x. x ∷ a) digits ∙ ap (λ x. d ∷ x) tails.1)

-- zeros in front change nothing
value_zeros : (k : ℕ) (a : List ℕ) → digits_value 10 (replicate k 48 ++ a) ≡ digits_value 10 a
value_zeros zero a = refl
value_zeros (suc k) a = value_zeros k a

digits_zeros : (k : ℕ) (a : List ℕ) → list_all is_ascii_digit (replicate k 48 ++ a) ≡ list_all is_ascii_digit a
digits_zeros zero a = refl
digits_zeros (suc k) a = digits_zeros k a

length_zeros : (k : ℕ) (a : List ℕ) → length (replicate k 48 ++ a) ≡ k + length a
length_zeros zero a = omega arith
length_zeros (suc k) a = let rest = length_zeros k a in omega arith

abbrev starts_with_zero : List ℕ → Bool
starts_with_zero [] = false
starts_with_zero (c ∷ cs) = is_zero_digit c

no_zeros : (k : ℕ) (a b : List ℕ) → replicate k 48 ++ a ≡ b → starts_with_zero b ≡ false → a ≡ b
no_zeros zero a b e none = e
no_zeros (suc k) a b e none = absurd (true≢false (ap starts_with_zero e ∙ none))

same_shorter : (a b : List ℕ) → list_all is_ascii_digit a ≡ true → list_all is_ascii_digit b ≡ true → starts_with_zero b ≡ false
    → length a ≤ length b → digits_value 10 a ≡ digits_value 10 b → a ≡ b
same_shorter a b pa pb none shorter e =
    let k = length b - length a in
    let len : length (replicate k 48 ++ a) ≡ length b = length_zeros k a ∙ (omega arith) in
    let same = same_after 0 0 (replicate k 48 ++ a) b len (digits_zeros k a ∙ pa) pb (value_zeros k a ∙ e) in
    no_zeros k a b same.1 none

same_digits : (a b : List ℕ) (t : Bool) → nat_le (length a) (length b) ≡ t → list_all is_ascii_digit a ≡ true
    → list_all is_ascii_digit b ≡ true → starts_with_zero a ≡ false → starts_with_zero b ≡ false
    → digits_value 10 a ≡ digits_value 10 b → a ≡ b
same_digits a b true le pa pb za zb e = same_shorter a b pa pb zb (leb-true (length a) (length b) le) e
same_digits a b false le pa pb za zb e =
    let longer = leb-false (length a) (length b) le in sym (same_shorter b a pb pa za (omega arith) (sym e))

-- ---- without the zeros in front

value_behind : (c : ℕ) (cs : List ℕ) (t : Bool) → is_zero_digit c ≡ t → digits_value 10 (significant cs) ≡ digits_value 10 cs
    → digits_value 10 (if t then significant cs else c ∷ cs) ≡ digits_value 10 (c ∷ cs)
value_behind c cs true e rest = rest ∙ ap (λ d. digits_value_after 10 (0 * 10 + digit_value d) cs) (sym (eqb-true c 48 e))
value_behind c cs false e rest = refl

value_significant : (cs : List ℕ) → digits_value 10 (significant cs) ≡ digits_value 10 cs
value_significant [] = refl
value_significant (c ∷ cs) = value_behind c cs (is_zero_digit c) refl (value_significant cs)

no_zero_behind : (c : ℕ) (cs : List ℕ) (t : Bool) → is_zero_digit c ≡ t → starts_with_zero (significant cs) ≡ false
    → starts_with_zero (if t then significant cs else c ∷ cs) ≡ false
no_zero_behind c cs true e rest = rest
no_zero_behind c cs false e rest = e

no_zero_first : (cs : List ℕ) → starts_with_zero (significant cs) ≡ false
no_zero_first [] = refl
no_zero_first (c ∷ cs) = no_zero_behind c cs (is_zero_digit c) refl (no_zero_first cs)

digits_behind : (c : ℕ) (cs : List ℕ) (t : Bool) → list_all is_ascii_digit (c ∷ cs) ≡ true
    → list_all is_ascii_digit (significant cs) ≡ true → list_all is_ascii_digit (if t then significant cs else c ∷ cs) ≡ true
digits_behind c cs true e rest = rest
digits_behind c cs false e rest = e

digits_significant : (cs : List ℕ) → list_all is_ascii_digit cs ≡ true → list_all is_ascii_digit (significant cs) ≡ true
digits_significant [] e = e
digits_significant (c ∷ cs) e =
    digits_behind c cs (is_zero_digit c) e
    (digits_significant cs (and_right (is_ascii_digit c) (list_all is_ascii_digit cs) e))

-- two lengths are one number where their digits behind the zeros are the same
pub significant_from_value : (a b : List ℕ) → is_length a ≡ true → is_length b ≡ true → digits_value 10 a ≡ digits_value 10 b
    → significant a ≡ significant b
significant_from_value a b pa pb e =
    same_digits (significant a) (significant b) _ refl (digits_significant a (length_digits a pa))
    (digits_significant b (length_digits b pb)) (no_zero_first a) (no_zero_first b)
    (value_significant a ∙ e ∙ sym (value_significant b))

pub value_from_significant : (a b : List ℕ) → significant a ≡ significant b → digits_value 10 a ≡ digits_value 10 b
value_from_significant a b e = sym (value_significant a) ∙ ap (λ s. digits_value 10 s) e ∙ value_significant b

-- ---- the run of zeros

skip_zero : (c n : ℕ) (cs : List ℕ) (t : Bool) → drop n cs ≡ significant cs
    → drop (cond t (1 + n) 0) (c ∷ cs) ≡ (if t then significant cs else c ∷ cs)
skip_zero c n cs true rest = subst (λ k. drop k (c ∷ cs) ≡ significant cs) (let next : suc n ≡ 1 + n = omega arith in next) rest
skip_zero c n cs false rest = refl

pub behind_zeros : (cs : List ℕ) → drop (prefix_len is_zero_digit cs) cs ≡ significant cs
behind_zeros [] = refl
behind_zeros (c ∷ cs) = skip_zero c (prefix_len is_zero_digit cs) cs (is_zero_digit c) (behind_zeros cs)

-- the test of two lengths by their digits behind the zeros
pub same_length_test : (a b s t : List ℕ) → is_length a ≡ true → is_length b ≡ true → s ≡ significant a → t ≡ significant b
    → pointwise nat_eq s t ≡ is_same_length a b
same_length_test a b s t pa pb es et =
    both_ways (pointwise nat_eq s t) (is_same_length a b)
    (λ x. eq-eqb (digits_value 10 a) (digits_value 10 b)
    (value_from_significant a b (sym es ∙ (bytes_equal_is s t).0 x ∙ et)))
    (λ y. (bytes_equal_is s t).1
    (es ∙ significant_from_value a b pa pb (eqb-true (digits_value 10 a) (digits_value 10 b) y) ∙ sym et))
