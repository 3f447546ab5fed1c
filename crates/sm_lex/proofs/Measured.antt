-- Words, numbers and marks at the start of a text.
use Rattle.std.proofs.Common.{◌≡◌, ℕ, zero, suc, ◌+◌, ◌-◌, ◌≤◌, ◌<◌, Bool, true, false, cond, List, [], ◌∷◌, length, get_or, take, refl}
use Rattle.std.proofs.Common.{sym, ap, subst, arith, length-take-le, nat_eq, ◌&&◌}
use Rattle.std.specs.Prelude.{IsUtf8, codes}
use Rattle.std.specs.List.{prefix_len}
use Rattle.std.specs.Str.{IsCharBoundary}
use Rattle.std.proofs.lemmas.List.{get_or-take}
use Rattle.std.proofs.lemmas.List.Sums.{prefix_len-le-length}
use Rattle.std.proofs.lemmas.Str.{IsCharBoundary-after_ascii}
use Rattle.std.proofs.lemmas.Bool.Decides.{nat_tests}
use Rattle.sm_tree.specs.Numbers.{IsNumber}
use Rattle.sm_tree.specs.NumberTail.{AreNumberBytes}
use Rattle.sm_tree.proofs.Numbers.{byte_is_ascii, number_bytes, number_starts}
use Rattle.sm_lex.specs.declared.byte.First.{First}
use Rattle.sm_lex.specs.declared.byte.First.TheVariants.{Word as a_word, Number as a_number, Mark as a_mark}
use Rattle.sm_lex.specs.declared.token.TokenKind.TheVariants.{Word, Number, Mark}
use Rattle.sm_lex.specs.Bytes.{first_of, FirstIs, is_word_byte, opens_with}
use Rattle.sm_lex.specs.Tokens.{LongestNumber, BreaksOff, TokenAt}
use Rattle.sm_lex.proofs.Ends.{both}
use Rattle.sm_lex.proofs.Classes.{boundary_behind_run, word_bytes_are_ascii, word_some, mark_is_ascii}

pub begins : (f : First) (s : List ℕ) → 0 < length s → f ≡ first_of (get_or s 0 0) → FirstIs f s
begins f [] some h = absurd (omega arith)
begins f (c ∷ s) some h = sym h

-- what is said of a token that was found
abbrev pub IsFound : List ℕ → ℕ → Type 0 → Type 0
IsFound s n Token = (0 < n) × (n ≤ length s) × IsCharBoundary s n × Token

pub found_word : (start n : ℕ) (s : List ℕ) → IsUtf8 s → FirstIs a_word s → n ≡ prefix_len is_word_byte s
    → IsFound s n (TokenAt Word start s n)
found_word start n s u first n_is =
    let some = word_some s first in (
      subst (λ k. 0 < k) (sym n_is) some,
      subst (λ k. k ≤ length s) (sym n_is) (prefix_len-le-length is_word_byte s),
      subst (IsCharBoundary s) (sym n_is) (boundary_behind_run is_word_byte s word_bytes_are_ascii u some),
      (first, n_is),
    )

number_bytes_are_ascii : (t : List ℕ) (k : ℕ) → AreNumberBytes t → k < length t → get_or t k 0 < 128
number_bytes_are_ascii [] k h lt = absurd (omega arith)
number_bytes_are_ascii (c ∷ t) zero h lt = byte_is_ascii c h.0
number_bytes_are_ascii (c ∷ t) (suc k) h lt = number_bytes_are_ascii t k h.1 (omega arith)

-- a number isn't empty
number_some : (s : List ℕ) (n : ℕ) → n ≤ length s → IsNumber (take n s) → 0 < n
number_some s n within number =
    let h = number_starts (take n s) number in
    let len : length (take n s) ≡ suc (length h.1) = ap length h.2 in
    omega (arith, length-take-le n s within)

pub found_number : (start n : ℕ) (s : List ℕ) → IsUtf8 s → FirstIs a_number s → LongestNumber s n → IsNumber (take n s)
    → IsFound s n (TokenAt Number start s n)
found_number start n s u first longest number =
    let within : n ≤ length s = longest.within in
    let some : 0 < n = number_some s n within number in
    let len : length (take n s) ≡ n = length-take-le n s within in
    let low : get_or s (n - 1) 0 < 128 = subst (λ x. x < 128) (get_or-take n s (n - 1) 0 (omega arith))
    (number_bytes_are_ascii (take n s) (n - 1) (number_bytes (take n s) number) (omega arith)) in
    let same : n - 1 + 1 ≡ n = omega arith in
    (some, within, subst (IsCharBoundary s) same (IsCharBoundary-after_ascii s (n - 1) u (omega arith) low), (first, longest, number))

pub broken_number : (n : ℕ) (s : List ℕ) → FirstIs a_number s → LongestNumber s n → (IsNumber (take n s) → ⊥) → BreaksOff s n
broken_number n s first longest none = record { first = first; longest = longest; no_number = none }

-- the first mark, and the byte behind `:` where it is `:=`
mark_ends : (b : Bool) (s : List ℕ) → IsUtf8 s → FirstIs a_mark s → opens_with s (codes ":=") ≡ b
    → (cond b 2 1 ≤ length s) × (get_or s (cond b 2 1 - 1) 0 < 128)
mark_ends b [] u first e = absurd first
mark_ends false (c ∷ s) u first e = (omega arith, mark_is_ascii c first)
mark_ends true (c ∷ []) u first e = absurd (let h : false ≡ true = (both (nat_eq 58 c) false e).1 in cc)
mark_ends true (c ∷ (d ∷ s)) u first e =
    let equals : nat_eq 61 d ≡ true = (both (nat_eq 61 d) true (both (nat_eq 58 c) (nat_eq 61 d && true) e).1).0 in
    let low : d < 128 = grind (arith, nat_tests) in
    (omega arith, low)

some_bytes : (b : Bool) → (0 < cond b 2 1) × (cond b 2 1 - 1 + 1 ≡ cond b 2 1)
some_bytes true = (omega arith, refl)
some_bytes false = (omega arith, refl)

pub found_mark : (start n : ℕ) (s : List ℕ) → IsUtf8 s → FirstIs a_mark s → n ≡ cond (opens_with s (codes ":=")) 2 1
    → IsFound s n (TokenAt Mark start s n)
found_mark start n s u first n_is =
    let b = opens_with s (codes ":=") in
    let ends = mark_ends b s u first refl in
    let some = some_bytes b in
    let k = cond b 2 1 in
    let here : IsCharBoundary s k = subst (IsCharBoundary s) some.1
    (IsCharBoundary-after_ascii s (k - 1) u (omega (arith, some.0, ends.0)) ends.1) in
    subst (λ j. IsFound s j (TokenAt Mark start s j)) (sym n_is) (some.0, ends.0, here, (first, refl))
