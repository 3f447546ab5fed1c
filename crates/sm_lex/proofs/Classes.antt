-- What the class of a byte says of it.
use Rattle.std.proofs.Common.{◌≡◌, ℕ, ◌+◌, ◌-◌, ◌≤◌, ◌<◌, Bool, true, false, cond, List, [], ◌∷◌, length, get_or, refl, sym, ap, subst}
use Rattle.std.proofs.Common.{◌∙◌, arith, eqb, nat_eq, ◌&&◌}
use Rattle.std.specs.Prelude.{IsUtf8, codes}
use Rattle.std.specs.List.{prefix_len, starts_with}
use Rattle.std.specs.Str.{IsCharBoundary}
use Rattle.std.proofs.lemmas.Str.{IsCharBoundary-after_ascii}
use Rattle.std.proofs.lemmas.List.Sums.{prefix_len-le-length, prefix_len_passes}
use Rattle.std.proofs.lemmas.Bool.Decides.{nat_tests}
use Rattle.sm_lex.specs.declared.byte.First.{First}
use Rattle.sm_lex.specs.declared.byte.First.TheVariants.{White, Slash, Word, Number, Quote, Mark, Stray}
use Rattle.sm_lex.specs.Bytes.{first_of, FirstIs, is_idl_white, begins_word, begins_number, begins_mark, is_word_byte, opens_with}
use Rattle.sm_lex.specs.Space.{EndsSpace}

-- the class by the tests in their order
abbrev by_tests : Bool → Bool → Bool → Bool → Bool → Bool → First
by_tests w s l n q m = cond w White (cond s Slash (cond l Word (cond n Number (cond q Quote (cond m Mark Stray)))))

tests_word : (w s l n q m : Bool) → by_tests w s l n q m ≡ Word → l ≡ true
tests_word true s l n q m e = absurd cc
tests_word false true l n q m e = absurd cc
tests_word false false true n q m e = refl
tests_word false false false true q m e = absurd cc
tests_word false false false false true m e = absurd cc
tests_word false false false false false true e = absurd cc
tests_word false false false false false false e = absurd cc

tests_quote : (w s l n q m : Bool) → by_tests w s l n q m ≡ Quote → q ≡ true
tests_quote true s l n q m e = absurd cc
tests_quote false true l n q m e = absurd cc
tests_quote false false true n q m e = absurd cc
tests_quote false false false true q m e = absurd cc
tests_quote false false false false true m e = refl
tests_quote false false false false false true e = absurd cc
tests_quote false false false false false false e = absurd cc

tests_mark : (w s l n q m : Bool) → by_tests w s l n q m ≡ Mark → m ≡ true
tests_mark true s l n q m e = absurd cc
tests_mark false true l n q m e = absurd cc
tests_mark false false true n q m e = absurd cc
tests_mark false false false true q m e = absurd cc
tests_mark false false false false true m e = absurd cc
tests_mark false false false false false true e = refl
tests_mark false false false false false false e = absurd cc

pub word_is : (c : ℕ) → first_of c ≡ Word → begins_word c ≡ true
word_is c e = tests_word (is_idl_white c) (eqb c 47) (begins_word c) (begins_number c) (eqb c 34) (begins_mark c) e

pub quote_is : (c : ℕ) → first_of c ≡ Quote → c ≡ 34
quote_is c e = let t : eqb c 34 ≡ true = tests_quote (is_idl_white c) (eqb c 47) (begins_word c) (begins_number c) (eqb c 34)
    (begins_mark c) e in grind (arith, nat_tests)

pub mark_is_ascii : (c : ℕ) → first_of c ≡ Mark → c < 128
mark_is_ascii c e = let t : begins_mark c ≡ true = tests_mark (is_idl_white c) (eqb c 47) (begins_word c) (begins_number c) (eqb c 34)
    (begins_mark c) e in grind (arith, nat_tests)

pub word_bytes_are_ascii : (c : ℕ) → is_word_byte c ≡ true → c < 128
word_bytes_are_ascii c e = grind (arith, nat_tests)

-- a word's first byte goes on with a word
pub letter_goes_on : (c : ℕ) → begins_word c ≡ true → is_word_byte c ≡ true
letter_goes_on c e = grind (arith, nat_tests)

-- a run of ASCII bytes ends between characters
pub boundary_behind_run : (p : ℕ → Bool) (s : List ℕ) → ((c : ℕ) → p c ≡ true → c < 128) → IsUtf8 s → 0 < prefix_len p s
    → IsCharBoundary s (prefix_len p s)
boundary_behind_run p s small u some =
    let n = prefix_len p s in
    let within : n ≤ length s = prefix_len-le-length p s in
    let low : get_or s (n - 1) 0 < 128 = small _ (prefix_len_passes p s (n - 1) 0 (omega arith)) in
    let same : n - 1 + 1 ≡ n = omega arith in
    subst (IsCharBoundary s) same (IsCharBoundary-after_ascii s (n - 1) u (omega arith) low)

pub word_some : (s : List ℕ) → FirstIs Word s → 0 < prefix_len is_word_byte s
word_some [] h = absurd h
word_some (c ∷ s) h = let one : prefix_len is_word_byte (c ∷ s) ≡ 1 + prefix_len is_word_byte s = ap
    (λ b. cond b (1 + prefix_len is_word_byte s) 0) (letter_goes_on c (word_is c h)) in omega arith

tests_other : (w s l n q m : Bool) → (by_tests w s l n q m ≡ White → ⊥) → (by_tests w s l n q m ≡ Slash → ⊥) → (w ≡ false) × (s ≡ false)
tests_other true s l n q m not_white not_slash = absurd (not_white refl)
tests_other false true l n q m not_white not_slash = absurd (not_slash refl)
tests_other false false l n q m not_white not_slash = (refl, refl)

tests_slash : (w s l n q m : Bool) → by_tests w s l n q m ≡ Slash → w ≡ false
tests_slash true s l n q m e = absurd cc
tests_slash false s l n q m e = refl

-- where a byte of another class stands, whitespace ends
pub class_ends : (f : First) (s : List ℕ) → FirstIs f s → (f ≡ White → ⊥) → (f ≡ Slash → ⊥) → EndsSpace s
class_ends f [] h not_white not_slash = tt
class_ends f (c ∷ s) h not_white not_slash =
    let other = tests_other (is_idl_white c) (eqb c 47) (begins_word c) (begins_number c) (eqb c 34) (begins_mark c)
    (λ e. not_white (sym h ∙ e)) (λ e. not_slash (sym h ∙ e)) in
    let no_slash : nat_eq 47 c ≡ false = grind (arith, nat_tests, other.1) in
    (other.0, ap (λ b. b && starts_with nat_eq s (47 ∷ [])) no_slash)

pub slash_ends : (s : List ℕ) → FirstIs Slash s → opens_with s (codes "//") ≡ false → EndsSpace s
slash_ends [] h e = tt
slash_ends (c ∷ s) h e = (tests_slash (is_idl_white c) (eqb c 47) (begins_word c) (begins_number c) (eqb c 34) (begins_mark c) h, e)
