-- Identifiers by their bytes: what begins one, what one is made of, and what ends before one is whole.
use Rattle.std.proofs.Common.{◌≡◌, ℕ, inl, inr, Bool, true, false, cond, ◌&&◌, ◌==◌, List, [], ◌∷◌, ◌++◌, refl, sym, subst, ◌∙◌, arith}
use Rattle.std.specs.Char.{is_ascii_alphabetic, is_ascii_alphanumeric}
use Rattle.std.specs.List.{list_all}
use Rattle.std.proofs.lemmas.Bool.{cond-true, cond-false}
use Rattle.std.proofs.lemmas.Bool.Decides.{nat_tests}
use Rattle.sm_ids.specs.Identifier.{is_identifier_byte, is_behind_underscore, IsIdentifier}
use Rattle.sm_ids.specs.steps.Ahead.{is_underscore}
use Rattle.sm_ids.proofs.Cutting.{both, and_also, pick, heads, tails, clash}

letter_byte : (c : ℕ) → is_ascii_alphabetic c ≡ true → is_identifier_byte c ≡ true
letter_byte c h = grind (arith, nat_tests)

letter_or_digit_byte : (c : ℕ) → is_ascii_alphanumeric c ≡ true → is_identifier_byte c ≡ true
letter_or_digit_byte c h = grind (arith, nat_tests)

underscore_byte : (c : ℕ) → (c == 95) ≡ true → is_identifier_byte c ≡ true
underscore_byte c h = grind (arith, nat_tests)

letter_is_no_underscore : (c : ℕ) → is_ascii_alphabetic c ≡ true → (c == 95) ≡ false
letter_is_no_underscore c h = grind (arith, nat_tests)

letter_or_digit_is_no_underscore : (c : ℕ) → is_ascii_alphanumeric c ≡ true → (c == 95) ≡ false
letter_or_digit_is_no_underscore c h = grind (arith, nat_tests)

-- what one is made of
behind_bytes : (t : List ℕ) → is_behind_underscore t ≡ true → list_all is_identifier_byte t ≡ true
behind_bytes [] h = cc
behind_bytes (c ∷ cs) h = elim (pick (c == 95) (is_behind_underscore cs) (is_ascii_alphanumeric c && list_all is_identifier_byte cs) h) [
  | inl k ↦ and_also (is_identifier_byte c) (list_all is_identifier_byte cs) (underscore_byte c k.0) (behind_bytes cs k.1)
  | inr k ↦ let l = both (is_ascii_alphanumeric c) (list_all is_identifier_byte cs) k.1 in
      and_also (is_identifier_byte c) (list_all is_identifier_byte cs) (letter_or_digit_byte c l.0) l.1
]

pub made_of_bytes : (t : List ℕ) → IsIdentifier t → list_all is_identifier_byte t ≡ true
made_of_bytes [] h = cc
made_of_bytes (c ∷ cs) h = elim (pick (c == 95) (is_behind_underscore cs) (is_ascii_alphabetic c && list_all is_identifier_byte cs) h) [
  | inl k ↦ and_also (is_identifier_byte c) (list_all is_identifier_byte cs) (underscore_byte c k.0) (behind_bytes cs k.1)
  | inr k ↦ let l = both (is_ascii_alphabetic c) (list_all is_identifier_byte cs) k.1 in
      and_also (is_identifier_byte c) (list_all is_identifier_byte cs) (letter_byte c l.0) l.1
]

-- what a byte has to be to end these underscores and open the rest of an identifier
abbrev pub opener : List ℕ → ℕ → Bool
opener [] = is_ascii_alphabetic
opener (u ∷ us) = is_ascii_alphanumeric

behind_whole : (us : List ℕ) (c : ℕ) (cs : List ℕ) → list_all is_underscore us ≡ true → is_ascii_alphanumeric c ≡ true
    → list_all is_identifier_byte cs ≡ true → is_behind_underscore (us ++ c ∷ cs) ≡ true
behind_whole [] c cs hu hc hs = cond-false (c == 95) (is_behind_underscore cs) (is_ascii_alphanumeric c && list_all is_identifier_byte cs)
    (letter_or_digit_is_no_underscore c hc) ∙ and_also (is_ascii_alphanumeric c) (list_all is_identifier_byte cs) hc hs
behind_whole (u ∷ us) c cs hu hc hs =
    let k = both (u == 95) (list_all is_underscore us) hu in
    cond-true (u == 95) (is_behind_underscore (us ++ c ∷ cs)) (is_ascii_alphanumeric u && list_all is_identifier_byte (us ++ c ∷ cs)) k.0
    ∙ behind_whole us c cs k.1 hc hs

pub whole : (us : List ℕ) (c : ℕ) (cs : List ℕ) → list_all is_underscore us ≡ true → opener us c ≡ true
    → list_all is_identifier_byte cs ≡ true → IsIdentifier (us ++ c ∷ cs)
whole [] c cs hu hc hs = cond-false (c == 95) (is_behind_underscore cs) (is_ascii_alphabetic c && list_all is_identifier_byte cs)
    (letter_is_no_underscore c hc) ∙ and_also (is_ascii_alphabetic c) (list_all is_identifier_byte cs) hc hs
whole (u ∷ us) c cs hu hc hs =
    let k = both (u == 95) (list_all is_underscore us) hu in
    cond-true (u == 95) (is_behind_underscore (us ++ c ∷ cs)) (is_ascii_alphabetic u && list_all is_identifier_byte (us ++ c ∷ cs)) k.0
    ∙ behind_whole us c cs k.1 hc hs

-- no identifier goes on with these bytes: there are none, or the first is neither an underscore nor an opener
abbrev pub Shuts : (ℕ → Bool) → List ℕ → Type 0
Shuts test [] = Unit {0}
Shuts test (c ∷ v) = (test c ≡ false) × ((c == 95) ≡ false)

-- what an identifier's first byte is, by the test that it has to pass
no_opener : (test : ℕ → Bool) (d c : ℕ) (i : List ℕ) → d ≡ c
    → cond (d == 95) (is_behind_underscore i) (test d && list_all is_identifier_byte i) ≡ true → (test c ≡ false) × ((c == 95) ≡ false) → ⊥
no_opener test d c i same h shut = elim (pick (d == 95) (is_behind_underscore i) (test d && list_all is_identifier_byte i) h) [
  | inl k ↦ clash (d == 95) k.0 (subst (λ x. (x == 95) ≡ false) (sym same) shut.1)
  | inr k ↦ clash (test d) (both (test d) (list_all is_identifier_byte i) k.1).0 (subst (λ x. test x ≡ false) (sym same) shut.0)
]

behind_it : (test : ℕ → Bool) (d u : ℕ) (i : List ℕ) → d ≡ u
    → cond (d == 95) (is_behind_underscore i) (test d && list_all is_identifier_byte i) ≡ true → (u == 95) ≡ true
    → is_behind_underscore i ≡ true
behind_it test d u i same h underscore = elim (pick (d == 95) (is_behind_underscore i) (test d && list_all is_identifier_byte i) h) [
  | inl k ↦ k.1
  | inr k ↦ absurd (clash (d == 95) (subst (λ x. (x == 95) ≡ true) (sym same) underscore) k.0)
]

behind_shut : (us v i r : List ℕ) → list_all is_underscore us ≡ true → Shuts is_ascii_alphanumeric v → is_behind_underscore i ≡ true
    → i ++ r ≡ us ++ v → ⊥
behind_shut us v [] r hu hv hi e = cc
behind_shut [] [] (d ∷ i) r hu hv hi e = cc
behind_shut [] (c ∷ v) (d ∷ i) r hu hv hi e = no_opener is_ascii_alphanumeric d c i (heads d c (i ++ r) v e) hi hv
behind_shut (u ∷ us) v (d ∷ i) r hu hv hi e =
    let k = both (u == 95) (list_all is_underscore us) hu in
    behind_shut us v i r k.1 hv (behind_it is_ascii_alphanumeric d u i (heads d u (i ++ r) (us ++ v) e) hi k.0)
    (tails d u (i ++ r) (us ++ v) e)

pub shut : (us v i r : List ℕ) → list_all is_underscore us ≡ true → Shuts (opener us) v → IsIdentifier i → i ++ r ≡ us ++ v → ⊥
shut us v [] r hu hv hi e = cc
shut [] [] (d ∷ i) r hu hv hi e = cc
shut [] (c ∷ v) (d ∷ i) r hu hv hi e = no_opener is_ascii_alphabetic d c i (heads d c (i ++ r) v e) hi hv
shut (u ∷ us) v (d ∷ i) r hu hv hi e =
    let k = both (u == 95) (list_all is_underscore us) hu in
    behind_shut us v i r k.1 hv (behind_it is_ascii_alphabetic d u i (heads d u (i ++ r) (us ++ v) e) hi k.0)
    (tails d u (i ++ r) (us ++ v) e)

-- an `A` opens the rest of an identifier behind any underscores
pub letter_opens : (us : List ℕ) → opener us 65 ≡ true
letter_opens [] = refl
letter_opens (u ∷ us) = refl
