-- Identifiers and namespaces, production by production of the grammar.
use Rattle.std.proofs.Common.{◌≡◌, ◌↔◌, ℕ, suc, zero, ◌+◌, inl, inr, true, ◌&&◌, ◌==◌, List, [], ◌∷◌, ◌++◌, replicate, refl, sym, ap}
use Rattle.std.proofs.Common.{subst, ◌∙◌, arith, add-one, append_assoc}
use Rattle.std.specs.Char.{is_ascii_alphabetic, is_ascii_alphanumeric}
use Rattle.std.specs.List.{list_all, join_with_byte, AllPass}
use Rattle.std.proofs.lemmas.Bool.Decides.{nat_tests}
use Rattle.std.proofs.lemmas.List.Sums.{AllPass-from_list_all, list_all-from_AllPass}
use Rattle.std.proofs.lemmas.List.Splits.{join_with_byte-slice_split}
use Rattle.sm_ids.specs.Identifier.{is_identifier_byte, is_behind_underscore, is_identifier, IsIdentifier, IsNamespace}
use Rattle.sm_ids.specs.Laws.{IsIdentifierStart}
use Rattle.sm_ids.proofs.Cutting.{both, pick}
use Rattle.sm_ids.specs.steps.Ahead.{is_underscore}
use Rattle.sm_ids.proofs.Identifiers.{whole}
use Rattle.sm_ids.proofs.Namespaces.{one_identifier, one_more, some_identifiers}

abbrev pub SpelledIdentifier : List ℕ → Type 0
SpelledIdentifier t = (s rest : List ℕ) × IsIdentifierStart s × AllPass is_identifier_byte rest × (t ≡ s ++ rest)

underscore_is : (c : ℕ) → (c == 95) ≡ true → c ≡ 95
underscore_is c h = grind (arith, nat_tests)

-- some underscores, a letter or a digit, and the rest
abbrev Behind : List ℕ → Type 0
Behind t = (n c : ℕ) × (rest : List ℕ) × (is_ascii_alphanumeric c ≡ true) × AllPass is_identifier_byte
    rest × (t ≡ replicate n 95 ++ c ∷ rest)

behind : (t : List ℕ) → is_behind_underscore t ≡ true → Behind t
behind [] h = cc
behind (c ∷ cs) h = elim (pick (c == 95) (is_behind_underscore cs) (is_ascii_alphanumeric c && list_all is_identifier_byte cs) h) [
  | inl k ↦ one_more_underscore c cs k.0 (behind cs k.1)
  | inr k ↦ let l = both (is_ascii_alphanumeric c) (list_all is_identifier_byte cs) k.1 in
      (0, c, cs, l.0, AllPass-from_list_all is_identifier_byte cs l.1, refl)
]
  where
    one_more_underscore : (c : ℕ) (cs : List ℕ) → (c == 95) ≡ true → Behind cs → Behind (c ∷ cs)
    one_more_underscore c cs h (n, d, rest, letter, bytes, e) =
        (suc n, d, rest, letter, bytes, ap (λ x. x ∷ cs) (underscore_is c h) ∙ ap (λ x. 95 ∷ x) e)

spelled : (t : List ℕ) → IsIdentifier t → SpelledIdentifier t
spelled [] h = cc
spelled (c ∷ cs) h = elim (pick (c == 95) (is_behind_underscore cs) (is_ascii_alphabetic c && list_all is_identifier_byte cs) h) [
  | inl k ↦ underscored c cs k.0 (behind cs k.1)
  | inr k ↦ let l = both (is_ascii_alphabetic c) (list_all is_identifier_byte cs) k.1 in
      (c ∷ [], cs, inl (c, l.0, refl), AllPass-from_list_all is_identifier_byte cs l.1, refl)
]
  where
    underscored : (c : ℕ) (cs : List ℕ) → (c == 95) ≡ true → Behind cs → SpelledIdentifier (c ∷ cs)
    underscored c cs h (n, d, rest, letter, bytes, e) = (
      replicate (n + 1) 95 ++ d ∷ [],
      rest,
      inr (n, d, letter, refl),
      bytes,
      ap (λ x. x ∷ cs) (underscore_is c h) ∙ ap (λ x. 95 ∷ x) e ∙ sym (append_assoc (replicate (suc n) 95) (d ∷ []) rest)
          ∙ ap (λ k. (replicate k 95 ++ d ∷ []) ++ rest) (sym (add-one n)),
    )

underscores : (n : ℕ) → list_all is_underscore (replicate n 95) ≡ true
underscores zero = refl
underscores (suc n) = underscores n

unspelled : (t : List ℕ) → SpelledIdentifier t → IsIdentifier t
unspelled t (s, rest, inl (c, letter, e), bytes, parts) =
    subst IsIdentifier (sym (parts ∙ ap (λ x. x ++ rest) e))
    (whole [] c rest refl letter (list_all-from_AllPass is_identifier_byte rest bytes))
unspelled t (s, rest, inr (n, c, letter, e), bytes, parts) =
    let more = parts ∙ ap (λ x. x ++ rest) e ∙ ap (λ k. (replicate k 95 ++ c ∷ []) ++ rest) (add-one n)
    ∙ append_assoc (replicate (suc n) 95) (c ∷ []) rest in
    subst IsIdentifier (sym more) (whole (replicate (suc n) 95) c rest (underscores (suc n)) letter
    (list_all-from_AllPass is_identifier_byte rest bytes))

pub identifiers_are : (t : List ℕ) → IsIdentifier t ↔ SpelledIdentifier t
identifiers_are t = (spelled t, unspelled t)

abbrev pub JoinedNamespace : List ℕ → Type 0
JoinedNamespace t = (first : List ℕ) × (more : List (List ℕ)) × AllPass is_identifier
    (first ∷ more) × (t ≡ join_with_byte 46 (first ∷ more))

apart : (t : List ℕ) → IsNamespace t → JoinedNamespace t
apart t h =
    let p = some_identifiers t in (
      p.0,
      p.1,
      AllPass-from_list_all is_identifier (p.0 ∷ p.1) (subst (λ ps. list_all is_identifier ps ≡ true) p.2 h),
      sym
          (join_with_byte-slice_split 46 t) ∙ ap (join_with_byte 46) p.2,
    )

together : (first : List ℕ) (more : List (List ℕ)) → list_all is_identifier (first ∷ more) ≡ true
    → IsNamespace (join_with_byte 46 (first ∷ more))
together first [] h = one_identifier first (both (is_identifier first) true h).0
together first (m ∷ more) h = let k = both (is_identifier first) (list_all is_identifier (m ∷ more)) h in
    one_more first (join_with_byte 46 (m ∷ more)) k.0 (together m more k.1)

pub namespaces_are : (t : List ℕ) → IsNamespace t ↔ JoinedNamespace t
namespaces_are t = (
  apart t,
  λ (first, more, all, e). subst IsNamespace (sym e)
      (together first more (list_all-from_AllPass is_identifier (first ∷ more) all)),
)
