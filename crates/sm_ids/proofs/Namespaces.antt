-- Namespaces by their identifiers: one alone, one more before it, and the first of them taken off.
use Rattle.std.proofs.Common.{◌≡◌, ℕ, ◌⊎◌, inl, inr, Bool, true, false, ◌&&◌, ◌||◌, List, [], ◌∷◌, ◌++◌, refl, sym, ap, subst, ◌∙◌, arith}
use Rattle.std.specs.List.{list_all, onto_first, All}
use Rattle.std.proofs.lemmas.Bool.Decides.{nat_tests}
use Rattle.std.proofs.lemmas.List.Sums.{AllPass-from_list_all}
use Rattle.std.proofs.lemmas.List.Splits.{slice_split-cons_yes, slice_split-cons_no, slice_split_none, slice_split_at}
use Rattle.sm_ids.specs.Identifier.{is_identifier_byte, is_identifier, IsIdentifier, is_full_stop, identifiers, IsNamespace}
use Rattle.sm_ids.proofs.Cutting.{both, and_also, list_all_weaker}
use Rattle.sm_ids.proofs.Identifiers.{made_of_bytes}

pub bool_cases : (b : Bool) → (b ≡ true) ⊎ (b ≡ false)
bool_cases true = inl refl
bool_cases false = inr refl

no_full_stop : (c : ℕ) → is_identifier_byte c ≡ true → is_full_stop c ≡ false
no_full_stop c h = grind (arith, nat_tests)

no_full_stops : (i : List ℕ) → IsIdentifier i → All (λ c. is_full_stop c ≡ false) i
no_full_stops i h = let bytes = AllPass-from_list_all is_identifier_byte i (made_of_bytes i h) in λ k d lt. no_full_stop _ (bytes k d lt)

pub one_identifier : (i : List ℕ) → IsIdentifier i → IsNamespace i
one_identifier i h = subst (λ ps. list_all is_identifier ps ≡ true) (sym (slice_split_none is_full_stop i (no_full_stops i h)))
    (and_also (is_identifier i) true h refl)

pub one_more : (i w : List ℕ) → IsIdentifier i → IsNamespace w → IsNamespace (i ++ 46 ∷ w)
one_more i w h k = subst (λ ps. list_all is_identifier ps ≡ true) (sym (slice_split_at is_full_stop i 46 w (no_full_stops i h) refl))
    (and_also (is_identifier i) (list_all is_identifier (identifiers w)) h k)

-- the first part, and what is behind it
abbrev FirstPart : List ℕ → Type 0
FirstPart xs = (first rest : List ℕ) × (xs ≡ first ++ rest)
    × (((rest ≡ []) × (identifiers xs ≡ first ∷ []))
    ⊎ ((y : ℕ) × (ys : List ℕ) × (rest ≡ y ∷ ys) × (is_full_stop y ≡ true) × (identifiers xs ≡ first ∷ identifiers ys)))

first_more : (x : ℕ) (xs : List ℕ) → is_full_stop x ≡ false → FirstPart xs → FirstPart (x ∷ xs)
first_more x xs h (first, rest, e, inl (e1, e2)) =
    (x ∷ first, rest, ap (λ l. x ∷ l) e, inl (e1, slice_split-cons_no is_full_stop x xs h ∙ ap (onto_first x) e2))
first_more x xs h (first, rest, e, inr (y, ys, e1, stop, e2)) =
    (x ∷ first, rest, ap (λ l. x ∷ l) e, inr (y, ys, e1, stop, slice_split-cons_no is_full_stop x xs h ∙ ap (onto_first x) e2))

first_part : (xs : List ℕ) → FirstPart xs
first_part [] = ([], [], refl, inl (refl, refl))
first_part (x ∷ xs) = elim (bool_cases (is_full_stop x)) [
  | inl h ↦ ([], x ∷ xs, refl, inr (x, xs, refl, h, slice_split-cons_yes is_full_stop x xs h))
  | inr h ↦ first_more x xs h (first_part xs)
]

-- a text has a part
pub some_identifiers : (t : List ℕ) → (first : List ℕ) × (more : List (List ℕ)) × (identifiers t ≡ first ∷ more)
some_identifiers t = some t (first_part t)
  where
    some : (t : List ℕ) → FirstPart t → (first : List ℕ) × (more : List (List ℕ)) × (identifiers t ≡ first ∷ more)
    some t (first, rest, e, inl (e1, e2)) = (first, [], e2)
    some t (first, rest, e, inr (y, ys, e1, stop, e2)) = (first, identifiers ys, e2)

-- a namespace is an identifier, and then nothing or a full stop and a namespace
pub record FirstIdentifier (t : List ℕ) : Type 0 where
  pub first : List ℕ
  pub rest : List ℕ
  pub is_first : IsIdentifier first
  pub parts : t ≡ first ++ rest
  pub is_rest : (rest ≡ []) ⊎ ((w : List ℕ) × (rest ≡ 46 ∷ w) × IsNamespace w)

full_stop_is : (c : ℕ) → is_full_stop c ≡ true → c ≡ 46
full_stop_is c h = grind (arith, nat_tests)

pub namespace_first : (t : List ℕ) → IsNamespace t → FirstIdentifier t
namespace_first t h = from_first t h (first_part t)
  where
    from_first : (t : List ℕ) → IsNamespace t → FirstPart t → FirstIdentifier t
    from_first t h (first, rest, e, inl (e1, e2)) =
        let k : (is_identifier first && true) ≡ true = subst (λ ps. list_all is_identifier ps ≡ true) e2 h in
        record { first = first; rest = rest; is_first = (both (is_identifier first) true k).0; parts = e; is_rest = inl e1 }
    from_first t h (first, rest, e, inr (y, ys, e1, stop, e2)) =
        let k : (is_identifier first && list_all is_identifier (identifiers ys)) ≡ true =
        subst (λ ps. list_all is_identifier ps ≡ true) e2 h in
        let l = both (is_identifier first) (list_all is_identifier (identifiers ys)) k in
        record {
          first = first;
          rest = rest;
          is_first = l.0;
          parts = e;
          is_rest =
              inr (ys, e1 ∙ ap (λ c. c ∷ ys) (full_stop_is y stop), l.1);
        }

-- what a namespace is made of
abbrev pub is_namespace_byte : ℕ → Bool
is_namespace_byte c = is_identifier_byte c || is_full_stop c

abbrev are_bytes : List ℕ → Bool
are_bytes t = list_all is_identifier_byte t

onto_bytes : (c : ℕ) (ps : List (List ℕ)) → list_all are_bytes (onto_first c ps) ≡ true
    → (is_identifier_byte c ≡ true) × (list_all are_bytes ps ≡ true)
onto_bytes c [] h = ((both (is_identifier_byte c) true (both (is_identifier_byte c && true) true h).0).0, refl)
onto_bytes c (p ∷ ps) h =
    let k = both (is_identifier_byte c && are_bytes p) (list_all are_bytes ps) h in
    let l = both (is_identifier_byte c) (are_bytes p) k.0 in
    (l.0, and_also (are_bytes p) (list_all are_bytes ps) l.1 k.1)

stop_byte : (c : ℕ) → is_full_stop c ≡ true → is_namespace_byte c ≡ true
stop_byte c h = grind (arith, nat_tests)

pub name_byte : (c : ℕ) → is_identifier_byte c ≡ true → is_namespace_byte c ≡ true
name_byte c h = grind (arith, nat_tests)

split_bytes : (t : List ℕ) → list_all are_bytes (identifiers t) ≡ true → list_all is_namespace_byte t ≡ true
split_bytes [] h = refl
split_bytes (c ∷ cs) h = elim (bool_cases (is_full_stop c)) [
  | inl stop ↦
      let k : (true && list_all are_bytes (identifiers cs)) ≡ true =
      subst (λ ps. list_all are_bytes ps ≡ true) (slice_split-cons_yes is_full_stop c cs stop) h in
      and_also (is_namespace_byte c) (list_all is_namespace_byte cs) (stop_byte c stop)
      (split_bytes cs (both true (list_all are_bytes (identifiers cs)) k).1)
  | inr other ↦
      let k = onto_bytes c (identifiers cs) (subst (λ ps. list_all are_bytes ps ≡ true) (slice_split-cons_no is_full_stop c cs other) h) in
      and_also (is_namespace_byte c) (list_all is_namespace_byte cs) (name_byte c k.0) (split_bytes cs k.1)
]

pub namespace_bytes : (t : List ℕ) → IsNamespace t → list_all is_namespace_byte t ≡ true
namespace_bytes t h = split_bytes t (list_all_weaker is_identifier are_bytes made_of_bytes (identifiers t) h)
