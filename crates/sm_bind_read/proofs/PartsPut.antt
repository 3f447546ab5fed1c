-- Texts and rows that are put one after the other.
use Rattle.std.proofs.Common.{◌≡◌, ◌<◌, ℕ, zero, suc, ◌+◌, Bool, true, false, cond, List, [], ◌∷◌, ◌++◌, filter, get_or, length, refl, sym, ap, ◌∙◌, arith}
use Rattle.std.proofs.lemmas.List.{append-nil, append_assoc}
use Rattle.std.proofs.lemmas.List.Elements.{filter-append}
use Rattle.std.proofs.lemmas.Bool.{true≢false}
use Rattle.std.proofs.lemmas.Bool.Decides.{Decides-eqb}
use Rattle.std.specs.Prelude.{◌==◌, ◌&&◌, if◌then◌else◌, not}
use Rattle.std.specs.List.{join_with_byte}
use Rattle.std.specs.Str.{str_eq_ignore_ascii_case}
use Rattle.httparse.specs.Grammar.{trim_ows}
use Rattle.sm_bytes.specs.Ascii.{comma}
use Rattle.sm_http.specs.FieldValues.{values_named}
use Rattle.sm_http.specs.declared.message.Field.{Field}
use Rattle.sm_parts.specs.HeaderLists.{filled, is_filled}
use Rattle.sm_bind_read.specs.steps.Sources.{behind_commas, joined_on, with_comma}

-- what was put of one, and what is left
pub put_on : {X : Type 0} (before now one rest both whole : List X) → now ≡ before ++ one → both ≡ one ++ rest → before ++ both ≡ whole
    → now ++ rest ≡ whole
put_on before now one rest both whole is split all =
    ap (λ ys. ys ++ rest) is ∙ append_assoc before one rest ∙ ap (λ ys. before ++ ys) (sym split) ∙ all

pub filter_on : {X : Type 0} (p : X → Bool) (x : X) (xs : List X) → filter p (x ∷ xs) ≡ filter p (x ∷ []) ++ filter p xs
filter_on p x xs = filter-append p (x ∷ []) xs

-- the fields of a name
filled_on : (u : List ℕ) (us : List (List ℕ)) → filled (u ∷ us) ≡ filled (u ∷ []) ++ filled us
filled_on u us = by (is_filled (trim_ows u))
  where
    by : (z : Bool) → cond z (trim_ows u ∷ filled us) (filled us) ≡ cond z (trim_ows u ∷ []) [] ++ filled us
    by true = refl
    by false = refl

pub named_on : (name : List ℕ) (f : Field) (fs : List Field)
    → filled (values_named name (f ∷ fs)) ≡ filled (values_named name (f ∷ [])) ++ filled (values_named name fs)
named_on name f fs = by (str_eq_ignore_ascii_case f.name name)
  where
    by : (z : Bool) → filled (if z then f.value ∷ values_named name fs else values_named name fs)
        ≡ filled (if z then f.value ∷ [] else []) ++ filled (values_named name fs)
    by true = filled_on f.value (values_named name fs)
    by false = refl

-- texts with commas
commas_on : (u : List ℕ) (us : List (List ℕ)) → join_with_byte comma (u ∷ us) ≡ u ++ behind_commas us
commas_on u [] = sym (append-nil u)
commas_on u (v ∷ us) = ap (λ w. u ++ comma ∷ w) (commas_on v us)

next_joined : (n : ℕ) (u : List ℕ) (us : List (List ℕ)) → joined_on n (u ∷ us) ≡ with_comma n u ++ joined_on (suc n) us
next_joined zero u us = commas_on u us
next_joined (suc n) u us = refl

pub joined_next : (n : ℕ) (u : List ℕ) (us : List (List ℕ)) → joined_on n (u ∷ us) ≡ with_comma n u ++ joined_on (n + 1) us
joined_next n u us =
    next_joined n u us ∙ ap (λ m. with_comma n u ++ joined_on m us) (let e : suc n ≡ n + 1 = omega arith in e)

pub joined_none : (n : ℕ) → joined_on n [] ≡ []
joined_none zero = refl
joined_none (suc n) = refl

-- lists without elements
pub empty_from : {X : Type 0} (xs : List X) → (length xs == 0) ≡ true → xs ≡ []
empty_from [] h = refl
empty_from (x ∷ xs) h = let none : length (x ∷ xs) ≡ 0 = (Decides-eqb (length (x ∷ xs)) 0).0 h in absurd (omega (arith, none))

pub some_from : {X : Type 0} (xs : List X) → (length xs == 0) ≡ false → xs ≡ [] → ⊥
some_from xs h e = true≢false (sym ((Decides-eqb (length xs) 0).1 (ap length e)) ∙ h)

pub get_or_same : (xs : List ℕ) (i d e : ℕ) → i < length xs → get_or xs i d ≡ get_or xs i e
get_or_same [] i d e lt = absurd (omega (arith, lt))
get_or_same (x ∷ xs) zero d e lt = refl
get_or_same (x ∷ xs) (suc i) d e lt = get_or_same xs i d e (omega (arith, lt))

-- a pair that stays is put, and no other
pub row_put : (z : Bool) (pair : List ℕ × List ℕ) (key text : List ℕ) → z ≡ true → key ≡ pair.0 → text ≡ pair.1
    → (key, text) ∷ [] ≡ cond z (pair ∷ []) []
row_put true pair key text h same_key same_text = ap (λ w. (w, text) ∷ []) same_key ∙ ap (λ w. (pair.0, w) ∷ []) same_text
row_put false pair key text h same_key same_text = absurd (true≢false (sym h))

pub row_left : (z : Bool) (pair : List ℕ × List ℕ) (rows : List (List ℕ × List ℕ)) → z ≡ false → rows ≡ rows ++ cond z (pair ∷ []) []
row_left true pair rows h = absurd (true≢false h)
row_left false pair rows h = sym (append-nil rows)

pub both_hold : (a b : Bool) → a ≡ true → b ≡ false → (a && not b) ≡ true
both_hold true true h i = absurd (true≢false i)
both_hold true false h i = refl
both_hold false b h i = absurd (true≢false (sym h))

pub first_fails : (a b : Bool) → a ≡ false → (a && not b) ≡ false
first_fails true b h = absurd (true≢false h)
first_fails false b h = refl
