-- The pairs of a query map, and of prefix headers.
use Rattle.std.proofs.Common.{◌≡◌, ◌+◌, ℕ, Bool, true, false, cond, List, [], ◌∷◌, ◌++◌, map, filter, drop, take, length, refl, sym, ap, ◌∙◌}
use Rattle.std.specs.Prelude.{◌&&◌, MatchOption, None, Option, Some, not}
use Rattle.std.specs.Str.Pattern.{FindsTextPrefix}
use Rattle.std.proofs.lemmas.Bool.{true≢false}
use denote.Ref.{Bor}
use Rattle.std.specs.List.{join_with_byte}
use Rattle.std.specs.Str.{is_utf8, str_to_ascii_lowercase}
use Rattle.std.proofs.lemmas.List.{take-append-drop}
use Rattle.std.proofs.lemmas.List.Elements.{filter_agree}
use Rattle.std.proofs.lemmas.Slice.Eq.{bytes_eq-Decides}
use Rattle.httparse.specs.Grammar.{trim_ows}
use Rattle.sm_bytes.specs.Ascii.{comma}
use Rattle.sm_http.specs.declared.message.Field.{Field}
use Rattle.sm_parts.specs.HeaderLists.{is_filled, joined_values}
use Rattle.sm_parts.specs.Targets.{QueryPair}
use Rattle.sm_bind.specs.Roles.{Bound, is_taken_key, is_taken_name}
use Rattle.sm_bind_read.specs.Parts.{has_prefix, is_of_map, is_prefixed, prefixed_text, prefixed_texts}
use Rattle.sm_bind_read.specs.steps.Sources.{is_free, kept_by, kept_text}

-- pairs that aren't taken are those of the map
pub free_of_map : (b : Bound) (taken : List ℕ → Bool) → ((key : List ℕ) → taken key ≡ is_taken_key b key) → (pairs : List QueryPair)
    → filter (is_free taken) pairs ≡ filter (is_of_map b) pairs
free_of_map b taken same pairs =
    filter_agree (is_free taken) (is_of_map b) (λ pair. ap (λ z. is_utf8 pair.0 && not z) (same pair.0)) pairs

-- cut behind a text
take_all : (xs ys : List ℕ) → take (length xs) (xs ++ ys) ≡ xs
take_all [] ys = refl
take_all (x ∷ xs) ys = ap (λ zs. x ∷ zs) (take_all xs ys)

drop_all : (xs ys : List ℕ) → drop (length xs) (xs ++ ys) ≡ ys
drop_all [] ys = refl
drop_all (x ∷ xs) ys = drop_all xs ys

prefix_there : (prefix rest : List ℕ) → has_prefix prefix (prefix ++ rest) ≡ true
prefix_there prefix rest = (bytes_eq-Decides prefix (take (length prefix) (prefix ++ rest))).1 (sym (take_all prefix rest))

prefix_from : (prefix name : List ℕ) → has_prefix prefix name ≡ true → name ≡ prefix ++ drop (length prefix) name
prefix_from prefix name h =
    sym (take-append-drop (length prefix) name)
    ∙ ap (λ u. u ++ drop (length prefix) name) (sym ((bytes_eq-Decides prefix (take (length prefix) name)).0 h))

-- the value of one field
one_joined : (u : List ℕ) → join_with_byte comma (filter is_filled (u ∷ [])) ≡ u
one_joined [] = refl
one_joined (c ∷ u) = refl

kept_as : (taken : Bool) (key u : List ℕ) → cond (not taken && is_filled u) ((key, u) ∷ []) [] ≡ kept_by taken key u
kept_as true key [] = refl
kept_as true key (c ∷ u) = refl
kept_as false key [] = refl
kept_as false key (c ∷ u) = refl

module _ (b : Bound) (prefix : List ℕ) (f : Field) where
  abbrev name : List ℕ
  name = str_to_ascii_lowercase f.name

  shown : (z : Bool) → map (prefixed_text prefix) (cond z (f ∷ []) []) ≡ cond z (prefixed_text prefix f ∷ []) []
  shown true = refl
  shown false = refl

  -- a field that doesn't begin with the prefix
  pub not_prefixed : ((rest : List ℕ) → name ≡ prefix ++ rest → ⊥) → prefixed_texts b prefix (f ∷ []) ≡ []
  not_prefixed none = shown (is_prefixed b prefix f) ∙ by (has_prefix prefix name) refl
    where
      by : (z : Bool) → has_prefix prefix name ≡ z
          → cond (z && (not (is_taken_name b name) && is_filled (joined_values (f.value ∷ [])))) (prefixed_text prefix f ∷ []) [] ≡ []
      by true e = absurd (none (drop (length prefix) name) (prefix_from prefix name e))
      by false e = refl

  -- and one that does
  pub prefixed_is : (key : List ℕ) → name ≡ prefix ++ key → prefixed_texts b prefix (f ∷ []) ≡ kept_text b key f
  prefixed_is key e =
      let begins : has_prefix prefix name ≡ true = ap (has_prefix prefix) e ∙ prefix_there prefix key in
      let behind : drop (length prefix) name ≡ key = ap (drop (length prefix)) e ∙ drop_all prefix key in
      let value : joined_values (f.value ∷ []) ≡ trim_ows f.value = one_joined (trim_ows f.value) in
      shown (is_prefixed b prefix f)
      ∙ (λ i. cond (begins i && (not (is_taken_name b name) && is_filled (value i))) ((behind i, value i) ∷ []) [])
      ∙ kept_as (is_taken_name b name) key (trim_ows f.value)

  pub one_prefixed : (fs : List Field) → prefixed_texts b prefix (f ∷ fs) ≡ prefixed_texts b prefix (f ∷ []) ++ prefixed_texts b prefix fs
  one_prefixed fs = by (is_prefixed b prefix f)
    where
      by : (z : Bool) → map (prefixed_text prefix) (cond z (f ∷ filter (is_prefixed b prefix) fs) (filter (is_prefixed b prefix) fs))
          ≡ map (prefixed_text prefix) (cond z (f ∷ []) []) ++ prefixed_texts b prefix fs
      by true = refl
      by false = refl

-- the value that is kept
pub kept_empty : (taken : Bool) (key u : List ℕ) → u ≡ [] → kept_by taken key u ≡ []
kept_empty taken key u e = ap (kept_by taken key) e

pub kept_taken : (taken : Bool) (key u : List ℕ) → taken ≡ true → kept_by taken key u ≡ []
kept_taken true key [] e = refl
kept_taken true key (c ∷ u) e = refl
kept_taken false key u e = absurd (true≢false (sym e))

pub kept_some : (taken : Bool) (key u : List ℕ) → taken ≡ false → (u ≡ [] → ⊥) → kept_by taken key u ≡ (key, u) ∷ []
kept_some true key u e some = absurd (true≢false e)
kept_some false key [] e some = absurd (some refl)
kept_some false key (c ∷ u) e some = refl

-- what stands behind a text, as it is cut
pub behind_told : (before s : List ℕ) (r : Option (Bor (List ℕ)))
    → MatchOption r (FindsTextPrefix before s None)
    (λ x. (n : ℕ) × FindsTextPrefix before s (Some n) × (x.now ≡ drop n s) × (length x.now + n ≡ length s))
    → MatchOption r ((rest : List ℕ) → s ≡ before ++ rest → ⊥) (λ rest. s ≡ before ++ rest.now)
behind_told before s None h = h
behind_told before s (Some x) h = h.1.1 ∙ ap (λ t. before ++ t) (sym h.2)
