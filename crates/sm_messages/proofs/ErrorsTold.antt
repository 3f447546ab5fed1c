-- The place of an error by its name, and the name that the id of a shape tells.
use Rattle.std.proofs.Common.{◌≡◌, inl, inr, ℕ, zero, suc, ◌+◌, ◌-◌, ◌<◌, ◌≤◌, Bool, true, false, not, List, [], ◌∷◌, ◌++◌, map, take, drop, length, get_or, Option, None, Some}
use Rattle.std.proofs.Common.{if◌then◌else◌, refl, sym, ap, ◌∙◌, subst, append-nil, arith}
use Rattle.std.specs.Prelude.{◌==◌, ◌&&◌, ◌||◌, IsUtf8, MatchOption, cond, slice_get}
use Rattle.std.specs.Option.{option_map}
use Rattle.std.specs.List.{Contains, before_first, list_all, list_any, position_or_len}
use Rattle.std.proofs.Math.Seq.{drop-append-add, take-append_seam}
use Rattle.std.proofs.lemmas.Bool.{cases_lt}
use Rattle.std.proofs.lemmas.Bool.Decides.{nat_tests}
use Rattle.std.proofs.lemmas.List.{get_or-map, length-drop, length-map, take_all}
use Rattle.std.proofs.lemmas.List.Elements.{Contains-get_or}
use Rattle.std.proofs.lemmas.List.Folds.{list_all-append, list_any-append, list_any_at}
use Rattle.std.proofs.lemmas.List.Sums.{passes_at_first}
use Rattle.std.proofs.lemmas.Option.{get_or_from_slice_get, same_Some, slice_get-get_or, slice_get-map}
use Rattle.std.proofs.lemmas.Option.{slice_get_within}
use Rattle.sm_bytes.specs.Ascii.{colon, dollar, number_sign}
use Rattle.sm_ids.specs.Identifier.{IsIdentifier, is_identifier_byte}
use Rattle.sm_ids.specs.IdText.{Id, IdText, IsShapeId, member_text}
use Rattle.sm_ids.specs.TextParts.{is_absolute, is_byte, local_part, name_part}
use Rattle.sm_ids.proofs.Cutting.{list_all_weaker}
use Rattle.sm_ids.proofs.Identifiers.{made_of_bytes}
use Rattle.sm_ids.proofs.Namespaces.{is_namespace_byte, namespace_bytes}
use Rattle.sm_ids.proofs.TextCuts.{all_run}
use Rattle.sm_ast.proofs.JsonGiven.{identifier_utf8}
use Rattle.sm_shapes.specs.Names.{AllDiffer}
use Rattle.sm_service.specs.ErrorOrder.{place_named}
use Rattle.sm_service.specs.ServiceData.{name_of_error}
use Rattle.sm_service.specs.declared.error.ErrorShape.{ErrorShape}
use Rattle.sm_service.proofs.ErrorsNamed.{none_named, some_named}
use Rattle.sm_service.proofs.ServableIds.{is_none, name_is_identifier, name_of_id}
use Rattle.sm_messages.specs.Goals.{no_error}
use Rattle.sm_messages.specs.Names.{AreErrorIds, error_name, without_namespace}

there : (xs : List (List ℕ)) (j : ℕ) (w : List ℕ) → slice_get xs j ≡ Some w → Contains xs w
there xs j w e = (j, slice_get_within xs j w e, get_or_from_slice_get xs j w w e)

-- names that differ have one place
one_place : (xs : List (List ℕ)) (w : List ℕ) (i j : ℕ) → AllDiffer xs → slice_get xs i ≡ Some w → slice_get xs j ≡ Some w → i ≡ j
one_place [] w i j d a b = absurd (omega (arith, slice_get_within [] i w a))
one_place (x ∷ xs) w zero zero d a b = refl
one_place (x ∷ xs) w zero (suc j) d a b = absurd (is_none x xs d.0 w (there xs j w b) (sym (same_Some x w a)))
one_place (x ∷ xs) w (suc i) zero d a b = absurd (is_none x xs d.0 w (there xs i w a) (sym (same_Some x w b)))
one_place (x ∷ xs) w (suc i) (suc j) d a b = ap suc (one_place xs w i j d.1 a b)

pub place_nowhere : (es : List ErrorShape) (w : List ℕ) → (Contains (map name_of_error es) w → ⊥) → place_named es w ≡ None
place_nowhere es w none = by (place_named es w) refl
  where
    by : (o : Option ℕ) → place_named es w ≡ o → o ≡ None
    by None e = refl
    by (Some k) e = absurd (none (there (map name_of_error es) k w (some_named es w k e)))

pub place_found : (es : List ErrorShape) (w : List ℕ) (j : ℕ) → AllDiffer (map name_of_error es)
    → slice_get (map name_of_error es) j ≡ Some w → place_named es w ≡ Some j
place_found es w j differ at = by (place_named es w) refl
  where
    by : (o : Option ℕ) → place_named es w ≡ o → o ≡ Some j
    by None e = absurd (none_named es w e (there (map name_of_error es) j w at))
    by (Some k) e = ap Some (one_place (map name_of_error es) w k j differ (some_named es w k e) at)

pub place_told : (es : List ErrorShape) (w : List ℕ) (r : Option ℕ) → AllDiffer (map name_of_error es)
    → MatchOption r (Contains (map name_of_error es) w → ⊥) (λ place. slice_get (map name_of_error es) place ≡ Some w)
    → r ≡ place_named es w
place_told es w None differ none = sym (place_nowhere es w none)
place_told es w (Some j) differ at = sym (place_found es w j differ at)

abbrev others : (ℕ → Bool) → ℕ → Bool
others p c = not (p c)

-- a text without the byte isn't cut
uncut : (p : ℕ → Bool) (u : List ℕ) → list_all (others p) u ≡ true → before_first p u ≡ u
uncut p u plain =
    ap (before_first p) (sym (append-nil u)) ∙ ap (λ n. take n (u ++ [])) (sym (all_run (others p) u [] plain refl)) ∙ take-append_seam u []

no_sign : (c : ℕ) → is_namespace_byte c ≡ true → not (c == 35) ≡ true
no_sign c h = grind (arith, nat_tests)

no_colon : (c : ℕ) → is_namespace_byte c ≡ true → not (c == 58) ≡ true
no_colon c h = grind (arith, nat_tests)

name_sign : (c : ℕ) → is_identifier_byte c ≡ true → not (c == 35) ≡ true
name_sign c h = grind (arith, nat_tests)

name_colon : (c : ℕ) → is_identifier_byte c ≡ true → not (c == 58) ≡ true
name_colon c h = grind (arith, nat_tests)

none_passes : (p : ℕ → Bool) (u : List ℕ) → list_all (others p) u ≡ true → list_any p u ≡ false
none_passes p [] h = refl
none_passes p (c ∷ u) h = by (p c) h (λ g. none_passes p u g)
  where
    by : (b : Bool) → (not b && list_all (others p) u) ≡ true → (list_all (others p) u ≡ true → list_any p u ≡ false)
        → (b || list_any p u) ≡ false
    by true g rest = absurd cc
    by false g rest = rest g

-- a name tells itself
pub name_told : (name : List ℕ) → IsIdentifier name → error_name name ≡ name
name_told name is =
    let bytes = made_of_bytes name is in
    ap without_namespace (uncut (is_byte colon) name (list_all_weaker is_identifier_byte (others (is_byte colon)) name_colon name bytes))
    ∙ ap (λ b. if b then local_part name else name)
    (none_passes (is_byte number_sign) name (list_all_weaker is_identifier_byte (others (is_byte number_sign)) name_sign name bytes))

-- and an id the name of its shape
pub id_told : (text : List ℕ) → IsShapeId text → error_name text ≡ name_part text
id_told text (id, spelt, alone) =
    let named : id.name ++ member_text id.member ≡ id.name = ap (λ m. id.name ++ member_text m) alone ∙ append-nil id.name in
    let whole : text ≡ id.namespace ++ 35 ∷ id.name = spelt.spelled ∙ ap (λ n. id.namespace ++ 35 ∷ n) named in
    let first = namespace_bytes id.namespace spelt.is_id.namespace in
    let last = made_of_bytes id.name spelt.is_id.name in
    let fine = list_all_weaker is_namespace_byte (others (is_byte number_sign)) no_sign id.namespace first in
    let plain_first = list_all_weaker is_namespace_byte (others (is_byte colon)) no_colon id.namespace first in
    let plain_last = list_all_weaker is_identifier_byte (others (is_byte colon)) name_colon id.name last in
    let plain : list_all (others (is_byte colon)) (id.namespace ++ 35 ∷ id.name) ≡ true =
    list_all-append (others (is_byte colon)) id.namespace (35 ∷ id.name)
    ∙ ap (λ b. b && list_all (others (is_byte colon)) (35 ∷ id.name)) plain_first ∙ plain_last
    in
    let signed : list_any (is_byte number_sign) (id.namespace ++ 35 ∷ id.name) ≡ true =
    list_any-append (is_byte number_sign) id.namespace (35 ∷ id.name)
    ∙ ap (λ b. b || true) (none_passes (is_byte number_sign) id.namespace fine)
    in
    let back : local_part (id.namespace ++ 35 ∷ id.name) ≡ id.name =
    ap (λ n. drop (n + 1) (id.namespace ++ 35 ∷ id.name)) (sym (all_run (others (is_byte number_sign)) id.namespace (35 ∷ id.name) fine refl))
    ∙ drop-append-add id.namespace (35 ∷ id.name) 1
    in
    ap error_name whole ∙ ap without_namespace (uncut (is_byte colon) (id.namespace ++ 35 ∷ id.name) plain)
    ∙ ap (λ b. if b then local_part (id.namespace ++ 35 ∷ id.name) else (id.namespace ++ 35 ∷ id.name)) signed ∙ back
    ∙ sym (name_of_id text id spelt alone)

-- an error of an operation that can be served is found by its name
pub place_of_error : (es : List ErrorShape) (e : ℕ) (d : ErrorShape) → AllDiffer (map name_of_error es) → e < length es
    → place_named es (name_of_error (get_or es e d)) ≡ Some e
place_of_error es e d differ lt =
    place_found es (name_of_error (get_or es e d)) e differ
    (slice_get-map name_of_error es e ∙ ap (option_map name_of_error) (slice_get-get_or es e d lt))

-- the names of errors are texts
pub names_utf8 : (es : List ErrorShape) (w : List ℕ) → AreErrorIds es → Contains (map name_of_error es) w → IsUtf8 w
names_utf8 es w ids h =
    let within : h.0 < length es = subst (λ n. h.0 < n) (length-map es name_of_error) h.1 in
    let at : slice_get (map name_of_error es) h.0 ≡ Some w = slice_get-get_or (map name_of_error es) h.0 w h.1 ∙ ap Some h.2 in
    let same : name_of_error (get_or es h.0 no_error) ≡ w =
    sym (get_or-map name_of_error es h.0 no_error (name_of_error no_error) within)
    ∙ get_or_from_slice_get (map name_of_error es) h.0 w (name_of_error no_error) at
    in
    subst IsUtf8 same (identifier_utf8 _ (name_is_identifier (get_or es h.0 no_error).id (ids (get_or es h.0 no_error)
    (Contains-get_or es h.0 no_error within))))

-- where a text has a sign, and where it has none
pub sign_found : (u : List ℕ) → position_or_len (is_byte number_sign) u < length u → is_absolute u ≡ true
sign_found u lt = list_any_at (is_byte number_sign) u (position_or_len (is_byte number_sign) u) 0 lt
    (passes_at_first (is_byte number_sign) u 0 lt)

pub no_sign_found : (u : List ℕ) → position_or_len (is_byte number_sign) u ≡ length u → is_absolute u ≡ false
no_sign_found [] e = refl
no_sign_found (c ∷ u) e = by (is_byte number_sign c) e (λ h. no_sign_found u h)
  where
    by : (b : Bool) → cond (not b) (1 + position_or_len (is_byte number_sign) u) 0 ≡ suc (length u)
        → (position_or_len (is_byte number_sign) u ≡ length u → is_absolute u ≡ false) → (b || is_absolute u) ≡ false
    by true h rest = absurd (omega (arith, h))
    by false h rest = rest (omega (arith, h))

-- so is what stands behind the sign, by the place where the search stops
pub behind_sign : (u : List ℕ) (len : ℕ) → len ≡ position_or_len (is_byte number_sign) u → len ≤ length u → (len ≡ length u → ⊥)
    → take (length u - (len + 1)) (drop (len + 1) u) ≡ without_namespace u
behind_sign u len e within other =
    let inside : position_or_len (is_byte number_sign) u < length u = subst (λ n. n < length u) e (below u len within other) in
    take_all (length u - (len + 1)) (drop (len + 1) u) (omega (arith, length-drop (len + 1) u))
    ∙ ap (λ n. drop (n + 1) u) e ∙ ap (λ b. if b then local_part u else u) (sym (sign_found u inside))
  where
    below : (u : List ℕ) (len : ℕ) → len ≤ length u → (len ≡ length u → ⊥) → len < length u
    below u len le other = elim (cases_lt len (length u)) [
      | inl less ↦ less
      | inr ge ↦ absurd (other (omega (arith, le, ge)))
    ]

pub without_sign : (u : List ℕ) (len : ℕ) → len ≡ position_or_len (is_byte number_sign) u → len ≡ length u → u ≡ without_namespace u
without_sign u len e all = sym (ap (λ b. if b then local_part u else u) (no_sign_found u (sym e ∙ all)))
