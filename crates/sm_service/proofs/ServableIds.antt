-- The name of a shape by its id, and that ids of a graph which differ are few.
use Rattle.std.proofs.Common.{◌≡◌, ◌⊎◌, inl, inr, ℕ, suc, ◌+◌, ◌<◌, ◌≤◌, Bool, true, not, List, [], ◌∷◌, ◌++◌, take, drop, length, None}
use Rattle.std.proofs.Common.{refl, sym, ap, ◌∙◌, subst, append-nil, arith}
use Rattle.std.specs.Prelude.{◌==◌, ◌^◌}
use Rattle.std.specs.FinMap as fin
use Rattle.std.specs.FinMap.{get-from_entries}
use Rattle.std.specs.FinMap.Entries.{find}
use Rattle.std.specs.Cmp.Lexicographic.{nat_list_cmp_total}
use Rattle.std.specs.List.{Contains}
use Rattle.std.proofs.Math.Seq.{take-append_seam, drop-append-add}
use Rattle.std.proofs.lemmas.Bool.Decides.{nat_tests}
use Rattle.sm_bytes.specs.Ascii.{dollar, number_sign}
use Rattle.sm_ids.specs.Identifier.{is_identifier_byte, IsIdentifier}
use Rattle.sm_ids.specs.IdText.{Id, IdText, IsShapeId, member_text}
use Rattle.sm_ids.specs.TextParts.{is_byte, local_part, name_part, shape_part}
use Rattle.sm_ids.proofs.Cutting.{list_all_weaker}
use Rattle.sm_ids.proofs.Identifiers.{made_of_bytes}
use Rattle.sm_ids.proofs.Namespaces.{is_namespace_byte, namespace_bytes}
use Rattle.sm_ids.proofs.TextCuts.{all_run}
use Rattle.sm_model.specs.Formed.{StandsAmong}
use Rattle.sm_model.specs.FormedGraph.{IsFormedGraph}
use Rattle.sm_model.specs.Graphs.{Entry, GraphMaps, ShapeEntry, given_entries, shape_entry, text_cmp}
use Rattle.sm_model.specs.Relations.{HasEntry, IsInGraph}
use Rattle.sm_model.proofs.MapFacts.{Each, keys}
use Rattle.sm_model.proofs.OneRising.{contains_behind, contains_head, contains_none, contains_either}
use Rattle.sm_shapes.specs.Names.{AllDiffer, NoneIs}
use Rattle.sm_accepted.proofs.GivenShapes.{IsGivenAs, IsOneOf, each_one, found_each, shape_among}

no_sign : (c : ℕ) → is_namespace_byte c ≡ true → not (c == 35) ≡ true
no_sign c h = grind (arith, nat_tests)

no_dollar : (c : ℕ) → is_identifier_byte c ≡ true → not (c == 36) ≡ true
no_dollar c h = grind (arith, nat_tests)

abbrev others : (ℕ → Bool) → ℕ → Bool
others p c = not (p c)

plain_name : (name : List ℕ) → IsIdentifier name → shape_part name ≡ name
plain_name name is =
    let plain = list_all_weaker is_identifier_byte (others (is_byte dollar)) no_dollar name (made_of_bytes name is) in
    ap shape_part (sym (append-nil name)) ∙ ap (λ n. take n (name ++ [])) (sym (all_run (others (is_byte dollar)) name [] plain refl))
    ∙ take-append_seam name []

pub name_of_id : (text : List ℕ) (id : Id) → IdText id text → id.member ≡ None → name_part text ≡ id.name
name_of_id text id spelt alone =
    let named : id.name ++ member_text id.member ≡ id.name = ap (λ m. id.name ++ member_text m) alone ∙ append-nil id.name in
    let whole : text ≡ id.namespace ++ 35 ∷ id.name = spelt.spelled ∙ ap (λ n. id.namespace ++ 35 ∷ n) named in
    let fine = list_all_weaker is_namespace_byte (others (is_byte number_sign)) no_sign id.namespace
    (namespace_bytes id.namespace spelt.is_id.namespace) in
    let back : local_part text ≡ id.name =
    ap local_part whole
    ∙ ap (λ n. drop (n + 1) (id.namespace ++ 35 ∷ id.name)) (sym (all_run (others (is_byte number_sign)) id.namespace (35 ∷ id.name) fine refl))
    ∙ drop-append-add id.namespace (35 ∷ id.name) 1 in
    ap shape_part back ∙ plain_name id.name spelt.is_id.name

pub name_is_identifier : (text : List ℕ) → IsShapeId text → IsIdentifier (name_part text)
name_is_identifier text (id, spelt, alone) = subst IsIdentifier (sym (name_of_id text id spelt alone)) spelt.is_id.name

-- what is none of some stands nowhere among them
pub is_none : (x : List ℕ) (ys : List (List ℕ)) → NoneIs x ys → (y : List ℕ) → Contains ys y → y ≡ x → ⊥
is_none x [] h y there same = contains_none y there
is_none x (z ∷ zs) h y there same = elim (contains_either z y zs there) [
  | inl is ↦ h.0 (is ∙ same)
  | inr later ↦ is_none x zs h.1 y later same
]

pub none_is : (x : List ℕ) (ys : List (List ℕ)) → ((y : List ℕ) → Contains ys y → y ≡ x → ⊥) → NoneIs x ys
none_is x [] h = tt
none_is x (y ∷ ys) h = (h y (contains_head y ys), none_is x ys (λ z there. h z (contains_behind y z ys there)))

-- names that differ and stand among others are no more than those
taken_out : (x : List ℕ) (ks : List (List ℕ)) → StandsAmong x ks
    → (js : List (List ℕ)) × (length ks ≡ suc (length js)) × ((y : List ℕ) → StandsAmong y ks → (y ≡ x) ⊎ StandsAmong y js)
taken_out x [] h = absurd h
taken_out x (k ∷ ks) (inl is) = (ks, refl, λ y there. elim there [ inl same ↦ inl (same ∙ sym is) | inr later ↦ inr later ])
taken_out x (k ∷ ks) (inr h) =
    let r = taken_out x ks h in (
      k ∷ r.0,
      ap suc r.1,
      λ y there. elim there [
        | inl same ↦ inr (inl same)
        | inr later ↦ elim (r.2 y later) [ inl is ↦ inl is | inr left ↦ inr (inr left) ]
      ],
    )

no_more : (xs ks : List (List ℕ)) → AllDiffer xs → ((y : List ℕ) → Contains xs y → StandsAmong y ks) → length xs ≤ length ks
no_more [] ks differ inside = omega arith
no_more (x ∷ xs) ks differ inside =
    let r = taken_out x ks (inside x (contains_head x xs)) in
    let rest = no_more xs r.0 differ.1 (λ y there. elim (r.2 y (inside y (contains_behind x y xs there))) [
      | inl same ↦ absurd (is_none x xs differ.0 y there same)
      | inr left ↦ left
    ]) in
    let long = r.1 in omega (arith, rest, long)

keys_long : (es : List (List ℕ × Entry)) → length (keys es) ≡ length es
keys_long [] = refl
keys_long (e ∷ es) = ap suc (keys_long es)

below : (a b c bound : ℕ) → a ≤ b → b ≡ c → c < bound → a < bound
below a b c bound h k l = omega (arith, h, k, l)

each_inside : (ks : List (List ℕ)) (es : List (List ℕ × Entry)) → ((k : List ℕ) → StandsAmong k (keys es) → StandsAmong k ks)
    → Each (λ k x. StandsAmong k ks) es
each_inside ks [] h = tt
each_inside ks (e ∷ es) h = (h e.0 (inl refl), each_inside ks es (λ k among. h k (inr among)))

module _ (g : GraphMaps) (f : IsFormedGraph g) where
  found_as : (q : List ℕ) → fin.get g.shapes q ≡ find text_cmp q (given_entries f.shapes)
  found_as q = ap (λ (x : GraphMaps). fin.get x.shapes q) f.is ∙ get-from_entries nat_list_cmp_total (given_entries f.shapes) q

  pub shape_id : (id : List ℕ) (s : ShapeEntry) → HasEntry g id (shape_entry s) → IsShapeId id
  shape_id id s h =
      let one : IsGivenAs f.shapes id s =
      found_each (IsOneOf f.shapes) id (shape_entry s) (given_entries f.shapes) (each_one f.shapes f.given.each) (sym (found_as id) ∙ h) in
      subst IsShapeId (sym one.id_is) (shape_among f.shapes f.given.each one.given one.among).id

  key_there : (id : List ℕ) (e : Entry) → HasEntry g id e → StandsAmong id (keys (given_entries f.shapes))
  key_there id e h =
      found_each (λ k x. StandsAmong k (keys (given_entries f.shapes))) id e (given_entries f.shapes)
      (each_inside (keys (given_entries f.shapes)) (given_entries f.shapes) (λ k among. among)) (sym (found_as id) ∙ h)

  pub few_ids : (ids : List (List ℕ)) → AllDiffer ids → ((id : List ℕ) → Contains ids id → IsInGraph g id) → length ids < 2 ^ 32
  few_ids ids differ there =
      below (length ids) (length (keys (given_entries f.shapes))) (length (given_entries f.shapes)) (2 ^ 32)
      (no_more ids (keys (given_entries f.shapes)) differ (λ id among. let e = there id among in key_there id e.0 e.1))
      (keys_long (given_entries f.shapes)) f.given.few
