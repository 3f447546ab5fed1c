-- A shape isn't served by itself exactly where the code's tests say so.
use Rattle.std.proofs.Common.{◌≡◌, ◌⊎◌, inl, inr, ℕ, Bool, true, List, [], ◌∷◌, Option, Some, None, refl, sym, ap, ◌∙◌, subst}
use Rattle.std.specs.Prelude.{◌↔◌, IsTrue, is_some, unwrap_or}
use Rattle.std.specs.FinMap as fin
use Rattle.std.specs.List.{Contains}
use Rattle.std.proofs.lemmas.Option.{none-some, same_Some}
use Rattle.sm_model.specs.Graphs.{Entry, GraphMaps, ShapeEntry, member_entry, member_id, shape_entry}
use Rattle.sm_model.specs.Relations.{HasEntry}
use Rattle.sm_model.specs.declared.kind.Kind.{Kind}
use Rattle.sm_model.specs.declared.kind.Kind.TheVariants as model
use Rattle.sm_model.proofs.OneRising.{contains_behind, contains_either, contains_head, contains_none}
use Rattle.sm_model.proofs.Worklist.{apart}
use Rattle.sm_shapes.specs.declared.kinds.ShapeKind.{ShapeKind}
use Rattle.sm_shapes.specs.declared.kinds.ShapeKind.TheVariants as table
use Rattle.sm_compile.specs.Kinds.{is_left_out, table_kind}
use Rattle.sm_compile.specs.Served.{IsUnserved, type_name}
use Rattle.sm_compile.specs.Sound.{json_name_of, trait_in, trait_of}
use Rattle.sm_compile.specs.TraitIds.{json_name_id, streaming_id}
use Rattle.sm_compile.specs.TraitNodes.{text_of}
use Rattle.sm_compile.specs.steps.Looked.{kind_in, kind_under, listed_in, listed_under}
use Rattle.sm_compile.specs.steps.Unserved.{NamesType, TellsType, may_tell_type}
use Rattle.sm_compile.proofs.OneWay.{one_name}

left_out_is : (kind : ShapeKind) → is_left_out kind ≡ true → kind ≡ table.LeftOut
left_out_is table.LeftOut h = refl
left_out_is table.Blob h = absurd (apart h)
left_out_is table.Boolean h = absurd (apart h)
left_out_is table.Text h = absurd (apart h)
left_out_is table.Enum h = absurd (apart h)
left_out_is table.Byte h = absurd (apart h)
left_out_is table.Short h = absurd (apart h)
left_out_is table.Integer h = absurd (apart h)
left_out_is table.IntEnum h = absurd (apart h)
left_out_is table.Long h = absurd (apart h)
left_out_is table.Timestamp h = absurd (apart h)
left_out_is table.List h = absurd (apart h)
left_out_is table.Map h = absurd (apart h)
left_out_is table.Structure h = absurd (apart h)
left_out_is table.Union h = absurd (apart h)

may_tell_is : (kind : Kind) → may_tell_type kind ≡ true → (kind ≡ model.Structure) ⊎ (kind ≡ model.Union)
may_tell_is model.Structure h = inl refl
may_tell_is model.Union h = inr refl
may_tell_is model.Blob h = absurd (apart h)
may_tell_is model.Boolean h = absurd (apart h)
may_tell_is model.Text h = absurd (apart h)
may_tell_is model.Enum h = absurd (apart h)
may_tell_is model.Byte h = absurd (apart h)
may_tell_is model.Short h = absurd (apart h)
may_tell_is model.Integer h = absurd (apart h)
may_tell_is model.IntEnum h = absurd (apart h)
may_tell_is model.Long h = absurd (apart h)
may_tell_is model.Timestamp h = absurd (apart h)
may_tell_is model.List h = absurd (apart h)
may_tell_is model.Map h = absurd (apart h)
may_tell_is model.Float h = absurd (apart h)
may_tell_is model.Double h = absurd (apart h)
may_tell_is model.BigInteger h = absurd (apart h)
may_tell_is model.BigDecimal h = absurd (apart h)
may_tell_is model.Document h = absurd (apart h)
may_tell_is model.Service h = absurd (apart h)
may_tell_is model.Operation h = absurd (apart h)
may_tell_is model.Resource h = absurd (apart h)

may_tell_where : (kind : Kind) → (kind ≡ model.Structure) ⊎ (kind ≡ model.Union) → may_tell_type kind ≡ true
may_tell_where kind (inl is) = ap may_tell_type is
may_tell_where kind (inr is) = ap may_tell_type is

-- one member, by its names
pub names_told : (g : GraphMaps) (shape id name json : List ℕ) (is_json : Bool) → id ≡ member_id shape name
    → json ≡ unwrap_or (text_of (trait_of g id json_name_id)) name → (name ≡ type_name → ⊥)
    → (IsTrue is_json ↔ (json ≡ type_name)) → (IsTrue is_json → NamesType g shape id) × (NamesType g shape id → IsTrue is_json)
names_told g shape id name json is_json is told other test =
    let same : json ≡ json_name_of g shape name =
    told ∙ ap (λ i. unwrap_or (text_of (trait_of g i json_name_id)) name) is in (
      λ h. (name, is, inr (sym same ∙ test.0 h)),
      λ h.
          let one : name ≡ h.0 = one_name shape name h.0 (sym is ∙ h.1) in
          elim h.2 [
            | inl plain ↦ absurd (other (one ∙ plain))
            | inr by_json ↦ test.1 (same ∙ ap (json_name_of g shape) one ∙ by_json)
          ],
    )

module _ (g : GraphMaps) (id : List ℕ) where
  -- a member of these that tells the type
  told_to : (ids : List (List ℕ)) → TellsType g id ids
      → (name : List ℕ) × Contains ids (member_id id name) × ((name ≡ type_name) ⊎ (json_name_of g id name ≡ type_name))
  told_to [] h = absurd h
  told_to (i ∷ ids) (inl h) = (h.0, subst (Contains (i ∷ ids)) h.1 (contains_head i ids), h.2)
  told_to (i ∷ ids) (inr h) = let r = told_to ids h in (r.0, contains_behind i (member_id id r.0) ids r.1, r.2)

  told_from : (ids : List (List ℕ)) (name : List ℕ) → Contains ids (member_id id name)
      → (name ≡ type_name) ⊎ (json_name_of g id name ≡ type_name) → TellsType g id ids
  told_from [] name among is = contains_none (member_id id name) among
  told_from (i ∷ ids) name among is = elim (contains_either i (member_id id name) ids among) [
    | inl same ↦ inl (name, same, is)
    | inr later ↦ inr (told_from ids name later is)
  ]

  -- no shape stands under the id
  pub none_unserved : kind_under g id ≡ None → IsUnserved g id → ⊥
  none_unserved none (inl (s, there, is)) = none-some s.kind (sym none ∙ ap kind_in there)
  none_unserved none (inr (s, there, is)) = none-some s.kind (sym none ∙ ap kind_in there)

  module _ (kind : Kind) (has : kind_under g id ≡ Some kind) where
    shape_here : (s : ShapeEntry) × HasEntry g id (shape_entry s) × (s.kind ≡ kind)
    shape_here = by (fin.get g.shapes id) refl has
      where
        by : (o : Option Entry) → fin.get g.shapes id ≡ o → kind_in o ≡ Some kind
            → (s : ShapeEntry) × HasEntry g id (shape_entry s) × (s.kind ≡ kind)
        by None there is = absurd (none-some kind is)
        by (Some (shape_entry s)) there is = (s, there, same_Some s.kind kind is)
        by (Some (member_entry m)) there is = absurd (none-some kind is)

    its_kind : (s : ShapeEntry) → HasEntry g id (shape_entry s) → s.kind ≡ kind
    its_kind s there = same_Some s.kind kind (sym (ap kind_in there) ∙ has)

    pub unserved_left_out : is_left_out (table_kind kind) ≡ true → IsUnserved g id
    unserved_left_out is =
        let s = shape_here in inl (s.0, s.1, ap table_kind s.2 ∙ left_out_is (table_kind kind) is)

    pub unserved_streams : is_some (trait_of g id streaming_id) ≡ true → IsUnserved g id
    unserved_streams is =
        let s = shape_here in
        inr (s.0, s.1, inl (sym (ap (λ (o : Option Entry). is_some (trait_in streaming_id o)) s.1) ∙ is))

    pub unserved_tells : may_tell_type kind ≡ true → TellsType g id (listed_under g id) → IsUnserved g id
    unserved_tells may h =
        let s = shape_here in
        let r = told_to (listed_under g id) h in
        inr (
          s.0,
          s.1,
          inr (
            subst (λ k. (k ≡ model.Structure) ⊎ (k ≡ model.Union)) (sym s.2) (may_tell_is kind may),
            (r.0, subst (λ ids. Contains ids (member_id id r.0)) (ap listed_in s.1) r.1, r.2),
          ),
        )

    -- otherwise it is served by itself
    pub unserved_cases : IsUnserved g id
        → (is_left_out (table_kind kind) ≡ true) ⊎ (is_some (trait_of g id streaming_id) ≡ true)
        ⊎ ((may_tell_type kind ≡ true) × TellsType g id (listed_under g id))
    unserved_cases (inl (s, there, is)) =
        inl (ap is_left_out (ap table_kind (sym (its_kind s there)) ∙ is))
    unserved_cases (inr (s, there, inl is)) =
        inr (inl (ap (λ (o : Option Entry). is_some (trait_in streaming_id o)) there ∙ is))
    unserved_cases (inr (s, there, inr is)) =
        inr (inr (
          ap may_tell_type (sym (its_kind s there)) ∙ may_tell_where s.kind is.0,
          told_from (listed_under g id) is.1.0 (subst (λ ids. Contains ids (member_id id is.1.0)) (sym (ap listed_in there)) is.1.1) is.1.2,
        ))
