-- An operation of a graph has an input and an output.
use Rattle.std.proofs.Common.{◌≡◌, inl, inr, ℕ, Bool, true, false, List, Some, refl, sym, ap, ◌∙◌, subst, bytes_eq}
use Rattle.std.specs.Prelude.{codes, if◌then◌else◌}
use Rattle.std.specs.FinMap as fin
use Rattle.std.specs.FinMap.{get-from_entries}
use Rattle.std.specs.Cmp.Lexicographic.{nat_list_cmp_total}
use Rattle.std.proofs.lemmas.Option.{same_Some}
use Rattle.std.proofs.lemmas.Slice.Eq.{bytes_eq-Decides}
use Rattle.sm_tree.specs.Node.{Members, Node, member, no_members}
use Rattle.sm_tree.specs.Parts.{text_in, tree_named}
use Rattle.sm_tree.specs.Same.{HasName}
use Rattle.sm_model.specs.FormedGraph.{IsFormedGraph}
use Rattle.sm_model.specs.Given.{AreNodeFields, HasShapeBody, NodeHasForm}
use Rattle.sm_model.specs.Graphs.{GraphMaps, ShapeEntry, given_entries, shape_entry}
use Rattle.sm_model.specs.Properties.{form_named, operation_fields}
use Rattle.sm_model.specs.Relations.{HasEntry}
use Rattle.sm_model.specs.declared.kind.Kind.TheVariants as model
use Rattle.sm_model.specs.declared.property.PropertyForm.TheVariants.{Reference}
use Rattle.sm_model.proofs.Worklist.{apart}
use Rattle.sm_compile.specs.TraitNodes.{field_of, text_of}
use Rattle.sm_accepted.proofs.GivenShapes.{IsGivenAs, IsOneOf, each_one, found_each, shape_among}
use Rattle.sm_service.specs.References.{reference_in}

-- a reference that must be there
named_text : (k : List ℕ) (ms : Members) → AreNodeFields operation_fields ms → form_named k operation_fields ≡ Some Reference → HasName k ms
    → (t : List ℕ) × (text_of (tree_named k ms) ≡ Some t)
named_text k no_members fields form h = absurd h
named_text k (member l n ms) fields form h = by (λ later. named_text k ms fields.1 form later) (bytes_eq l k) refl
  where
    by : (HasName k ms → (t : List ℕ) × (text_of (tree_named k ms) ≡ Some t)) → (b : Bool) → bytes_eq l k ≡ b
        → (t : List ℕ) × (text_of (if b then Some n else tree_named k ms) ≡ Some t)
    by rest true is =
        let f = fields.0 in
        let same = same_Some f.0 Reference
        (sym f.1 ∙ ap (λ name. form_named name operation_fields) ((bytes_eq-Decides l k).0 is) ∙ form) in
        let text = subst (λ x. NodeHasForm x n) same f.2 in
        (text.0, ap text_in text.1)
    by rest false is = elim h [
      | inl same ↦ absurd (apart (sym is ∙ (bytes_eq-Decides l k).1 (sym same)))
      | inr later ↦ rest later
    ]

body_text : (k : List ℕ) (n : Node) (b : HasShapeBody model.Operation n) → form_named k operation_fields ≡ Some Reference
    → HasName k b.pairs → (t : List ℕ) × (text_of (field_of k n) ≡ Some t)
body_text k n b form h =
    let r = named_text k b.pairs b.fields form h in (r.0, ap (λ x. text_of (field_of k x)) b.is_object ∙ r.1)

module _ (g : GraphMaps) (f : IsFormedGraph g) (id : List ℕ) (s : ShapeEntry) (there : HasEntry g id (shape_entry s))
    (kind : s.kind ≡ model.Operation) where
  body : HasShapeBody model.Operation s.properties
  body =
      let found = sym (ap (λ (x : GraphMaps). fin.get x.shapes id) f.is ∙ get-from_entries nat_list_cmp_total (given_entries f.shapes) id)
      ∙ there in
      let one : IsGivenAs f.shapes id s =
      found_each (IsOneOf f.shapes) id (shape_entry s) (given_entries f.shapes) (each_one f.shapes f.given.each) found in
      let given = shape_among f.shapes f.given.each one.given one.among in
      subst (λ k. HasShapeBody k s.properties) kind
      (subst (λ (x : ShapeEntry). HasShapeBody x.kind x.properties) (sym one.is) given.body)

  pub operation_refers : ((t : List ℕ) × (reference_in (codes "input") s ≡ Some t))
      × ((t : List ℕ) × (reference_in (codes "output") s ≡ Some t))
  operation_refers = (
    body_text (codes "input") s.properties body refl body.needed.0,
    body_text (codes "output") s.properties body refl body.needed.1,
  )
