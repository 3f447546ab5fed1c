-- What a service that is ready says of its operations, and what it and they refer to: errors, inputs and outputs are there, of the types
-- that may stand there, and are of the service.
use Rattle.std.proofs.Common.{◌≡◌, inl, inr, ℕ, true, List, ◌∷◌, [], Option, Some, None, refl, sym, ap, ◌∙◌, subst}
use Rattle.std.specs.Prelude.{codes, not}
use Rattle.std.specs.FinMap as fin
use Rattle.std.specs.List.{Contains}
use Rattle.std.specs.Option.{unwrap_or}
use Rattle.std.proofs.lemmas.Option.{none-some}
use Rattle.sm_ids.specs.TextParts.{name_part}
use Rattle.sm_model.specs.Graphs.{Entry, GraphMaps, ShapeEntry, member_entry, shape_entry}
use Rattle.sm_model.specs.Relations.{HasEntry, SaysInBody, field_relations, relation_under}
use Rattle.sm_model.specs.declared.kind.Kind.TheVariants as model
use Rattle.sm_model.specs.declared.relation.Relation.{Relation}
use Rattle.sm_model.specs.declared.relation.Relation.TheVariants.{Error, Input, Member, Output}
use Rattle.sm_compile.specs.Sound.{trait_of}
use Rattle.sm_compile.specs.TraitIds.{error_id, http_error_id}
use Rattle.sm_compile.specs.TraitNodes.{number_of}
use Rattle.sm_compile.proofs.SoundTests.{first_of}
use Rattle.sm_rules.specs.Ready.{IsOfService, Ready}
use Rattle.sm_rules.specs.Services.{IsNamedIn, named_kinds}
use Rattle.sm_rules.specs.Targets.{by_body, may_be_referred}
use Rattle.sm_rules.specs.TraitRows.{is_among, is_kind}
use Rattle.sm_rules.specs.Words.{IsInClosure, IsOwnShape, IsService, has_trait}
use Rattle.sm_accepted.proofs.TraitsRight.{must}
use Rattle.sm_service.specs.Compiled.{IsOperationOf}
use Rattle.sm_service.specs.References.{reference_in}
use Rattle.sm_service.specs.steps.ErrorReads.{IsStatusWord}
use Rattle.sm_service.specs.steps.OperationRows.{errors_named}
use Rattle.sm_service.proofs.ErrorStatuses.{error_status}
use Rattle.sm_service.proofs.OperationBodies.{operation_refers}
use Rattle.sm_service.proofs.ErrorsApart.{IsErrorOf, closure_next, no_new_name, one_named, one_shape, structure_kind}
use Rattle.sm_service.proofs.SaidReferences.{one_said, some_said}
use Rattle.sm_service.proofs.ServableIds.{name_of_id, shape_id}

no_service : model.Operation ≡ model.Service → ⊥
no_service e = cc

-- a structure to which an operation refers
pub record RefersToStructure (g : GraphMaps) (service : List ℕ) (name : List ℕ) (s : ShapeEntry) : Type 0 where
  pub id : List ℕ
  pub said : reference_in name s ≡ Some id
  pub inside : IsInClosure g service id
  pub t : ShapeEntry
  pub there : HasEntry g id (shape_entry t)
  pub kind : t.kind ≡ model.Structure

module _ (g : GraphMaps) (service : List ℕ) (is : IsService g service) (ready : Ready g service) where
  -- an operation is in the closure, and keeps its name
  operation_inside : (id : List ℕ) → IsOperationOf g service id → IsInClosure g service id
  operation_inside id h = elim h.0 [
    | inl same ↦ absurd (no_service (sym h.1.2
        ∙ ap (λ (s : ShapeEntry). s.kind)
        (one_shape g service h.1.0 is.0 (subst (λ i. HasEntry g i (shape_entry h.1.0)) same h.1.1.0) is.1.0)
        ∙ is.2))
    | inr inside ↦ inside
  ]

  operation_named : (id : List ℕ) → IsOperationOf g service id → IsNamedIn g service is.0 id (name_part id)
  operation_named id h =
      let spelt = shape_id g (ready is).formed id h.1.0 h.1.1.0 in
      record {
        s = h.1.0;
        own = h.1.1;
        kind = ap (is_among named_kinds) h.1.2;
        inside = operation_inside id h;
        named = (
          spelt.0,
          spelt.1,
          name_of_id id spelt.0 spelt.1 spelt.2
              ∙ sym (ap (λ o. unwrap_or o spelt.0.name) (no_new_name g (ready is).formed service is.0 is.1 is.2 (ready is).none id
              (h.1.0, h.1.1.0, inr (ap (is_among (model.Operation ∷ model.Resource ∷ model.Service ∷ [])) h.1.2)))),
        );
      }

  -- no two operations have one name
  pub one_operation : (a b : List ℕ) → IsOperationOf g service a → IsOperationOf g service b → name_part a ≡ name_part b → a ≡ b
  one_operation a b h k same =
      one_named g (ready is).formed service is.0 is.1 is.2 (ready is).none a b (operation_named a h) (operation_named b k) same

  -- what is said in a body is there, and of the type that may stand there
  pub referred : (relation : Relation) → (relation ≡ Member → ⊥) → (from : List ℕ) (s : ShapeEntry) → IsOwnShape g from s
      → IsOfService g service from → (id : List ℕ) → SaysInBody relation s id
      → (t : ShapeEntry) × HasEntry g id (shape_entry t) × (may_be_referred relation t ≡ true)
  referred relation other from s own inside id says = by (fin.get g.shapes id) refl
    where
      by : (o : Option Entry) → fin.get g.shapes id ≡ o
          → (t : ShapeEntry) × HasEntry g id (shape_entry t) × (may_be_referred relation t ≡ true)
      by None none = absurd ((ready is).none.missing from id inside (record {
        refers = record { e = shape_entry s; own = own; relation = relation; other = other; says = inr says };
        nothing = λ h. none-some h.0 (sym none ∙ h.1);
      }))
      by (Some (member_entry e)) there = absurd ((ready is).none.kinds from id inside (by_body (record {
        s = s;
        own = own;
        relation = relation;
        says = says;
        e = member_entry e;
        there = there;
        may_not = refl;
      })))
      by (Some (shape_entry t)) there = (
        t,
        there,
        must (may_be_referred relation t) (λ wrong.
            (ready is).none.kinds from id inside (by_body (record {
              s = s;
              own = own;
              relation = relation;
              says = says;
              e = shape_entry t;
              there = there;
              may_not = wrong;
            }))),
      )

  -- an error that a shape names
  error_of : (from : List ℕ) (s : ShapeEntry) → IsOwnShape g from s → IsOfService g service from
      → relation_under (codes "errors") (field_relations s.kind) ≡ Some Error → (id : List ℕ) → Contains (errors_named s) id
      → IsErrorOf g service id
  error_of from s own inside under id among =
      let says = some_said s (codes "errors") Error under id among in
      let x = referred Error (λ e. cc) from s own inside id says in
      record {
        s = x.0;
        there = x.1;
        inside = closure_next g service is from id inside (Error, (λ e. cc), (shape_entry s, own.0, inr says, (shape_entry x.0, x.1)));
        is_error = x.2;
      }

  -- a status that reads is one
  pub status_word : (id : List ℕ) → IsErrorOf g service id → IsStatusWord (number_of (trait_of g id http_error_id))
  status_word id e =
      error_status g (ready is).formed (IsOfService g service) (ready is).none id e.s e.there (inr e.inside) e.is_error

  pub service_error : (v : ShapeEntry) → IsOwnShape g service v → (id : List ℕ) → Contains (errors_named v) id → IsErrorOf g service id
  service_error v own id among =
      let kind : v.kind ≡ model.Service = ap (λ (s : ShapeEntry). s.kind) (one_shape g service v is.0 own.0 is.1.0) ∙ is.2 in
      error_of service v own (inl refl) (ap (λ k. relation_under (codes "errors") (field_relations k)) kind) id among

  pub operation_error : (id : List ℕ) → IsOperationOf g service id → (s : ShapeEntry) → IsOwnShape g id s
      → (e : List ℕ) → Contains (errors_named s) e → IsErrorOf g service e
  operation_error id h s own e among =
      let kind : s.kind ≡ model.Operation = ap (λ (x : ShapeEntry). x.kind) (one_shape g id s h.1.0 own.0 h.1.1.0) ∙ h.1.2 in
      error_of id s own h.0 (ap (λ k. relation_under (codes "errors") (field_relations k)) kind) e among

  -- the input and the output of an operation
  module _ (id : List ℕ) (h : IsOperationOf g service id) where
    abbrev s : ShapeEntry
    s = h.1.0

    pub input_of : RefersToStructure g service (codes "input") s
    input_of =
        let refers = operation_refers g (ready is).formed id s h.1.1.0 h.1.2 in
        let under = ap (λ k. relation_under (codes "input") (field_relations k)) h.1.2 in
        let says = one_said s (codes "input") Input under refers.0.0 refers.0.1 in
        let x = referred Input (λ e. cc) id s h.1.1 h.0 refers.0.0 says in
        record {
          id = refers.0.0;
          said = refers.0.1;
          inside = closure_next g service is id refers.0.0 h.0
              (Input, (λ e. cc), (shape_entry s, h.1.1.0, inr says, (shape_entry x.0, x.1)));
          t = x.0;
          there = x.1;
          kind = structure_kind x.0.kind (first_of (is_kind model.Structure x.0.kind) (not (has_trait error_id x.0.traits)) x.2);
        }

    pub output_of : RefersToStructure g service (codes "output") s
    output_of =
        let refers = operation_refers g (ready is).formed id s h.1.1.0 h.1.2 in
        let under = ap (λ k. relation_under (codes "output") (field_relations k)) h.1.2 in
        let says = one_said s (codes "output") Output under refers.1.0 refers.1.1 in
        let x = referred Output (λ e. cc) id s h.1.1 h.0 refers.1.0 says in
        record {
          id = refers.1.0;
          said = refers.1.1;
          inside = closure_next g service is id refers.1.0 h.0
              (Output, (λ e. cc), (shape_entry s, h.1.1.0, inr says, (shape_entry x.0, x.1)));
          t = x.0;
          there = x.1;
          kind = structure_kind x.0.kind (first_of (is_kind model.Structure x.0.kind) (not (has_trait error_id x.0.traits)) x.2);
        }
