-- The inputs, outputs and errors of an operation with `http`, of a service that is ready: structures, at whose members rules on bindings
-- look.
use Rattle.std.proofs.Common.{◌≡◌, inl, inr, ℕ, true, List, Option, Some, None, refl, sym, ap, subst, ◌∙◌}
use Rattle.std.specs.Prelude.{codes, is_some, slice_get}
use Rattle.std.specs.List.{Contains}
use Rattle.std.proofs.lemmas.Option.{none-some}
use Rattle.sm_tree.specs.Node.{Node}
use Rattle.sm_model.specs.Graphs.{Entry, GraphMaps, ShapeEntry, member_entry, shape_entry}
use Rattle.sm_model.specs.Relations.{HasEntry, IsRelated, SaysInBody, field_relations, relation_under}
use Rattle.sm_model.specs.declared.kind.Kind.{Kind}
use Rattle.sm_model.specs.declared.kind.Kind.TheVariants as model
use Rattle.sm_model.specs.declared.relation.Relation.{Relation}
use Rattle.sm_model.specs.declared.relation.Relation.TheVariants.{Error, Input, Output}
use Rattle.sm_model.proofs.NumberedIds.{one_entry}
use Rattle.sm_shapes.specs.InOrder.{Shaped}
use Rattle.sm_compile.specs.Compiled.{EachSays, IdSet, Numbering, members_in, members_under}
use Rattle.sm_compile.specs.Kinds.{members_of_kind}
use Rattle.sm_compile.specs.Sound.{trait_in, trait_of}
use Rattle.sm_compile.specs.TraitIds.{error_id, http_id}
use Rattle.sm_compile.specs.TraitNodes.{text_of}
use Rattle.sm_compile.proofs.SoundTests.{first_of, second_of}
use Rattle.sm_rules.specs.Bindings.{BoundSide, IsBound, IsHttpOperation, an_error, an_input, an_output}
use Rattle.sm_rules.specs.Ready.{IsOfService, IsReady}
use Rattle.sm_rules.specs.Targets.{by_body, may_be_referred}
use Rattle.sm_rules.specs.TraitRows.{is_kind, that_reads}
use Rattle.sm_rules.specs.Words.{IsInClosure, IsOperation, IsOwnShape, IsService, field_in, has_trait}
use Rattle.sm_accepted.proofs.ClosedSets.{AreIn, members_inside, service_closed}
use Rattle.sm_accepted.proofs.FormedShapes.{formed_entry}
use Rattle.sm_accepted.proofs.TraitsRight.{must}
use Rattle.sm_service.specs.Compiled.{IsServiceOf, SaysError, SaysHttp, SaysHttpRule, SaysOperation}
use Rattle.sm_service.specs.HttpServable.{HaveOwnParts}
use Rattle.sm_service.specs.References.{errors_said}
use Rattle.sm_service.specs.ServiceData.{HttpData, OperationData, ServiceData}
use Rattle.sm_service.specs.WireMembers.{wire_members}
use Rattle.sm_service.specs.declared.error.ErrorShape.{ErrorShape}
use Rattle.sm_service.specs.steps.WireSaid.{SaysWireMember}
use Rattle.sm_service.proofs.ErrorsApart.{own_error, structure_kind}
use Rattle.sm_service.proofs.HttpLists.{id_of}
use Rattle.sm_service.proofs.HttpParts.{own_parts}
use Rattle.sm_service.proofs.SaidReferences.{error_said, one_said, some_said}
use Rattle.sm_service.proofs.ServableRows.{contains_at}
use Rattle.sm_service.proofs.ShownMembers.{shows_members}

-- a structure on a side of messages, with its number
pub record IsSide (g : GraphMaps) (In : IdSet) (n : Numbering) (side : BoundSide) (shape : List ℕ) (k : ℕ) : Type 0 where
  pub s : ShapeEntry
  pub home : HasEntry g shape (shape_entry s)
  pub inside : In shape
  pub kind : s.kind ≡ model.Structure
  pub number : slice_get n.shapes k ≡ Some shape
  pub bound : IsBound g side shape

-- an error's, of which a row says what it has
pub record IsErrorSide (g : GraphMaps) (In : IdSet) (n : Numbering) (ids : List (List ℕ)) (e : ErrorShape) : Type 0 where
  pub shape : List ℕ
  pub among : Contains ids shape
  pub side : IsSide g In n an_error shape e.shape
  pub own : IsOwnShape g shape side.s
  pub error : has_trait error_id side.s.traits ≡ true
  pub says : SaysError g n shape e

-- what stands under a reference
pub record IsReferred (g : GraphMaps) (In : IdSet) (relation : Relation) (to : List ℕ) : Type 0 where
  pub s : ShapeEntry
  pub there : HasEntry g to (shape_entry s)
  pub inside : In to
  pub may : may_be_referred relation s ≡ true

-- a trait of which a field reads is there
field_there : (field trait : List ℕ) (o : Option Node) (t : List ℕ) → text_of (field_in field (that_reads trait o)) ≡ Some t
    → is_some o ≡ true
field_there field trait None t h = absurd (none-some t h)
field_there field trait (Some n) t h = refl

abbrev kind_of_entry : Entry → Kind
kind_of_entry (shape_entry s) = s.kind
kind_of_entry (member_entry m) = model.Text

module _ (g : GraphMaps) (id : List ℕ) (service : ServiceData) (r : IsReady g id) (of : IsServiceOf g id service)
    (shaped : Shaped service.table) where
  abbrev pub In : List ℕ → Type 0
  In = IsOfService g id

  abbrev pub n : Numbering
  n = of.numbering

  pub is_service : IsService g id
  is_service = (of.s, of.own, of.kind)

  module _ (side : BoundSide) (shape : List ℕ) (k : ℕ) (x : IsSide g In n side shape k) where
    listed : members_under g shape ≡ x.s.members
    listed = ap members_in x.home ∙ ap (λ kind. members_of_kind kind x.s.members) x.kind

    pub side_says : EachSays (SaysWireMember g shape) x.s.members (wire_members service.table k)
    side_says =
        subst (λ ids. EachSays (SaysWireMember g shape) ids (wire_members service.table k)) listed
        (shows_members g id service of shaped shape k x.number)

    pub side_members : AreIn In x.s.members
    side_members =
        members_inside g In (service_closed g id is_service) shape x.s x.home (formed_entry g r.formed shape x.s x.home).there x.inside

    pub side_parts : HaveOwnParts side (wire_members service.table k)
    side_parts =
        own_parts g r.formed In r.none shape x.s x.home side_members x.inside x.kind (wire_members service.table k) side_says side x.bound

  -- a reference of what is of the service
  referred : (from : List ℕ) (s : ShapeEntry) → IsOwnShape g from s → In from → (relation : Relation) (to : List ℕ) (k : ℕ)
      → SaysInBody relation s to → slice_get n.shapes k ≡ Some to → IsReferred g In relation to
  referred from s own inside relation to k says number =
      let t = (of.compiled.shapes to).0 (contains_at n.shapes k to number) in
      record {
        s = t.1.0;
        there = t.1.1;
        inside = t.0;
        may = must (may_be_referred relation t.1.0) (λ wrong. r.none.kinds from to inside (by_body (record {
          s = s;
          own = own;
          relation = relation;
          says = says;
          e = shape_entry t.1.0;
          there = t.1.1;
          may_not = wrong;
        })));
      }

  module _ (o : OperationData) (among : Contains service.operations o) where
    pub op : SaysOperation g n of.s o
    op = (of.operations.each o among).1

    pub op_inside : In o.id
    op_inside = (of.operations.each o among).0.0

    pub is_operation : IsOperation g o.id
    is_operation = (op.s, op.own, op.kind)

    in_closure : IsInClosure g id o.id
    in_closure = elim op_inside [
      | inl same ↦
          let one = one_entry g id (shape_entry op.s) (shape_entry of.s) (subst (λ i. HasEntry g i (shape_entry op.s)) same op.own.0)
          of.own.0 in
          let e : model.Operation ≡ model.Service = sym op.kind ∙ ap kind_of_entry one ∙ of.kind in
          absurd cc
      | inr inside ↦ inside
    ]

    module _ (h : HttpData) (http : o.http ≡ Some h) where
      pub rule : SaysHttpRule g o.id h
      rule = subst (SaysHttp g o.id) http op.http

      http_operation : IsHttpOperation g o.id
      http_operation = record {
        s = op.s;
        own = op.own;
        kind = op.kind;
        http = ap (λ e. is_some (trait_in http_id e)) (sym op.own.0)
            ∙ field_there (codes "method") http_id (trait_of g o.id http_id) h.method rule.method;
      }

      input_says : SaysInBody Input op.s op.input
      input_says =
          one_said op.s (codes "input") Input (ap (λ kind. relation_under (codes "input") (field_relations kind)) op.kind) op.input
          op.input_said

      output_says : SaysInBody Output op.s op.output
      output_says =
          one_said op.s (codes "output") Output (ap (λ kind. relation_under (codes "output") (field_relations kind)) op.kind) op.output
          op.output_said

      input_referred : IsReferred g In Input op.input
      input_referred = referred o.id op.s op.own op_inside Input op.input o.input input_says op.input_number

      output_referred : IsReferred g In Output op.output
      output_referred = referred o.id op.s op.own op_inside Output op.output o.output output_says op.output_number

      pub input_related : IsRelated Input g o.id op.input
      input_related = (shape_entry op.s, op.own.0, inr input_says, (shape_entry input_referred.s, input_referred.there))

      pub output_related : IsRelated Output g o.id op.output
      output_related = (shape_entry op.s, op.own.0, inr output_says, (shape_entry output_referred.s, output_referred.there))

      pub input_side : IsSide g In n an_input op.input o.input
      input_side = record {
        s = input_referred.s;
        home = input_referred.there;
        inside = input_referred.inside;
        kind = structure_kind input_referred.s.kind (first_of (is_kind model.Structure input_referred.s.kind) _ input_referred.may);
        number = op.input_number;
        bound = (o.id, http_operation, input_related);
      }

      pub output_side : IsSide g In n an_output op.output o.output
      output_side = record {
        s = output_referred.s;
        home = output_referred.there;
        inside = output_referred.inside;
        kind = structure_kind output_referred.s.kind (first_of (is_kind model.Structure output_referred.s.kind) _ output_referred.may);
        number = op.output_number;
        bound = (o.id, http_operation, output_related);
      }

      error_of : (e : ErrorShape) (shape : List ℕ) → Contains (errors_said op.s of.s) shape → SaysError g n shape e
          → (x : IsReferred g In Error shape) → IsBound g an_error shape → IsErrorSide g In n (errors_said op.s of.s) e
      error_of e shape listed says x bound = record {
        shape = shape;
        among = listed;
        side = record {
          s = x.s;
          home = x.there;
          inside = x.inside;
          kind = structure_kind x.s.kind (first_of (is_kind model.Structure x.s.kind) _ x.may);
          number = says.number;
          bound = bound;
        };
        own = (
          x.there,
          own_error g r.formed shape x.s x.there (second_of (is_kind model.Structure x.s.kind) (has_trait error_id x.s.traits) x.may),
        );
        error = second_of (is_kind model.Structure x.s.kind) (has_trait error_id x.s.traits) x.may;
        says = says;
      }

      pub error_side : (e : ErrorShape) → Contains o.errors e → IsErrorSide g In n (errors_said op.s of.s) e
      error_side e e_in =
          let i = id_of (SaysError g n) (errors_said op.s of.s) o.errors op.errors e e_in in
          elim (error_said op.s of.s i.0 i.1) [
            | inl own ↦
                let says = some_said op.s (codes "errors") Error
                (ap (λ kind. relation_under (codes "errors") (field_relations kind)) op.kind) i.0 own in
                let x = referred o.id op.s op.own op_inside Error i.0 e.shape says i.2.number in
                error_of e i.0 i.1 i.2 x
                (inl (o.id, http_operation, (shape_entry op.s, op.own.0, inr says, (shape_entry x.s, x.there))))
            | inr shared ↦
                let says = some_said of.s (codes "errors") Error
                (ap (λ kind. relation_under (codes "errors") (field_relations kind)) of.kind) i.0 shared in
                let x = referred id of.s of.own (inl refl) Error i.0 e.shape says i.2.number in
                error_of e i.0 i.1 i.2 x
                (inr (id, o.id, in_closure, http_operation, (shape_entry of.s, of.own.0, inr says, (shape_entry x.s, x.there))))
          ]
