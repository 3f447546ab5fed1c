-- What HTTP bindings ask of an operation with `http` holds of a service that is ready.
use Rattle.std.proofs.Common.{◌≡◌, ℕ, true, List, [], ◌∷◌, map, Some, refl, sym, subst, ◌∙◌, arith}
use Rattle.std.specs.Prelude.{codes}
use Rattle.std.specs.List.{Contains}
use Rattle.sm_model.specs.Graphs.{GraphMaps}
use Rattle.sm_shapes.specs.InOrder.{Shaped}
use Rattle.sm_compile.specs.Served.{IsServed}
use Rattle.sm_compile.specs.declared.compiled.Served.TheVariants.{Yes}
use Rattle.sm_compile.proofs.TabledShapes.{mapped_to}
use Rattle.sm_rules.specs.Bindings.{BoundSide, an_error, an_input, an_output}
use Rattle.sm_rules.specs.Http.{HasOutputBody}
use Rattle.sm_rules.specs.Ready.{IsReady}
use Rattle.sm_accepted.proofs.GivenShapes.{behind_head}
use Rattle.sm_service.specs.Compiled.{IsServiceOf, SaysOperation}
use Rattle.sm_service.specs.HttpServable.{AreBoundRight, HaveTargets, IsHttpServable, IsStatusOf}
use Rattle.sm_service.specs.Laws.{HttpServableWhereReady}
use Rattle.sm_service.specs.References.{errors_said}
use Rattle.sm_service.specs.ServedOperation.{TellsAllServed, WalkRoot, error_root, walk_root, walk_roots}
use Rattle.sm_service.specs.ServiceData.{HttpData, OperationData, ServiceData}
use Rattle.sm_service.specs.WireMembers.{WireMember, stands_in_body, wire_members}
use Rattle.sm_service.specs.declared.error.ErrorShape.{ErrorShape}
use Rattle.sm_service.specs.steps.WireSaid.{SaysWireMember}
use Rattle.sm_service.proofs.HttpBound.{have_targets}
use Rattle.sm_service.proofs.HttpLabels.{are_labelled}
use Rattle.sm_service.proofs.HttpLists.{id_of}
use Rattle.sm_service.proofs.HttpMembers.{body_is, is_member}
use Rattle.sm_service.proofs.HttpParts.{own_queries}
use Rattle.sm_service.proofs.HttpSides.{In, IsErrorSide, IsSide, error_side, input_related, input_side, is_operation, is_service, op}
use Rattle.sm_service.proofs.HttpSides.{op_inside}
use Rattle.sm_service.proofs.HttpSides.{output_related, output_side, rule, side_members, side_parts, side_says}
use Rattle.sm_service.proofs.HttpStatuses.{status_of_error, success_code}

module _ (g : GraphMaps) (id : List ℕ) (service : ServiceData) (r : IsReady g id) (of : IsServiceOf g id service)
    (shaped : Shaped service.table) (o : OperationData) (among : Contains service.operations o) (h : HttpData)
    (http : o.http ≡ Some h) where
  abbrev Of : List ℕ → Type 0
  Of = In g id service r of shaped

  abbrev said : SaysOperation g of.numbering of.s o
  said = op g id service r of shaped o among

  abbrev errors : List (List ℕ)
  errors = errors_said said.s of.s

  input : IsSide g Of of.numbering an_input said.input o.input
  input = input_side g id service r of shaped o among h http

  output : IsSide g Of of.numbering an_output said.output o.output
  output = output_side g id service r of shaped o among h http

  error : (e : ErrorShape) → Contains o.errors e → IsErrorSide g Of of.numbering
      errors e
  error e e_in = error_side g id service r of shaped o among h http e e_in

  -- the output has a member in the body
  output_body : (m : WireMember) → Contains (wire_members service.table o.output) m → stands_in_body an_output m ≡ true
      → HasOutputBody g o.id
  output_body m m_in stands =
      let shape = said.output in
      let members = side_members g id service r of shaped an_output shape o.output output in
      let i = id_of (SaysWireMember g shape) output.s.members (wire_members service.table o.output)
      (side_says g id service r of shaped an_output shape o.output output) m m_in in (
        shape,
        i.0,
        output.s,
        i.2.m,
        output_related g id service r of shaped o among h http,
        is_member g r.formed Of r.none shape output.s output.home members i.0 m i.1 i.2,
        sym (body_is g r.formed Of r.none shape output.s output.home members i.0 m i.1 i.2 an_output) ∙ stands,
      )

  error_status : (e : ErrorShape) → Contains o.errors e → IsStatusOf e.client e.status
  error_status e e_in =
      let x = error e e_in in
      status_of_error g Of r.none x.shape x.side.s x.own x.side.inside x.side.kind x.error of.numbering e x.says

  -- where it is served, what bindings target may stand there
  module _ (yes : o.served ≡ Yes) where
    served : (root : WalkRoot) → Contains (walk_roots said.input said.output errors) root → IsServed g root.id
    served = subst (TellsAllServed g (walk_roots said.input said.output errors)) yes said.served

    side_targets : (side : BoundSide) (shape : List ℕ) (k : ℕ) → IsSide g Of of.numbering side shape k
        → IsServed g shape → HaveTargets side (wire_members service.table k)
    side_targets side shape k x is_served =
        have_targets g id (is_service g id service r of shaped) (λ is. r) shape x.s x.home
        (side_members g id service r of shaped side shape k x) x.inside x.kind (wire_members service.table k)
        (side_says g id service r of shaped side shape k x) side x.bound is_served

    error_targets : (e : ErrorShape) → Contains o.errors e → HaveTargets an_error (wire_members service.table e.shape)
    error_targets e e_in =
        let x = error e e_in in
        let root = error_root x.shape in
        side_targets an_error x.shape e.shape x.side (served root
        (behind_head (walk_root (codes "input" ∷ []) said.input)
        (walk_root (codes "output" ∷ []) said.output ∷ map error_root errors) root
        (behind_head (walk_root (codes "output" ∷ []) said.output) (map error_root errors) root
        (mapped_to error_root errors x.shape x.among))))

    bound_right : AreBoundRight service.table o
    bound_right = record {
      input = side_targets an_input said.input o.input input
          (served (walk_root (codes "input" ∷ []) said.input) (0, omega arith, refl));
      output = side_targets an_output said.output o.output output
          (served (walk_root (codes "output" ∷ []) said.output) (1, omega arith, refl));
      errors = error_targets;
    }

  pub is_http_servable : IsHttpServable service.table o h
  is_http_servable =
      let shape = said.input in
      let members = side_members g id service r of shaped an_input shape o.input input in
      let says = side_says g id service r of shaped an_input shape o.input input in
      let inside = op_inside g id service r of shaped o among in
      let http_rule = rule g id service r of shaped o among h http in
      record {
        uri = http_rule.uri.spells.is_uri;
        labels = are_labelled g r.formed Of r.none shape input.s input.home members
            (wire_members service.table o.input) says o.id inside h.uri http_rule.uri
            (input_related g id service r of shaped o among h http);
        code = success_code g Of r.none o.id inside (is_operation g id service r of shaped o among) h.code
            http_rule.code (wire_members service.table o.output) output_body;
        queries = own_queries g r.formed Of r.none shape input.s input.home members input.inside input.kind
            (wire_members service.table o.input) says input.bound;
        input = side_parts g id service r of shaped an_input shape o.input input;
        output = side_parts g id service r of shaped an_output said.output o.output output;
        errors = λ e e_in.
            let x = error e e_in in side_parts g id service r of shaped an_error x.shape e.shape x.side;
        statuses = error_status;
        targets = bound_right;
      }

pub http_servable : HttpServableWhereReady
http_servable g id service ready of shaped o h among http =
    is_http_servable g id service (ready (of.s, of.own, of.kind)) of shaped o among h http
