-- What is ready is servable once it is compiled: each field of `Servable` of the service that a graph says.
use Rattle.std.proofs.Common.{◌≡◌, inl, inr, ℕ, zero, suc, true, ◌<◌, List, [], ◌∷◌, map, length, Some, refl, sym, ap, ◌∙◌, subst}
use Rattle.std.specs.Prelude.{codes, slice_get, ◌^◌}
use Rattle.std.specs.Cmp.Lexicographic.{nat_list_cmp_total}
use Rattle.std.specs.List.{Contains}
use Rattle.std.specs.List.Sorted.{IsStrictlySortedBy}
use Rattle.std.specs.declared.cmp.Ordering.TheVariants.{Less}
use Rattle.std.proofs.lemmas.Map.Keys.{sorted_head, sorted_tail}
use Rattle.std.proofs.lemmas.Option.{none-some, same_Some}
use Rattle.sm_ids.specs.Identifier.{IsIdentifier}
use Rattle.sm_ids.specs.IdText.{IsShapeId}
use Rattle.sm_ids.specs.TextParts.{name_part}
use Rattle.sm_model.specs.FormedGraph.{IsFormedGraph}
use Rattle.sm_model.specs.Graphs.{GraphMaps, ShapeEntry, shape_entry, text_cmp}
use Rattle.sm_model.specs.Relations.{HasEntry, SaysInBody, field_relations, relation_under}
use Rattle.sm_model.specs.declared.kind.Kind.TheVariants as model
use Rattle.sm_model.specs.declared.relation.Relation.TheVariants.{Error, Input, Output}
use Rattle.sm_model.proofs.OneRising.{before_one, contains_behind, contains_head, not_before_itself}
use Rattle.sm_shapes.specs.InOrder.{Shaped}
use Rattle.sm_shapes.specs.Names.{AllDiffer}
use Rattle.sm_compile.specs.Compiled.{EachSays}
use Rattle.sm_compile.specs.Kinds.{table_kind}
use Rattle.sm_compile.specs.Served.{IsServed}
use Rattle.sm_compile.specs.declared.compiled.Served.TheVariants.{Yes}
use Rattle.sm_compile.proofs.RowsAlike.{same_place}
use Rattle.sm_compile.proofs.SoundTests.{first_of}
use Rattle.sm_compile.proofs.TabledShapes.{mapped_from, mapped_to}
use Rattle.sm_compile.specs.TraitIds.{error_id}
use Rattle.sm_rules.specs.Ready.{IsOfService, NoneFailsIn}
use Rattle.sm_rules.specs.Targets.{by_body, is_error_structure, is_plain_structure}
use Rattle.sm_rules.specs.TraitRows.{is_kind}
use Rattle.sm_rules.specs.Words.{IsOwnShape, IsService, has_trait}
use Rattle.sm_accepted.proofs.TraitsRight.{must}
use Rattle.std.specs.Prelude.{not}
use Rattle.sm_service.specs.Compiled.{IsNumberOf, IsServiceOf, SaysError, SaysOperation}
use Rattle.sm_service.specs.Laws.{ServableWhereReady}
use Rattle.sm_service.specs.References.{errors_said}
use Rattle.sm_service.specs.Servable.{IsCarriedIn, IsServableOperation, IsStructureIn, NumbersDiffer, Servable}
use Rattle.sm_service.specs.ServedOperation.{TellsAllServed, WalkRoot, error_root, walk_root, walk_roots}
use Rattle.sm_service.specs.ServiceData.{OperationData, ServiceData}
use Rattle.sm_service.specs.declared.error.ErrorShape.{ErrorShape}
use Rattle.sm_service.proofs.ErrorsApart.{IsErrorOf, closure_next, error_names_differ, never_both, one_shape, structure_kind}
use Rattle.sm_service.proofs.HeaderTokens.{tokens}
use Rattle.sm_service.proofs.SaidReferences.{error_said, once_differ, one_said, some_said}
use Rattle.sm_service.proofs.ServableIds.{few_ids, name_is_identifier, none_is, shape_id}
use Rattle.sm_service.proofs.ServableRows.{IsRowOf, carried, contains_at, each_at, place_of, row_of, said_at}

map_long : {X Y : Type 0} (f : X → Y) (xs : List X) → length (map f xs) ≡ length xs
map_long f [] = refl
map_long f (x ∷ xs) = ap suc (map_long f xs)

each_long : {D : Type 0} (Says : List ℕ → D → Type 0) (ids : List (List ℕ)) (ds : List D) → EachSays Says ids ds → length ids ≡ length ds
each_long Says [] [] h = refl
each_long Says [] (d ∷ ds) h = absurd h
each_long Says (i ∷ ids) [] h = absurd h
each_long Says (i ∷ ids) (d ∷ ds) h = ap suc (each_long Says ids ds h.1)

mapped_back : {X Y : Type 0} (f : X → Y) (xs : List X) (k : ℕ) (y : Y) → slice_get (map f xs) k ≡ Some y
    → (x : X) × (slice_get xs k ≡ Some x) × Path Y (f x) y
mapped_back f [] k y e = absurd (none-some y e)
mapped_back f (x ∷ xs) zero y e = (x, refl, same_Some (f x) y e)
mapped_back f (x ∷ xs) (suc k) y e = mapped_back f xs k y e

-- operations whose names rise have ids that differ
abbrev op_name : OperationData → List ℕ
op_name o = o.name

abbrev op_id : OperationData → List ℕ
op_id o = o.id

ids_differ : (os : List OperationData) → ((o : OperationData) → Contains os o → o.name ≡ name_part o.id)
    → IsStrictlySortedBy text_cmp (map op_name os) → AllDiffer (map op_id os)
ids_differ [] named rise = tt
ids_differ (o ∷ os) named rise = (
  none_is o.id (map op_id os) (λ y there same.
      let p = mapped_from op_id os y there in
      let less = before_one nat_list_cmp_total o.name p.0.name (map op_name os) (sorted_head text_cmp o.name (map op_name os) rise)
      (mapped_to op_name os p.0 p.1) in
      let alike : p.0.name ≡ o.name =
      named p.0 (contains_behind o p.0 os p.1) ∙ ap name_part (p.2 ∙ same) ∙ sym (named o (contains_head o os)) in
      not_before_itself nat_list_cmp_total o.name (subst (λ x. text_cmp o.name x ≡ Less) alike less)),
  ids_differ os (λ p there. named p (contains_behind o p os there)) (sorted_tail text_cmp o.name (map op_name os) rise),
)

module _ (g : GraphMaps) (id : List ℕ) (service : ServiceData) (f : IsFormedGraph g) (none : NoneFailsIn g (IsOfService g id))
    (of : IsServiceOf g id service) (shaped : Shaped service.table) where
  is : IsService g id
  is = (of.s, of.own, of.kind)

  row : (k : ℕ) (x : List ℕ) → IsNumberOf of.numbering x k → IsRowOf g (IsOfService g id) service.table of.numbering x k
  row = row_of g (IsOfService g id) service.table of.numbering of.compiled

  carried_at : (k : ℕ) (x : List ℕ) → IsNumberOf of.numbering x k → IsServed g x → IsCarriedIn service.table k
  carried_at = carried g (IsOfService g id) service.table of.numbering of.compiled shaped

  -- an error that is referred to
  error_referred : (from : List ℕ) (r : ShapeEntry) → IsOwnShape g from r → IsOfService g id from → (e : List ℕ) → SaysInBody Error r e
      → (s : ShapeEntry) → HasEntry g e (shape_entry s) → IsErrorOf g id e
  error_referred from r own inside e says s there = record {
    s = s;
    there = there;
    inside = closure_next g id is from e inside (Error, (λ x. cc), (shape_entry r, own.0, inr says, (shape_entry s, there)));
    is_error = must (is_error_structure s) (λ wrong. none.kinds from e inside (by_body (record {
      s = r;
      own = own;
      relation = Error;
      says = says;
      e = shape_entry s;
      there = there;
      may_not = wrong;
    })));
  }

  -- the number of a structure
  plain_at : (k : ℕ) (x : List ℕ) → IsNumberOf of.numbering x k
      → ((s : ShapeEntry) → HasEntry g x (shape_entry s) → is_plain_structure s ≡ true) → IsStructureIn service.table k
  plain_at k x number plain =
      let r = row k x number in (
        r.within,
        r.kind ∙ ap table_kind (structure_kind r.s.kind
            (first_of (is_kind model.Structure r.s.kind) (not (has_trait error_id r.s.traits)) (plain r.s r.there))),
      )

  module _ (o : OperationData) (inside : IsOfService g id o.id) (says : SaysOperation g of.numbering of.s o) where
    abbrev errors_of : List (List ℕ)
    errors_of = errors_said says.s of.s

    input_plain : (s : ShapeEntry) → HasEntry g says.input (shape_entry s) → is_plain_structure s ≡ true
    input_plain s there = must (is_plain_structure s) (λ wrong. none.kinds o.id says.input inside (by_body (record {
      s = says.s;
      own = says.own;
      relation = Input;
      says = one_said says.s (codes "input") Input (ap (λ k. relation_under (codes "input") (field_relations k)) says.kind) says.input
          says.input_said;
      e = shape_entry s;
      there = there;
      may_not = wrong;
    })))

    output_plain : (s : ShapeEntry) → HasEntry g says.output (shape_entry s) → is_plain_structure s ≡ true
    output_plain s there = must (is_plain_structure s) (λ wrong. none.kinds o.id says.output inside (by_body (record {
      s = says.s;
      own = says.own;
      relation = Output;
      says = one_said says.s (codes "output") Output (ap (λ k. relation_under (codes "output") (field_relations k)) says.kind) says.output
          says.output_said;
      e = shape_entry s;
      there = there;
      may_not = wrong;
    })))

    -- its errors
    error_there : (e : List ℕ) → Contains errors_of e → (s : ShapeEntry) × HasEntry g e (shape_entry s)
    error_there e among =
        let at = place_of errors_of e among in
        let r = each_at (SaysError g of.numbering) errors_of o.errors at.0 e at.1 says.errors in
        let x = row r.0.shape e r.2.number in (x.s, x.there)

    error_of : (e : List ℕ) → Contains errors_of e → IsErrorOf g id e
    error_of e among =
        let x = error_there e among in
        elim (error_said says.s of.s e among) [
          | inl own ↦ error_referred o.id says.s says.own inside e
              (some_said says.s (codes "errors") Error (ap (λ k. relation_under (codes "errors") (field_relations k)) says.kind) e own) x.0 x.1
          | inr shared ↦ error_referred id of.s of.own (inl refl) e
              (some_said of.s (codes "errors") Error (ap (λ k. relation_under (codes "errors") (field_relations k)) of.kind) e shared) x.0 x.1
        ]

    error_row : (e : ErrorShape) → Contains o.errors e → (x : List ℕ) × Contains errors_of x × SaysError g of.numbering x e
    error_row e among =
        let at = place_of o.errors e among in
        let r = said_at (SaysError g of.numbering) errors_of o.errors at.0 e at.1 says.errors in
        (r.0, contains_at errors_of at.0 r.0 r.1, r.2)

    errors_right : (e : ErrorShape) → Contains o.errors e → IsStructureIn service.table e.shape × IsShapeId e.id
    errors_right e among =
        let r = error_row e among in
        let x = row e.shape r.0 r.2.number in
        let error = error_of r.0 r.1 in
        let structure = structure_kind error.s.kind
        (first_of (is_kind model.Structure error.s.kind) (has_trait error_id error.s.traits) error.is_error) in
        let same = one_shape g r.0 error.s x.s error.there x.there in (
          (x.within, x.kind ∙ ap table_kind (ap (λ (y : ShapeEntry). y.kind) (sym same) ∙ structure)),
          subst IsShapeId (sym r.2.id_is) (shape_id g f r.0 x.s x.there),
        )

    few_errors : length o.errors < 2 ^ 32
    few_errors =
        subst (λ k. k < 2 ^ 32) (each_long (SaysError g of.numbering) errors_of o.errors says.errors)
        (few_ids g f errors_of (once_differ _) (λ e among. let x = error_there e among in (shape_entry x.0, x.1)))

    shapes_differ : NumbersDiffer (map (λ e. e.shape) o.errors)
    shapes_differ i j k h l =
        let a = mapped_back (λ (e : ErrorShape). e.shape) o.errors i k h in
        let b = mapped_back (λ (e : ErrorShape). e.shape) o.errors j k l in
        let x = said_at (SaysError g of.numbering) errors_of o.errors i a.0 a.1 says.errors in
        let y = said_at (SaysError g of.numbering) errors_of o.errors j b.0 b.1 says.errors in
        let same : x.0 ≡ y.0 =
        same_Some x.0 y.0 (sym x.2.number ∙ ap (slice_get of.numbering.shapes) (a.2 ∙ sym b.2) ∙ y.2.number) in
        same_place errors_of (once_differ _) i j x.0 x.1 (y.1 ∙ ap Some (sym same))

    no_output : (e : ErrorShape) → Contains o.errors e → e.shape ≡ o.output → ⊥
    no_output e among is_output =
        let r = error_row e among in
        let error = error_of r.0 r.1 in
        let same : r.0 ≡ says.output =
        same_Some r.0 says.output (sym r.2.number ∙ ap (slice_get of.numbering.shapes) is_output ∙ says.output_number) in
        let there : HasEntry g says.output (shape_entry error.s) = subst (λ x. HasEntry g x (shape_entry error.s)) same error.there in
        never_both g says.output error.s error.s there there (output_plain error.s there) error.is_error

    -- what a walk of its values begins from
    abbrev input_root : WalkRoot
    input_root = walk_root (codes "input" ∷ []) says.input

    abbrev output_root : WalkRoot
    output_root = walk_root (codes "output" ∷ []) says.output

    abbrev error_roots : List WalkRoot
    error_roots = map error_root errors_of

    abbrev behind_input : List WalkRoot
    behind_input = output_root ∷ error_roots

    served : o.served ≡ Yes → (root : WalkRoot) → Contains (walk_roots says.input says.output errors_of) root → IsServed g root.id
    served told = subst (TellsAllServed g (walk_roots says.input says.output errors_of)) told says.served

    servable_operation : IsServableOperation service.table o
    servable_operation = record {
      name = subst IsIdentifier (sym says.name) (name_is_identifier o.id (shape_id g f o.id says.s says.own.0));
      input = plain_at o.input says.input says.input_number input_plain;
      output = plain_at o.output says.output says.output_number output_plain;
      errors = errors_right;
      few = few_errors;
      error_names = error_names_differ g f id of.s of.own of.kind none of.numbering errors_of o.errors says.errors (once_differ _) error_of;
      error_shapes = shapes_differ;
      no_output = no_output;
      input_carried = λ told. carried_at o.input says.input says.input_number (served told input_root (contains_head input_root behind_input));
      output_carried = λ told. carried_at o.output says.output says.output_number
          (served told output_root (contains_behind input_root output_root behind_input (contains_head output_root error_roots)));
      errors_carried = λ told e among.
          let r = error_row e among in
          let root = error_root r.0 in
          carried_at e.shape r.0 r.2.number (served told root
          (contains_behind input_root root behind_input
          (contains_behind output_root root error_roots (mapped_to error_root errors_of r.0 r.1))));
    }

  each_servable : (o : OperationData) → Contains service.operations o → IsServableOperation service.table o
  each_servable o among = let h = of.operations.each o among in servable_operation o h.0.0 h.1

  few_operations : length service.operations < 2 ^ 32
  few_operations =
      subst (λ k. k < 2 ^ 32) (map_long op_id service.operations)
      (few_ids g f (map op_id service.operations)
      (ids_differ service.operations (λ o among. (of.operations.each o among).1.name) of.operations.rise)
      (λ x there.
      let p = mapped_from op_id service.operations x there in
      let h = (of.operations.each p.0 p.1).1 in
      (shape_entry h.s, subst (λ i. HasEntry g i (shape_entry h.s)) p.2 h.own.0)))

  pub servable : Servable service
  servable = record {
    shaped = shaped;
    tokens = tokens g f id is none service.table of.numbering of.compiled of.binds;
    name = subst IsIdentifier (sym of.name) (name_is_identifier id (shape_id g f id of.s of.own.0));
    few = few_operations;
    order = of.operations.rise;
    each = each_servable;
  }

pub servable_ready : ServableWhereReady
servable_ready g id service ready of shaped =
    let r = ready (of.s, of.own, of.kind) in servable g id service r.formed r.none of shaped
