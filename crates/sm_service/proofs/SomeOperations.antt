-- The operations of a service that is ready, as data: it can't be that there are none of which the graph says what it says of them.
use Rattle.std.proofs.Common.{◌≡◌, inl, inr, ℕ, ℤ, pos, ◌<◌, ◌++◌, List, [], ◌∷◌, Option, Some, None, length, get_or, map, refl, sym, ap}
use Rattle.std.proofs.Common.{◌∙◌, subst}
use Rattle.std.specs.Prelude.{◌↔◌, ◌^◌, codes}
use Rattle.std.specs.FinMap as fin
use Rattle.std.specs.Cmp.Lexicographic.{nat_list_cmp_total}
use Rattle.std.specs.List.{Contains, join_with_byte, range_with_len}
use Rattle.std.specs.List.Sorted.{IsStrictlySortedBy}
use Rattle.std.specs.Option.{option_map, unwrap_or}
use Rattle.std.specs.Str.{bytes_eq}
use Rattle.std.specs.declared.cmp.Ordering.TheVariants.{Less}
use Rattle.std.proofs.lemmas.List.{map-id}
use Rattle.std.proofs.lemmas.List.FromFn.{fill_by_all}
use Rattle.std.proofs.lemmas.List.Sorted.{Contains-permutation, IsPermutation-sym}
use Rattle.std.proofs.lemmas.Map.Keys.{sorted_head, sorted_tail}
use Rattle.std.proofs.lemmas.Option.{slice_get_read}
use Rattle.std.proofs.lemmas.Simd.{map-map}
use Rattle.sm_bytes.specs.Ascii.{slash}
use Rattle.sm_ids.specs.TextParts.{name_part}
use Rattle.sm_tree.specs.Node.{Node}
use Rattle.sm_model.specs.Graphs.{GraphMaps, ShapeEntry, shape_entry, text_cmp}
use Rattle.sm_model.specs.Relations.{HasEntry}
use Rattle.sm_model.specs.declared.kind.Kind.TheVariants as model
use Rattle.sm_model.proofs.OneRising.{before_one, contains_behind, contains_either, contains_head, contains_none, not_before_itself}
use Rattle.sm_shapes.specs.InOrder.{AreByName}
use Rattle.sm_shapes.specs.Names.{AllDiffer}
use Rattle.sm_compile.specs.Answers.{TellsServed}
use Rattle.sm_compile.specs.Compiled.{EachSays, IsTabled, Numbering}
use Rattle.sm_compile.specs.Kinds.{has_values}
use Rattle.sm_compile.specs.Served.{IsServed, names_of_way}
use Rattle.sm_compile.specs.Sound.{trait_of}
use Rattle.sm_compile.specs.TraitIds.{error_id, http_error_id, http_id}
use Rattle.sm_compile.specs.TraitNodes.{number_of, text_of}
use Rattle.sm_compile.specs.declared.compiled.Served.{Served}
use Rattle.sm_compile.specs.declared.compiled.Served.TheVariants.{Yes, Unserved}
use Rattle.sm_compile.proofs.KeptIds.{among_graph, graph_ids_rise, some_kept}
use Rattle.sm_compile.proofs.NumbersOrdered.{some_order}
use Rattle.sm_compile.proofs.SomeWay.{some_served}
use Rattle.sm_compile.proofs.SoundTests.{first_of}
use Rattle.sm_compile.proofs.TabledShapes.{mapped_from, mapped_to}
use Rattle.sm_http_traits.specs.Http.{code_seen}
use Rattle.sm_rules.specs.Ready.{IsOfService, Ready}
use Rattle.sm_rules.specs.TraitRows.{is_kind}
use Rattle.sm_rules.specs.Words.{IsInClosure, IsService, has_trait}
use Rattle.sm_service.specs.Compiled.{AreOperationsOf, IsNumberOf, IsOperationOf, SaysError, SaysHttp, SaysOperation}
use Rattle.sm_service.specs.References.{errors_said}
use Rattle.sm_service.specs.ServedOperation.{TellsAllServed, WalkRoot, walk_roots}
use Rattle.sm_service.specs.ServiceData.{HttpData, OperationData}
use Rattle.sm_service.specs.declared.error.ErrorShape.{ErrorShape}
use Rattle.sm_service.specs.steps.ErrorReads.{IsStatusWord}
use Rattle.sm_service.specs.steps.HttpReads.{ReadsHttp}
use Rattle.sm_service.proofs.ErrorsApart.{IsErrorOf, structure_kind}
use Rattle.sm_service.proofs.HttpRead.{rule_said}
use Rattle.sm_service.proofs.HttpReady.{reads_http}
use Rattle.sm_service.proofs.OperationsTold.{row_in, rows_map}
use Rattle.sm_service.proofs.SaidReferences.{error_said}
use Rattle.sm_service.proofs.ServableIds.{none_is}
use Rattle.sm_service.proofs.ServiceOperations.{RefersToStructure, input_of, one_operation, operation_error, output_of, service_error}
use Rattle.sm_service.proofs.ServiceOperations.{status_word}
use Rattle.sm_service.proofs.SomeBindings.{told_each}

-- a number that may be there, and one that is 200 where it isn't
status_there : (o : Option ℤ) → IsStatusWord o → (s : Option ℕ) × (option_map pos s ≡ o)
status_there None h = (None, refl)
status_there (Some z) h = (Some h.0, ap Some (sym h.1))

code_there : (o : Option ℤ) → ((z : ℤ) → o ≡ Some z → (k : ℕ) × (z ≡ pos k) × (k < 2 ^ 16)) → (k : ℕ) × (pos k ≡ unwrap_or o (pos 200))
code_there None h = (200, refl)
code_there (Some z) h = let k = h z refl in (k.0, sym k.1)

-- where it can't be that there is none for one of these ids, it can't be that there is none for all of them
each_there : {D : Type 0} (Says : List ℕ → D → Type 0) (ids : List (List ℕ))
    → ((id : List ℕ) → Contains ids id → ((d : D) → Says id d → ⊥) → ⊥) → ((ds : List D) → EachSays Says ids ds → ⊥) → ⊥
each_there Says [] some none = none [] tt
each_there Says (id ∷ ids) some none =
    some id (contains_head id ids) (λ d says.
    each_there Says ids (λ other there. some other (contains_behind id other ids there)) (λ ds rest. none (d ∷ ds) (says, rest)))

-- names of ids that rise differ, where no two have one name
differ_by_name : (ids : List (List ℕ)) → IsStrictlySortedBy text_cmp ids
    → ((a b : List ℕ) → Contains ids a → Contains ids b → name_part a ≡ name_part b → a ≡ b) → AllDiffer (map name_part ids)
differ_by_name [] rise one = tt
differ_by_name (id ∷ ids) rise one = (
  none_is (name_part id) (map name_part ids) (λ name there same.
      let other = mapped_from name_part ids name there in
      let is : other.0 ≡ id =
      one other.0 id (contains_behind id other.0 ids other.1) (contains_head id ids) (other.2 ∙ same) in
      not_before_itself nat_list_cmp_total id
      (subst (λ x. text_cmp id x ≡ Less) is (before_one nat_list_cmp_total id other.0 ids (sorted_head text_cmp id ids rise) other.1))),
  differ_by_name ids (sorted_tail text_cmp id ids rise) (λ a b x y. one a b (contains_behind id a ids x) (contains_behind id b ids y)),
)

-- whether all that is walked is served
served_there : (g : GraphMaps) (roots : List WalkRoot) → ((s : Served) → TellsAllServed g roots s → ⊥) → ⊥
served_there g [] none = none Yes (λ root there. absurd (contains_none root there))
served_there g (r ∷ roots) none = some_served g r.id (λ s tells. by (λ each. served_there g roots each) s tells)
  where
    both : IsServed g r.id → (s : Served) → TellsAllServed g roots s → ⊥
    both here Yes rest = none Yes (λ root there. elim (contains_either r root roots there) [
      | inl same ↦ subst (λ (x : WalkRoot). IsServed g x.id) same here
      | inr later ↦ rest root later
    ])
    both here (Unserved path) rest = none (Unserved path) (inr (here, rest))

    by : (((s : Served) → TellsAllServed g roots s → ⊥) → ⊥) → (s : Served) → TellsServed g r.id s → ⊥
    by rest Yes tells = rest (λ s told. both tells s told)
    by rest (Unserved path) tells =
        none (Unserved (join_with_byte slash (r.names ++ names_of_way tells.0))) (inl (tells.0, tells.1, refl))

-- what `http` says
http_there : (g : GraphMaps) (id : List ℕ) → ReadsHttp g id → ((h : Option HttpData) → SaysHttp g id h → ⊥) → ⊥
http_there g id reads none = by (trait_of g id http_id) refl
  where
    by : (o : Option Node) → trait_of g id http_id ≡ o → ⊥
    by None is = none None is
    by (Some n) is =
        let f = reads.fields n is in
        f.pattern (λ u.
        let code = code_there (code_seen g id) f.code in
        let h : HttpData = record { method = f.method; uri = u.0; code = code.0 } in
        none (Some h) (rule_said g id reads.operation h f.method_is (f.text, f.text_is, u.1) code.1))

module _ (g : GraphMaps) (service : List ℕ) (is : IsService g service) (ready : Ready g service) (n : Numbering)
    (shapes : (id : List ℕ) → Contains n.shapes id ↔ IsTabled g (IsOfService g service) id) where
  -- a structure of the service has a number
  number_there : (id : List ℕ) → IsInClosure g service id → (t : ShapeEntry) → HasEntry g id (shape_entry t) → t.kind ≡ model.Structure
      → (k : ℕ) × IsNumberOf n id k
  number_there id inside t there kind =
      let c = (shapes id).1 (inr inside, (t, there, ap has_values kind)) in
      (c.0, slice_get_read n.shapes (length n.shapes) c.0 id refl c.1 (sym c.2))

  referred_number : (name : List ℕ) (s : ShapeEntry) (r : RefersToStructure g service name s) → (k : ℕ) × IsNumberOf n r.id k
  referred_number name s r = number_there r.id r.inside r.t r.there r.kind

  -- the row of an error
  error_there : (id : List ℕ) → IsErrorOf g service id → (e : ErrorShape) × SaysError g n id e
  error_there id e =
      let kind = structure_kind e.s.kind (first_of (is_kind model.Structure e.s.kind) (has_trait error_id e.s.traits) e.is_error) in
      let k = number_there id e.inside e.s e.there kind in
      let status = status_there (number_of (trait_of g id http_error_id)) (status_word g service is ready id e) in (
        record {
          id = id;
          shape = k.0;
          client = bytes_eq (unwrap_or (text_of (trait_of g id error_id)) []) (codes "client");
          status = status.0;
        },
        record { id_is = refl; number = k.1; client = refl; status = status.1 },
      )

  -- the row of an operation
  pub record IsOperationRow (id : List ℕ) (o : OperationData) : Type 0 where
    pub id_is : o.id ≡ id
    pub name_is : o.name ≡ name_part id
    pub says : SaysOperation g n is.0 o

  operation_there : (id : List ℕ) → IsOperationOf g service id → ((o : OperationData) → IsOperationRow id o → ⊥) → ⊥
  operation_there id h none =
      let s = h.1.0 in
      let input = input_of g service is ready id h in
      let output = output_of g service is ready id h in
      let input_number = referred_number (codes "input") s input in
      let output_number = referred_number (codes "output") s output in
      let errors = told_each (SaysError g n) (errors_said s is.0) (λ e among. error_there e (named e among)) in
      http_there g id (reads_http g service id is ready h) (λ http says_http.
      served_there g (walk_roots input.id output.id (errors_said s is.0)) (λ served tells.
      none
      (record {
        id = id;
        name = name_part id;
        input = input_number.0;
        output = output_number.0;
        errors = errors.0;
        http = http;
        served = served;
      })
      (record {
        id_is = refl;
        name_is = refl;
        says = record {
          s = s;
          own = h.1.1;
          kind = h.1.2;
          name = refl;
          input = input.id;
          input_said = input.said;
          input_number = input_number.1;
          output = output.id;
          output_said = output.said;
          output_number = output_number.1;
          errors = errors.1;
          http = says_http;
          served = tells;
        };
      })))
    where
      named : (e : List ℕ) → Contains (errors_said h.1.0 is.0) e → IsErrorOf g service e
      named e among = elim (error_said h.1.0 is.0 e among) [
        | inl mine ↦ operation_error g service is ready id h h.1.0 h.1.1 e mine
        | inr shared ↦ service_error g service is ready is.0 is.1 e shared
      ]

  -- all of them, by their names
  module _ (ids : List (List ℕ)) (rise : IsStrictlySortedBy text_cmp ids)
      (are : (id : List ℕ) → Contains ids id → IsOperationOf g service id)
      (all : (id : List ℕ) → IsOperationOf g service id → Contains ids id) where
    abbrev id_at : ℕ → List ℕ
    id_at k = get_or ids k []

    abbrev places : List ℕ
    places = range_with_len 0 (length ids)

    whole : ids ≡ map id_at places
    whole = fill_by_all id_at ids (length ids) [] refl (λ k lt. refl)

    order : (ks : List ℕ) × AreByName (λ k. name_part (id_at k)) places ks
    order =
        some_order (λ k. name_part (id_at k)) places
        (subst AllDiffer (ap (map name_part) whole ∙ map-map name_part id_at places)
        (differ_by_name ids rise (λ a b x y. one_operation g service is ready a b (are a x) (are b y))))

    abbrev by_name : List (List ℕ)
    by_name = map id_at order.0

    from_ids : (id : List ℕ) → Contains by_name id → Contains ids id
    from_ids id there =
        let k = mapped_from id_at order.0 id there in
        subst (λ xs. Contains xs id) (sym whole)
        (subst (Contains (map id_at places)) k.2 (mapped_to id_at places k.0 (Contains-permutation order.0 places k.0 order.1.0 k.1)))

    to_ids : (id : List ℕ) → Contains ids id → Contains by_name id
    to_ids id there =
        let k = mapped_from id_at places id (subst (λ xs. Contains xs id) whole there) in
        subst (Contains by_name) k.2
        (mapped_to id_at order.0 k.0 (Contains-permutation places order.0 k.0 (IsPermutation-sym order.0 places order.1.0) k.1))

    in_order : (os : List OperationData) → EachSays IsOperationRow by_name os → AreOperationsOf g service n is.0 os
    in_order os rows =
        let ids_told : map (λ (o : OperationData). o.id) os ≡ by_name =
        rows_map IsOperationRow (λ o. o.id) (λ x. x) (λ id o row. row.id_is) by_name os rows ∙ map-id by_name in
        let names_told : map (λ (o : OperationData). o.name) os ≡ map (λ k. name_part (id_at k)) order.0 =
        rows_map IsOperationRow (λ o. o.name) name_part (λ id o row. row.name_is) by_name os rows ∙ map-map name_part id_at order.0 in
        record {
          each = λ o there.
              let r = row_in IsOperationRow by_name os o rows there in
              (subst (IsOperationOf g service) (sym r.2.id_is) (are r.0 (from_ids r.0 r.1)), r.2.says);
          all = λ id h. subst (λ xs. Contains xs id) (sym ids_told) (to_ids id (all id h));
          rise = subst (IsStrictlySortedBy text_cmp) (sym names_told) order.1.1;
        }

    ordered_there : ((os : List OperationData) → AreOperationsOf g service n is.0 os → ⊥) → ⊥
    ordered_there none =
        each_there IsOperationRow by_name (λ id there. operation_there id (are id (from_ids id there))) (λ os rows.
        none os (in_order os rows))

  pub some_operations : ((os : List OperationData) → AreOperationsOf g service n is.0 os → ⊥) → ⊥
  some_operations none =
      some_kept (IsOperationOf g service) (fin.keys g.shapes) (graph_ids_rise g) (λ ids rise are.
      ordered_there ids rise (λ id there. ((are id).0 there).1)
      (λ id h. (are id).1 (among_graph g id (shape_entry h.1.0, h.1.1.0), h)) none)
