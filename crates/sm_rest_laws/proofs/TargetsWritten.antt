-- The target of a request can be written of a value: the text of each label is there and isn't empty, and all that is written are bytes.
use Rattle.std.proofs.Common.{◌≡◌, ℕ, suc, Bool, true, List, [], ◌∷◌, ◌++◌, None, Some, map, refl, sym, ap, ◌∙◌, subst}
use Rattle.std.specs.Prelude.{IsUtf8, Option}
use Rattle.std.specs.List.{AllByRecursion, Contains}
use Rattle.std.proofs.lemmas.Str.{IsUtf8-from_is_utf8}
use Rattle.sm_time.proofs.StampForms.{and_first}
use Rattle.sm_tree.specs.declared.path.Step.TheVariants.{Index}
use Rattle.sm_rules.specs.Bindings.{an_input}
use Rattle.sm_compile.proofs.TabledShapes.{mapped_from}
use Rattle.sm_model.proofs.OneRising.{contains_behind, contains_head}
use Rattle.sm_shapes.specs.Fitting.{FitEntries, FitPairs, Fits, FitsOrNull, IsOfKind, Test}
use Rattle.sm_shapes.specs.Places.{Place, entry_place, key_place, kind_of, member_place, sparse_of, value_place}
use Rattle.sm_shapes.specs.TableData.{BindingData, TableData, binding_at, label, query, query_params, header, prefix_headers, payload}
use Rattle.sm_shapes.specs.TableData.{response_code, name_at}
use Rattle.sm_shapes.specs.Values.{EntryVals, FieldVals, Val, Vals, each_val, entry, field, list_val, no_entries, no_fields, no_vals}
use Rattle.sm_shapes.specs.Values.{null_val, structure_val, text_val, val}
use Rattle.sm_shapes.specs.declared.kinds.ShapeKind.{ShapeKind}
use Rattle.sm_shapes.specs.declared.kinds.ShapeKind.TheVariants as kind
use Rattle.sm_shapes.proofs.NamedMembers.{IsAmong, contains_among}
use Rattle.sm_codec.specs.Written.{paths_under}
use Rattle.sm_codec.proofs.NoFaults.{none_behind, none_first}
use Rattle.sm_bind_laws.specs.service.HttpServable.{AreLabelled}
use Rattle.sm_bind_laws.specs.service.WireMembers.{counted_binding, wire_member_at, wire_members}
use Rattle.sm_uri.specs.UriPattern.{UriSaid, label_names}
use Rattle.sm_parts.specs.Laws.{AreBytesOf}
use Rattle.sm_parts.specs.HeaderLists.{is_filled}
use Rattle.sm_part_texts.specs.CarriedTexts.{entries_failing, has_text_at, here_unless, is_carried, list_failing, uncarried_query}
use Rattle.sm_part_texts.specs.CarriedTexts.{value_passes}
use Rattle.sm_part_texts.specs.Laws.{CarriedTextsPass}
use Rattle.sm_part_texts.specs.PlaceTexts.{in_targets, keyed_texts, pairs_under, simple_at, text_at, texts_at}
use Rattle.sm_part_texts.specs.declared.carried.TextTest.TheVariants.{OfLabel, OfQuery}
use Rattle.sm_bind_laws.specs.part_laws.Coming.{AreCarried}
use Rattle.sm_bind_laws.proofs.part_laws.LeavesAgain.{kind_fits, null_untold, target_utf8}
use Rattle.sm_bind_laws.specs.bind.Roles.{Bound, binding_on, bound_members}
use Rattle.sm_bind_laws.specs.bind_write.CarriedParts.{uncarried_bound}
use Rattle.sm_bind_laws.specs.bind_write.WrittenParts.{entries_in, member_pairs, member_params, written_labels, written_pairs, written_params}
use Rattle.sm_bind_laws.specs.bind_write.WrittenParts.{written_parts}
use Rattle.sm_bind_laws.specs.WrittenLabels.{AreAllBytes, CanBeWritten, HasLiteralBytes, IsLabelled}
use Rattle.sm_bind_laws.proofs.EachCarried.{CanBeRead, IsReady}
use Rattle.sm_bind_laws.proofs.FieldsEach.{EachField}
use Rattle.sm_bind_laws.proofs.LabelsFound.{label_carried, label_found, present}
use Rattle.sm_bind_laws.proofs.OwnParts.{own_binding}
use Rattle.sm_bind_laws.proofs.QueriesFound.{IsFreeMap, each_query, free_map}
use Rattle.sm_rest.proofs.TargetTexts.{utf8_bytes}
use Rattle.sm_part_texts.proofs.TextsHad.{passed_here}
use Rattle.sm_codec.proofs.WrittenValues.{none_of_paths}

all_of : {X : Type 0} (P : X → Type 0) (xs ys : List X) → AllByRecursion P xs → AllByRecursion P ys → AllByRecursion P (xs ++ ys)
all_of P [] ys h g = g
all_of P (x ∷ xs) ys h g = (h.0, all_of P xs ys h.1 g)

all_named : (P : List ℕ → Type 0) (names : List (List ℕ)) → ((name : List ℕ) → Contains names name → P name) → AllByRecursion P names
all_named P [] f = tt
all_named P (name ∷ names) f = (f name (contains_head name names), all_named P names (λ n i. f n (contains_behind name n names i)))

-- texts of a target
text_bytes : (t : TableData) (test : Test) (p : Place) (v : Val) → has_text_at in_targets t p v ≡ true → Fits t test p v
    → AreAllBytes (text_at in_targets t p v)
text_bytes t test p v has fits =
    utf8_bytes (text_at in_targets t p v) (IsUtf8-from_is_utf8 (text_at in_targets t p v) (target_utf8 in_targets t test p v has fits))

carried_bytes : (t : TableData) (test : Test) (p : Place) (v : Val) → is_carried OfQuery t p v ≡ true → Fits t test p v
    → AreAllBytes (text_at in_targets t p v)
carried_bytes t test p v carried fits =
    text_bytes t test p v (and_first (has_text_at in_targets t p v) (value_passes OfQuery v) carried) fits

-- no text stands for null, so a value that may be null isn't
value_fits : (t : TableData) (test : Test) (q : Place) (sparse : Bool) (v : Val) → has_text_at in_targets t q v ≡ true
    → FitsOrNull sparse (Fits t test q v) v → Fits t test q v
value_fits t test q sparse null_val has h = absurd (null_untold (simple_at in_targets t q) has)
value_fits t test q sparse v has h = h

query_fits : (t : TableData) (test : Test) (q : Place) (sparse : Bool) (v : Val) → uncarried_query t q v ≡ []
    → FitsOrNull sparse (Fits t test q v) v → Fits t test q v
query_fits t test q sparse null_val none h =
    absurd (null_untold (simple_at in_targets t q)
    (and_first (has_text_at in_targets t q null_val) (value_passes OfQuery null_val) (passed_here (is_carried OfQuery t q null_val) none)))
query_fits t test q sparse v none h = h

has_of : (t : TableData) (q : Place) (v : Val) → is_carried OfQuery t q v ≡ true → has_text_at in_targets t q v ≡ true
has_of t q v carried = and_first (has_text_at in_targets t q v) (value_passes OfQuery v) carried

module _ (t : TableData) (test : Test) where
  entries_bytes : (p : Place) (vs : Vals) (i : ℕ) → entries_failing (is_carried OfQuery t (entry_place t p)) i (each_val vs) ≡ []
      → FitEntries t test p vs → AllByRecursion AreAllBytes (map (text_at in_targets t (entry_place t p)) (each_val vs))
  entries_bytes p no_vals i none fits = tt
  entries_bytes p (val v vs) i none fits =
      let q = entry_place t p in
      let here = paths_under (Index i) (here_unless (is_carried OfQuery t q v)) in
      let rest = entries_failing (is_carried OfQuery t q) (suc i) (each_val vs) in
      let ok = passed_here (is_carried OfQuery t q v)
      (none_of_paths (Index i) (here_unless (is_carried OfQuery t q v)) (none_first here rest none)) in (
        carried_bytes t test q v ok (value_fits t test q (sparse_of t p) v (has_of t q v ok) fits.0),
        entries_bytes p vs (suc i) (none_behind here rest none) fits.1,
      )

  list_bytes : (p : Place) (vs : Vals) → list_failing (is_carried OfQuery t (entry_place t p)) (each_val vs) ≡ [] → FitEntries t test p vs
      → AllByRecursion AreAllBytes (map (text_at in_targets t (entry_place t p)) (each_val vs))
  list_bytes p no_vals none fits = tt
  list_bytes p (val v vs) none fits = entries_bytes p (val v vs) 0 none fits

  texts_bytes : (p : Place) (v : Val) → uncarried_query t p v ≡ [] → Fits t test p v
      → AllByRecursion AreAllBytes (texts_at in_targets t p v)
  texts_bytes p (list_val vs) none fits = list_bytes p vs none fits.3
  texts_bytes p v none fits = (carried_bytes t test p v (passed_here (is_carried OfQuery t p v) none) fits, tt)

  under_bytes : (key : List ℕ) (us : List (List ℕ)) → AreAllBytes key → AllByRecursion AreAllBytes us
      → AllByRecursion AreBytesOf (pairs_under key us)
  under_bytes key [] keys h = tt
  under_bytes key (u ∷ us) keys h = ((keys, h.0), under_bytes key us keys h.1)

  key_utf8 : (k : ShapeKind) (key : List ℕ) → IsOfKind k (text_val key) → IsUtf8 key
  key_utf8 kind.Text key h = h
  key_utf8 kind.Enum key h = h
  key_utf8 k key h = absurd h

  keyed_bytes : (p : Place) (es : EntryVals) → AreCarried (uncarried_query t (value_place t p)) es → FitPairs t test p es
      → AllByRecursion AreBytesOf (keyed_texts t (value_place t p) es)
  keyed_bytes p no_entries carried fits = tt
  keyed_bytes p (entry key v es) carried fits =
      let q = value_place t p in
      all_of AreBytesOf (pairs_under key (texts_at in_targets t q v)) (keyed_texts t q es)
      (under_bytes key (texts_at in_targets t q v) (utf8_bytes key (key_utf8 (kind_of t (key_place t p)) key fits.0))
      (texts_bytes q v carried.0 (query_fits t test q (sparse_of t p) v carried.0 fits.2)))
      (keyed_bytes p es carried.1 fits.3)

-- the pairs of the members of a query, and those of its map
module _ (b : Bound) (test : Test)
    (keys : (k : ℕ) (name : List ℕ) → binding_at b.table k ≡ Some (query name) → AreAllBytes name) where
  abbrev IsHere : Option BindingData → ℕ → Val → Type 0
  IsHere o k v = (binding_on b k ≡ o) × Fits b.table test (member_place k) v × (uncarried_bound o b k v ≡ [])

  here_of : (k : ℕ) (v : Val) → IsReady b test k v → IsHere (binding_on b k) k v
  here_of k v ready = (refl, ready.fits, ready.carried)

  member_bytes : (o : Option BindingData) (k : ℕ) (v : Val) → IsHere o k v → AllByRecursion AreBytesOf (member_pairs o b.table k v)
  member_bytes (Some (query name)) k v h =
      under_bytes b.table test name (texts_at in_targets b.table (member_place k) v)
      (keys k name (own_binding b.side (binding_at b.table k) (query name) h.0)) (texts_bytes b.table test (member_place k) v h.2 h.1)
  member_bytes None k v h = tt
  member_bytes (Some label) k v h = tt
  member_bytes (Some query_params) k v h = tt
  member_bytes (Some (header name)) k v h = tt
  member_bytes (Some (prefix_headers prefix)) k v h = tt
  member_bytes (Some payload) k v h = tt
  member_bytes (Some response_code) k v h = tt

  map_bytes : (k : ℕ) (v : Val) → Fits b.table test (member_place k) v → (m : IsFreeMap b (value_place b.table (member_place k)) v)
      → AllByRecursion AreBytesOf (keyed_texts b.table (value_place b.table (member_place k)) (entries_in v))
  map_bytes k v fits m =
      let p = value_place b.table (member_place k) in
      let inside = subst (Fits b.table test (member_place k)) m.is_map fits in
      subst (λ w. AllByRecursion AreBytesOf (keyed_texts b.table p (entries_in w))) (sym m.is_map)
      (keyed_bytes b.table test (member_place k) m.entries (each_query b p m.entries m.none) inside.3)

  param_bytes : (o : Option BindingData) (k : ℕ) (v : Val) → IsHere o k v → AllByRecursion AreBytesOf (member_params o b.table k v)
  param_bytes (Some query_params) k v h = map_bytes k v h.1 (free_map b (value_place b.table (member_place k)) v h.2)
  param_bytes None k v h = tt
  param_bytes (Some label) k v h = tt
  param_bytes (Some (query name)) k v h = tt
  param_bytes (Some (header name)) k v h = tt
  param_bytes (Some (prefix_headers prefix)) k v h = tt
  param_bytes (Some payload) k v h = tt
  param_bytes (Some response_code) k v h = tt

  pairs_bytes : (fs : FieldVals) → EachField (IsReady b test) fs → AllByRecursion AreBytesOf (written_pairs b fs)
  pairs_bytes no_fields h = tt
  pairs_bytes (field k v fs) h =
      all_of AreBytesOf (member_pairs (binding_on b k) b.table k v) (written_pairs b fs)
      (member_bytes (binding_on b k) k v (here_of k v h.0)) (pairs_bytes fs h.1)

  params_bytes : (fs : FieldVals) → EachField (IsReady b test) fs → AllByRecursion AreBytesOf (written_params b fs)
  params_bytes no_fields h = tt
  params_bytes (field k v fs) h =
      all_of AreBytesOf (member_params (binding_on b k) b.table k v) (written_params b fs)
      (param_bytes (binding_on b k) k v (here_of k v h.0)) (params_bytes fs h.1)

-- what is asked of an input with this pattern
pub record IsWritten (b : Bound) (u : UriSaid) : Type 0 where
  pub side : b.side ≡ an_input
  pub labels : AreLabelled u (wire_members b.table b.shape)
  pub literals : HasLiteralBytes u
  pub keys : (k : ℕ) (name : List ℕ) → binding_at b.table k ≡ Some (query name) → AreAllBytes name

module _ (pass : CarriedTextsPass) (b : Bound) (test : Test) (u : UriSaid) (fs : FieldVals)
    (can : CanBeRead b test (label_names u.segments) fs)
    (is : IsWritten b u) where
  bound_label : (k : ℕ) → binding_at b.table k ≡ Some label → binding_on b k ≡ Some label
  bound_label k e = ap (λ side. counted_binding side (binding_at b.table k)) is.side ∙ ap (counted_binding an_input) e

  label_here : (k : ℕ) (i : IsAmong k (bound_members b)) (e : binding_on b k ≡ Some label)
      → IsLabelled (written_labels b fs) (name_at b.table k)
  label_here k i e =
      let there = present b test (label_names u.segments) fs can k i e in
      let v = there.0 in
      let text = label_found b test (label_names u.segments) fs can k i e in
      let carried = label_carried b test (label_names u.segments) fs can k i e in
      let has = and_first (has_text_at in_targets b.table (member_place k) v) (value_passes OfLabel v) carried in
      let of = kind_fits (simple_at in_targets b.table (member_place k)) b.table test (member_place k) v has there.2.fits in
      let filled = pass OfLabel b.table (member_place k) v of carried in (
        subst (λ w. is_filled w ≡ true) (sym text) filled,
        subst AreAllBytes (sym text) (text_bytes b.table test (member_place k) v has there.2.fits),
      )

  named_here : (name : List ℕ) → Contains (label_names u.segments) name → IsLabelled (written_labels b fs) name
  named_here name i =
      let found = is.labels.members name i in
      let member = mapped_from (wire_member_at b.table) (bound_members b) found.0 found.1 in
      let k = member.0 in
      let among = contains_among k (bound_members b) member.1 in
      let own = ap (λ m. m.binding) member.2 ∙ found.3 in
      subst (IsLabelled (written_labels b fs)) (ap (λ m. m.name) member.2 ∙ found.2) (label_here k among (bound_label k own))

  pub can_be_written : (usual : ℕ)
      → CanBeWritten u (written_parts b usual (structure_val fs)).labels (written_parts b usual (structure_val fs)).query
  can_be_written usual = record {
    literals = is.literals;
    labelled = all_named (IsLabelled (written_labels b fs)) (label_names u.segments) named_here;
    bytes = all_of AreBytesOf (written_pairs b fs) (written_params b fs) (pairs_bytes b test is.keys fs can.each)
        (params_bytes b test is.keys fs can.each);
  }
