-- The fields that prefix headers take are those that are written for their entries.
use Rattle.std.proofs.Common.{◌≡◌, ℕ, Bool, true, false, ◌&&◌, ◌||◌, cond, List, [], ◌∷◌, ◌++◌, drop, filter, length, map, refl, sym, ap}
use Rattle.std.proofs.Common.{◌∙◌}
use Rattle.std.proofs.Common.{subst, append-nil}
use Rattle.std.specs.Prelude.{IfSome, None, Option, Some, nat_eq, not}
use Rattle.std.specs.Cmp.Lexicographic.{pointwise}
use Rattle.std.specs.List.{join_with_byte}
use Rattle.std.specs.Str.{str_to_ascii_lowercase}
use Rattle.std.proofs.Math.Seq.{take-append_seam}
use Rattle.std.proofs.lemmas.List.Elements.{filter-append}
use Rattle.std.proofs.lemmas.Slice.Eq.{bytes_eq-Decides}
use Rattle.httparse.specs.Grammar.{trim_ows}
use Rattle.sm_bytes.specs.Ascii.{comma}
use Rattle.sm_shapes.specs.Fitting.{FitPairs, Fits, Test}
use Rattle.sm_shapes.specs.Places.{Place, member_place, value_place}
use Rattle.sm_shapes.specs.TableData.{BindingData, header, prefix_headers}
use Rattle.sm_shapes.specs.Values.{EntryVals, FieldVals, Val, entry, map_val, no_entries}
use Rattle.sm_shapes.proofs.NamedMembers.{IsAmong}
use Rattle.sm_http.specs.declared.message.Field.{Field}
use Rattle.sm_parts.specs.HeaderLists.{is_filled, joined_values}
use Rattle.sm_part_values.specs.PartTexts as values
use Rattle.sm_part_values.specs.PartTexts.{in_field, map_or_none}
use Rattle.sm_part_texts.specs.CarriedTexts.{here_unless, is_carried}
use Rattle.sm_part_texts.specs.Laws.{CarriedTextsPass}
use Rattle.sm_part_texts.specs.PlaceTexts.{field_value, in_fields, prefixed_fields, text_at}
use Rattle.sm_part_texts.specs.declared.carried.TextTest.TheVariants.{OfField}
use Rattle.sm_bind_read.specs.bind.Roles.{Bound, binding_on, bound_members, header_names, is_among, is_taken_name, reserved_names}
use Rattle.sm_bind_read.specs.PartFaults.{bound_codec}
use Rattle.sm_bind_read.specs.Parts.{has_prefix, is_prefixed, prefixed_children, prefixed_text}
use Rattle.sm_bind_write.specs.CarriedParts.{prefixed_failing, uncarried_bound}
use Rattle.sm_bind_write.specs.WrittenParts.{entries_in, member_headers, value_of, written_headers}
use Rattle.sm_part_laws.specs.Coming.{AreCarried, ComeTo, texts_behind}
use Rattle.sm_part_laws.specs.Laws.{PrefixedRead}
use Rattle.sm_part_laws.proofs.PrefixesAgain.{value_carried}
use Rattle.sm_bind_laws.specs.FoundParts.{AreReserved, is_reserved}
use Rattle.sm_bind_laws.proofs.EachCarried.{CanBeRead, IsReady}
use Rattle.sm_bind_laws.proofs.FieldsEach.{at_most, each_map, over_only, over_through, value_held}
use Rattle.sm_bind_laws.proofs.HeadersFound.{entry_free, lower_joined, lower_twice, prefix_map}
use Rattle.sm_bind_laws.proofs.MembersRead.{StandFor}
use Rattle.sm_bind_laws.proofs.OwnParts.{header_taken, one_prefix}

-- a name that is taken isn't one of prefix headers
first_taken : (x y : Bool) → x ≡ true → not (x || y) ≡ false
first_taken true y h = refl
first_taken false y h = absurd cc

second_taken : (x y : Bool) → y ≡ true → not (x || y) ≡ false
second_taken true y h = refl
second_taken false true h = refl
second_taken false false h = absurd cc

not_taken : (x y : Bool) → x ≡ false → y ≡ false → not (x || y) ≡ true
not_taken true y h g = absurd cc
not_taken false true h g = absurd cc
not_taken false false h g = refl

middle_out : (x y z : Bool) → y ≡ false → (x && (y && z)) ≡ false
middle_out true true z h = absurd cc
middle_out true false z h = refl
middle_out false y z h = refl

all_in : (x y z : Bool) → x ≡ true → y ≡ true → z ≡ true → (x && (y && z)) ≡ true
all_in true true z h g f = f
all_in true false z h g f = absurd cc
all_in false y z h g f = absurd cc

module _ (b : Bound) (front : List ℕ) where
  abbrev of_prefix : List Field → List Field
  of_prefix fields = filter (is_prefixed b front) fields

  left_out : (f : Field) (fs : List Field) → not (is_taken_name b (str_to_ascii_lowercase f.name)) ≡ false
      → of_prefix (f ∷ fs) ≡ of_prefix fs
  left_out f fs taken =
      let name = str_to_ascii_lowercase f.name in
      ap (λ t. cond t (f ∷ of_prefix fs) (of_prefix fs))
      (middle_out (has_prefix front name) (not (is_taken_name b name)) (is_filled (joined_values (f.value ∷ []))) taken)

  none_reserved : (fs : List Field) → AreReserved fs → of_prefix fs ≡ []
  none_reserved [] h = refl
  none_reserved (f ∷ fs) h =
      left_out f fs (first_taken (is_reserved f) (is_among (header_names b) (str_to_ascii_lowercase f.name)) h.0) ∙ none_reserved fs h.1

-- a name that begins with the prefix
itself : (u : List ℕ) → pointwise nat_eq u u ≡ true
itself u = (bytes_eq-Decides u u).1 refl

begins : (front key : List ℕ) → has_prefix front (front ++ key) ≡ true
begins front key = ap (pointwise nat_eq front) (take-append_seam front key) ∙ itself front

-- a text without blanks around it is one value by itself
value_filled : (text : List ℕ) → trim_ows text ≡ text → is_filled text ≡ true → is_filled (joined_values (text ∷ [])) ≡ true
value_filled text trimmed some =
    ap (λ u. is_filled (join_with_byte comma (cond (is_filled u) (u ∷ []) []))) trimmed
    ∙ ap (λ t. is_filled (join_with_byte comma (cond t (text ∷ []) []))) some ∙ some

-- the entries of a map
module _ (pass : CarriedTextsPass) (b : Bound) (test : Test) (p : Place) (prefix : List ℕ) where
  abbrev front : List ℕ
  front = str_to_ascii_lowercase prefix

  abbrev q : Place
  q = value_place b.table p

  abbrev fields_of : EntryVals → List Field
  fields_of es = prefixed_fields b.table q front es

  each_carried : (es : EntryVals) → prefixed_failing b front q es ≡ []
      → AreCarried (λ v. here_unless (is_carried OfField b.table q v)) es
  each_carried no_entries h = tt
  each_carried (entry key v es) h =
      let parts = entry_free b front q key v es h in (ap here_unless parts.0.carried, each_carried es parts.1)

  field_kept : (key : List ℕ) (v : Val) (es : EntryVals) → FitPairs b.table test p (entry key v es)
      → prefixed_failing b front q (entry key v es) ≡ []
      → is_prefixed b front (record { name = front ++ key; value = text_at in_fields b.table q v }) ≡ true
  field_kept key v es fits h =
      let parts = entry_free b front q key v es h in
      let text = text_at in_fields b.table q v in
      let told = value_carried pass (bound_codec b test) p key v es fits (each_carried (entry key v es) h) in
      let name = front ++ key in
      ap (λ u. has_prefix front u && (not (is_taken_name b u) && is_filled (joined_values (text ∷ []))))
      (lower_joined prefix key parts.0.lower)
      ∙ all_in (has_prefix front name) (not (is_taken_name b name)) (is_filled (joined_values (text ∷ []))) (begins front key)
      (not_taken (is_among reserved_names name) (is_among (header_names b) name) parts.0.reserved parts.0.header)
      (value_filled text told.1.trim told.1.some)

  map_kept : (es : EntryVals) → FitPairs b.table test p es → prefixed_failing b front q es ≡ []
      → of_prefix b front (fields_of es) ≡ fields_of es
  map_kept no_entries fits h = refl
  map_kept (entry key v es) fits h =
      let f : Field = record { name = front ++ key; value = text_at in_fields b.table q v } in
      ap (λ t. cond t (f ∷ of_prefix b front (fields_of es)) (of_prefix b front (fields_of es))) (field_kept key v es fits h)
      ∙ ap (λ fs. f ∷ fs) (map_kept es fits.3 (entry_free b front q key v es h).1)

  texts_same : (es : EntryVals) → prefixed_failing b front q es ≡ []
      → map (prefixed_text front) (fields_of es) ≡ texts_behind front (fields_of es)
  texts_same no_entries h = refl
  texts_same (entry key v es) h =
      let parts = entry_free b front q key v es h in
      let value = joined_values (text_at in_fields b.table q v ∷ []) in
      ap (λ u. (drop (length front) u, value) ∷ map (prefixed_text front) (fields_of es)) (lower_joined prefix key parts.0.lower)
      ∙ ap (λ ts. (drop (length front) (front ++ key), value) ∷ ts) (texts_same es parts.1)

module _ (pass : CarriedTextsPass) (b : Bound) (test : Test) (labels : List (List ℕ)) (fs : FieldVals)
    (can : CanBeRead b test labels fs) where
  abbrev members : List ℕ
  members = bound_members b

  module _ (k : ℕ) (prefix : List ℕ) (there : IsAmong k members) (bound : binding_on b k ≡ Some (prefix_headers prefix)) where
    abbrev own_front : List ℕ
    own_front = str_to_ascii_lowercase prefix

    abbrev place : Place
    place = value_place b.table (member_place k)

    abbrev own_fields : EntryVals → List Field
    own_fields es = prefixed_fields b.table place own_front es

    abbrev fields_kept : ℕ → Val → List Field
    fields_kept j w = of_prefix b own_front (member_headers (binding_on b j) b.table j w)

    others_out : (j : ℕ) (w : Val) → IsAmong j members → (j ≡ k → ⊥) → (o : Option BindingData) → binding_on b j ≡ o
        → of_prefix b own_front (member_headers o b.table j w) ≡ []
    others_out j w i other (Some (header key)) e =
        let lower = str_to_ascii_lowercase key in
        left_out b own_front (record { name = lower; value = field_value b.table (member_place j) w }) []
        (ap (λ u. not (is_taken_name b u)) (lower_twice key)
        ∙ second_taken (is_among reserved_names lower) (is_among (header_names b) lower) (header_taken b test labels can.right j key i e))
    others_out j w i other (Some (prefix_headers more)) e =
        absurd (other (one_prefix b test labels can.right j k more prefix i there e bound))
    others_out j w i other o e = refl

    fit_pairs : (es : EntryVals) → Fits b.table test (member_place k) (map_val es) → FitPairs b.table test (member_place k) es
    fit_pairs es h = h.3

    own_kept : (o : Option Val) → IfSome o (IsReady b test k) → at_most (fields_kept k) o ≡ at_most (λ v. own_fields (entries_in v)) o
    own_kept None ready = refl
    own_kept (Some v) ready =
        let free = prefix_map b own_front place v (subst (λ o. uncarried_bound o b k v ≡ []) bound ready.carried) in
        ap (λ x. of_prefix b own_front (member_headers x b.table k v)) bound
        ∙ subst (λ w. of_prefix b own_front (own_fields (entries_in w)) ≡ own_fields (entries_in w)) (sym free.is_map)
        (map_kept pass b test (member_place k) prefix free.entries
        (fit_pairs free.entries (subst (Fits b.table test (member_place k)) free.is_map ready.fits)) free.none)

    pub fields_found : (before behind : List Field) → AreReserved before → AreReserved behind
        → of_prefix b own_front (before ++ (written_headers b fs ++ behind)) ≡ at_most (λ v. own_fields (entries_in v)) (value_of k fs)
    fields_found before behind first last =
        let own = written_headers b fs in
        let found = at_most (λ v. own_fields (entries_in v)) (value_of k fs) in
        let others = each_map (IsReady b test) (λ j w. (j ≡ k → ⊥) → fields_kept j w ≡ [])
        (λ j w ready other. others_out j w ready.among other (binding_on b j) refl) fs can.each in
        filter-append (is_prefixed b own_front) before (own ++ behind)
        ∙ ap (λ gs. gs ++ of_prefix b own_front (own ++ behind)) (none_reserved b own_front before first)
        ∙ filter-append (is_prefixed b own_front) own behind
        ∙ ap (λ gs. gs ++ of_prefix b own_front behind)
        (over_through (of_prefix b own_front) refl (filter-append (is_prefixed b own_front))
        (λ j. member_headers (binding_on b j) b.table j) fs
        ∙ over_only fields_kept k fs can.apart others ∙ own_kept (value_of k fs) (value_held (IsReady b test) k fs can.each))
        ∙ ap (λ gs. found ++ gs) (none_reserved b own_front behind last) ∙ append-nil found

    read_by : PrefixedRead → (o : Option Val) (fields : List Field) → fields ≡ at_most (λ v. own_fields (entries_in v)) o
        → IfSome o (IsReady b test k)
        → StandFor k o (map_or_none (bound_codec b test) (values.keyed_texts in_field (bound_codec b test)
        (map (prefixed_text own_front) fields)))
    read_by law None fields e ready =
        let c = bound_codec b test in
        ap (λ gs. map_or_none c (values.keyed_texts in_field c (map (prefixed_text own_front) gs))) e
    read_by law (Some v) fields e ready =
        let c = bound_codec b test in
        let free = prefix_map b own_front place v (subst (λ o. uncarried_bound o b k v ≡ []) bound ready.carried) in
        let es = free.entries in
        let here = ap (map (prefixed_text own_front)) (e ∙ ap (λ w. own_fields (entries_in w)) free.is_map)
        ∙ texts_same pass b test (member_place k) prefix es free.none in
        subst (λ ts. ComeTo (member_place k) v (map_or_none c (values.keyed_texts in_field c ts))) (sym here)
        (subst (λ w. ComeTo (member_place k) w (map_or_none c (values.keyed_texts in_field c (texts_behind own_front (own_fields es)))))
        (sym free.is_map)
        (law c (member_place k) own_front es (subst (Fits b.table test (member_place k)) free.is_map ready.fits) free.some
        (each_carried pass b test (member_place k) prefix es free.none)))

    pub prefixed_read : PrefixedRead → (fields before behind : List Field) → fields ≡ before ++ (written_headers b fs ++ behind)
        → AreReserved before → AreReserved behind → StandFor k (value_of k fs) (prefixed_children b (bound_codec b test) prefix fields)
    prefixed_read law fields before behind e first last =
        read_by law (value_of k fs) (of_prefix b own_front fields)
        (ap (of_prefix b own_front) e ∙ fields_found before behind first last) (value_held (IsReady b test) k fs can.each)
