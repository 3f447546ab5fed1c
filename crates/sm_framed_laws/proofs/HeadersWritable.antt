-- The fields that restJson1 writes for members stand in a head as they are: their names are tokens, and their values have no other bytes
-- than those from a space to a tilde, and no blanks at their ends.
use Rattle.std.proofs.Common.{◌≡◌, ℕ, suc, Bool, true, false, ◌&&◌, List, [], ◌∷◌, ◌++◌, length, map, refl, sym, ap, ◌∙◌, subst}
use Rattle.std.proofs.Common.{arith}
use Rattle.std.specs.Prelude.{All, None, Option, Some, if◌then◌else◌, nat_lt, not}
use Rattle.std.specs.Char.{to_ascii_lowercase}
use Rattle.std.specs.List.{AllByRecursion, flat_map, list_all}
use Rattle.std.specs.Str.{bytes_eq, str_to_ascii_lowercase}
use Rattle.std.proofs.lemmas.Bool.Decides.{nat_tests}
use Rattle.std.proofs.lemmas.List.Elements.{All-append, All-cons, All-nil}
use Rattle.std.proofs.lemmas.Slice.Eq.{bytes_eq-Decides}
use Rattle.httparse.specs.Grammar.{IsToken, is_token, is_token_byte, trim_ows}
use Rattle.sm_bytes.specs.Ascii.{backslash, comma, quote, space}
use Rattle.sm_time.specs.declared.format.Format.{Format}
use Rattle.sm_time.specs.declared.format.Format.TheVariants.{DateTime, HttpDate, EpochSeconds}
use Rattle.sm_tree.specs.declared.path.Step.TheVariants.{Key}
use Rattle.sm_shapes.specs.Fitting.{FitEntries, FitPairs, Fits, Test}
use Rattle.sm_shapes.specs.Places.{Place, entry_place, member_place, sparse_of, value_place}
use Rattle.sm_shapes.specs.TableData.{BindingData, binding_at, label, query, query_params, header, prefix_headers, payload}
use Rattle.sm_shapes.specs.TableData.{response_code}
use Rattle.sm_shapes.specs.Values.{EntryVals, FieldVals, Val, Vals, bool_val, each_val, entry, field, int_val, list_val, no_entries}
use Rattle.sm_shapes.specs.Values.{no_fields, no_vals, text_val, time_val, val}
use Rattle.sm_codec.specs.Codec.{Codec}
use Rattle.sm_codec.specs.Written.{paths_under}
use Rattle.sm_codec.specs.declared.simple.Simple.{Simple}
use Rattle.sm_codec.specs.declared.simple.Simple.TheVariants as the
use Rattle.sm_codec.proofs.NoFaults.{none_behind, none_first}
use Rattle.sm_codec.proofs.WrittenValues.{none_of_paths}
use Rattle.sm_http.specs.declared.message.Field.{Field}
use Rattle.sm_http.specs.Written.{IsWritableField}
use Rattle.sm_parts.specs.HeaderLists.{escaped_byte, is_escaped, is_filled, needs_quotes, quoted, written_entry, written_list}
use Rattle.sm_parts.specs.Laws.{IsTrimmed}
use Rattle.sm_parts.specs.Texts.{cut_of, cut_of_format, has_written_text, is_field_byte, text_written}
use Rattle.sm_parts.specs.declared.list_entry.HeaderCut.{HeaderCut}
use Rattle.sm_parts.specs.declared.list_entry.HeaderCut.TheVariants.{Quoted, EachComma, EverySecondComma}
use Rattle.sm_part_texts.specs.CarriedTexts.{entries_failing, has_text_at, has_text_by, here_unless, is_carried, is_field_text, uncarried_field}
use Rattle.sm_part_texts.specs.CarriedTexts.{value_passes}
use Rattle.sm_part_texts.specs.Laws.{CarriedTextsPass}
use Rattle.sm_part_texts.specs.PlaceTexts.{cut_by, field_value, in_fields, prefixed_fields, simple_at, text_at, text_by}
use Rattle.sm_part_texts.specs.declared.carried.TextTest.TheVariants.{OfEntry, OfField}
use Rattle.sm_part_texts.proofs.TextsHad.{passed_here}
use Rattle.sm_part_laws.proofs.EdgedTexts.{IsEdged, edged_trim, entry_edged, list_edged, trimmed_edged}
use Rattle.sm_part_laws.proofs.HeadersAgain.{field_carried}
use Rattle.sm_part_laws.proofs.LeavesAgain.{kind_fits}
use Rattle.sm_part_laws.proofs.ListsAgain.{entries_pass, entry_fits}
use Rattle.sm_bind_laws.specs.bind.Roles.{Bound, binding_on, is_taken_name}
use Rattle.sm_bind_laws.specs.bind_write.CarriedParts.{is_prefix_key, is_prefixed_entry, prefixed_failing, uncarried_bound}
use Rattle.sm_bind_laws.specs.bind_write.WrittenParts.{entries_in, member_headers, over_fields}
use Rattle.sm_bind_laws.specs.bind_read.PartFaults.{bound_codec}
use Rattle.sm_bind_laws.proofs.EachCarried.{IsReady}
use Rattle.sm_bind_laws.proofs.FieldsEach.{EachField}
use Rattle.sm_bind_laws.proofs.HeadersFound.{prefix_map}
use Rattle.sm_bind_laws.proofs.OwnParts.{own_binding}
use Rattle.sm_framed_laws.proofs.PlainTexts.{and_left, and_right, field_values, joined, pass_all, token_is}

-- the text of an entry, by how its list is cut
abbrev EntryEdged : HeaderCut → List ℕ → Type 0
EntryEdged Quoted u = IsTrimmed u
EntryEdged EachComma u = IsEdged u
EntryEdged EverySecondComma u = IsEdged u

stamp_edged : (format : Format) (u : List ℕ) → IsEdged u → EntryEdged (cut_of_format format) u
stamp_edged DateTime u h = h
stamp_edged HttpDate u h = h
stamp_edged EpochSeconds u h = h

edged_by : (x : Simple) (v : Val) → has_written_text x v ≡ true → IsTrimmed (text_written x v)
    → (value_passes OfField v ≡ true → is_filled (text_written x v) ≡ true) → EntryEdged (cut_of x) (text_written x v)
edged_by the.Boolean (bool_val b) h trim some = trimmed_edged (text_written the.Boolean (bool_val b)) trim (some refl)
edged_by (the.Number bits) (int_val z) h trim some = trimmed_edged (text_written (the.Number bits) (int_val z)) trim (some refl)
edged_by the.Text (text_val u) h trim some = trim
edged_by (the.Time format) (time_val ms) h trim some =
    let u = text_written (the.Time format) (time_val ms) in
    stamp_edged format u (trimmed_edged u trim (some refl))
edged_by x v h trim some = absurd cc

edged_at : (o : Option Simple) (v : Val) → has_text_by o v ≡ true → IsTrimmed (text_by o v)
    → (value_passes OfField v ≡ true → is_filled (text_by o v) ≡ true) → EntryEdged (cut_by o) (text_by o v)
edged_at None v h trim some = absurd cc
edged_at (Some x) v h trim some = edged_by x v h trim some

-- entries between commas
each_entry : (us : List (List ℕ)) → AllByRecursion (EntryEdged Quoted) us → AllByRecursion (λ u. IsEdged (written_entry Quoted u)) us
each_entry [] h = tt
each_entry (u ∷ us) h = (entry_edged u h.0, each_entry us h.1)

written_edged : (cut : HeaderCut) (u : List ℕ) (us : List (List ℕ)) → AllByRecursion (EntryEdged cut) (u ∷ us)
    → IsEdged (written_list cut (u ∷ us))
written_edged Quoted u us h = list_edged (written_entry Quoted) (written_entry Quoted u) us (entry_edged u h.0) (each_entry us h.1)
written_edged EachComma u us h = list_edged (λ t. t) u us h.0 h.1
written_edged EverySecondComma u us h = list_edged (λ t. t) u us h.0 h.1

abbrev AreFieldBytes : List ℕ → Type 0
AreFieldBytes u = list_all is_field_byte u ≡ true

escaped_bytes : (u : List ℕ) → AreFieldBytes u → AreFieldBytes (flat_map escaped_byte u)
escaped_bytes [] h = refl
escaped_bytes (b ∷ u) h =
    joined is_field_byte (escaped_byte b) (flat_map escaped_byte u) (by (is_escaped b)) (escaped_bytes u (and_right (is_field_byte b) (list_all is_field_byte u) h))
  where
    by : (t : Bool) → list_all is_field_byte (if t then backslash ∷ b ∷ [] else b ∷ []) ≡ true
    by true = ap (λ t. t && true) (and_left (is_field_byte b) (list_all is_field_byte u) h)
    by false = ap (λ t. t && true) (and_left (is_field_byte b) (list_all is_field_byte u) h)

entry_bytes : (cut : HeaderCut) (u : List ℕ) → AreFieldBytes u → AreFieldBytes (written_entry cut u)
entry_bytes Quoted u h = by (needs_quotes u)
  where
    by : (t : Bool) → list_all is_field_byte (if t then quoted u else u) ≡ true
    by true = joined is_field_byte (flat_map escaped_byte u) (quote ∷ []) (escaped_bytes u h) refl
    by false = h
entry_bytes EachComma u h = h
entry_bytes EverySecondComma u h = h

behind_bytes : (cut : HeaderCut) (us : List (List ℕ)) → AllByRecursion AreFieldBytes us
    → AreFieldBytes (flat_map (λ u. comma ∷ space ∷ written_entry cut u) us)
behind_bytes cut [] h = refl
behind_bytes cut (u ∷ us) h =
    joined is_field_byte (comma ∷ space ∷ written_entry cut u) (flat_map (λ u. comma ∷ space ∷ written_entry cut u) us)
    (entry_bytes cut u h.0) (behind_bytes cut us h.1)

list_bytes : (cut : HeaderCut) (u : List ℕ) (us : List (List ℕ)) → AllByRecursion AreFieldBytes (u ∷ us)
    → AreFieldBytes (written_list cut (u ∷ us))
list_bytes cut u us h =
    joined is_field_byte (written_entry cut u) (flat_map (λ u. comma ∷ space ∷ written_entry cut u) us) (entry_bytes cut u h.0)
    (behind_bytes cut us h.1)

-- a value of a field
pub record IsFieldText (u : List ℕ) : Type 0 where
  pub bytes : list_all is_field_byte u ≡ true
  pub trim : trim_ows u ≡ u

pub text_field : (name value : List ℕ) → IsToken name → IsFieldText value → IsWritableField (record { name = name; value = value })
text_field name value token h = record { name = token; value = field_values value h.bytes; trimmed = h.trim }

both : (a b : Bool) → a ≡ true → b ≡ true → (a && b) ≡ true
both a b h g = ap (λ t. t && b) h ∙ g

module _ (pass : CarriedTextsPass) (c : Codec) (q : Place) where
  -- one entry of a list that is carried
  entry_known : (v : Val) → has_text_at in_fields c.table q v ≡ true → Fits c.table c.test q v → is_carried OfEntry c.table q v ≡ true
      → AreFieldBytes (text_at in_fields c.table q v) × EntryEdged (cut_by (simple_at in_fields c.table q)) (text_at in_fields c.table q v)
  entry_known v has fits h =
      let o = simple_at in_fields c.table q in
      let u = text_at in_fields c.table q v in
      let of = kind_fits o c.table c.test q v has fits in
      let passed = pass OfEntry c.table q v of h in
      let trim = (bytes_eq-Decides (trim_ows u) u).0 (and_right (list_all is_field_byte u) (bytes_eq (trim_ows u) u) passed) in (
        and_left (list_all is_field_byte u) (bytes_eq (trim_ows u) u) passed,
        edged_at o v has trim (λ g. and_left (is_filled u) (is_field_text u) (pass OfField c.table q v of
            (both (has_text_at in_fields c.table q v) (value_passes OfField v) has g))),
      )

module _ (pass : CarriedTextsPass) (c : Codec) (p : Place) where
  abbrev q : Place
  q = entry_place c.table p

  abbrev texts : Vals → List (List ℕ)
  texts vs = map (text_at in_fields c.table q) (each_val vs)

  entries_known : (i : ℕ) (vs : Vals) → FitEntries c.table c.test p vs → entries_failing (is_carried OfEntry c.table q) i (each_val vs) ≡ []
      → AllByRecursion AreFieldBytes (texts vs) × AllByRecursion (EntryEdged (cut_by (simple_at in_fields c.table q))) (texts vs)
  entries_known i no_vals fits h = (tt, tt)
  entries_known i (val v vs) fits h =
      let step = entries_pass (is_carried OfEntry c.table q) i v (each_val vs) h in
      let has = and_left (has_text_at in_fields c.table q v) (value_passes OfEntry v) step.0 in
      let one = entry_known pass c q v has (entry_fits in_fields c.table c.test q (sparse_of c.table p) v fits.0 has) step.0 in
      let more = entries_known (suc i) vs fits.1 step.1 in
      ((one.0, more.0), (one.1, more.1))

  list_field : (vs : Vals) → FitEntries c.table c.test p vs → uncarried_field c.table p (list_val vs) ≡ []
      → IsFieldText (field_value c.table p (list_val vs))
  list_field no_vals fits h = absurd cc
  list_field (val v vs) fits h =
      let known = entries_known 0 (val v vs) fits h in
      let cut = cut_by (simple_at in_fields c.table q) in
      let u = text_at in_fields c.table q v in
      record {
        bytes = list_bytes cut u (texts vs) known.0;
        trim = edged_trim (written_list cut (u ∷ texts vs)) (written_edged cut u (texts vs) known.1);
      }

  one_field : (v : Val) → Fits c.table c.test p v → here_unless (is_carried OfField c.table p v) ≡ []
      → IsFieldText (text_at in_fields c.table p v)
  one_field v fits h =
      let carried = field_carried pass c p v fits (passed_here (is_carried OfField c.table p v) h) in
      record { bytes = carried.bytes; trim = carried.trim }

  pub value_field : (v : Val) → Fits c.table c.test p v → uncarried_field c.table p v ≡ [] → IsFieldText (field_value c.table p v)
  value_field (list_val vs) fits h = list_field vs fits.3 h
  value_field v fits h = one_field v fits h

-- names in lower case
lower_token_byte : (c : ℕ) → is_token_byte c ≡ true → is_token_byte (to_ascii_lowercase c) ≡ true
unfolding is_token_byte
lower_token_byte c h = grind (arith, nat_tests)

lower_bytes : (u : List ℕ) → list_all is_token_byte u ≡ true → list_all is_token_byte (str_to_ascii_lowercase u) ≡ true
lower_bytes [] h = refl
lower_bytes (c ∷ u) h =
    ap (λ t. t && list_all is_token_byte (str_to_ascii_lowercase u)) (lower_token_byte c (and_left (is_token_byte c) (list_all is_token_byte u) h))
    ∙ lower_bytes u (and_right (is_token_byte c) (list_all is_token_byte u) h)

lower_token : (u : List ℕ) → is_token u ≡ true → IsToken (str_to_ascii_lowercase u)
lower_token [] h = absurd cc
lower_token (c ∷ u) h =
    let bytes = and_right (nat_lt 0 (length (c ∷ u))) (list_all is_token_byte (c ∷ u)) h in
    (omega arith, pass_all is_token_byte is_token_byte (λ b e. e) (str_to_ascii_lowercase (c ∷ u)) (lower_bytes (c ∷ u) bytes))

module _ (pass : CarriedTextsPass) (b : Bound) (test : Test)
    (tokens : (k : ℕ) (name : List ℕ) → binding_at b.table k ≡ Some (header name) → is_token name ≡ true) where
  entries_writable : (front : List ℕ) (p : Place) (es : EntryVals) → FitPairs b.table test p es
      → prefixed_failing b front (value_place b.table p) es ≡ [] → All IsWritableField (prefixed_fields b.table (value_place b.table p) front es)
  entries_writable front p no_entries fits h = All-nil IsWritableField
  entries_writable front p (entry key v es) fits h =
      let place = value_place b.table p in
      let passed = is_prefixed_entry b front place key v in
      let own = here_unless passed in
      let here = paths_under (Key key) own in
      let rest = prefixed_failing b front place es in
      let told = passed_here passed (none_of_paths (Key key) own (none_first here rest h)) in
      let named = and_left (is_prefix_key b front key) (is_carried OfField b.table place v) told in
      let carried = and_right (is_prefix_key b front key) (is_carried OfField b.table place v) told in
      let behind = and_right (bytes_eq (str_to_ascii_lowercase key) key) (is_token (front ++ key) && not (is_taken_name b (front ++ key))) named in
      let token = and_left (is_token (front ++ key)) (not (is_taken_name b (front ++ key))) behind in
      let has = and_left (has_text_at in_fields b.table place v) (value_passes OfField v) carried in
      let text = field_carried pass (bound_codec b test) place v (entry_fits in_fields b.table test place (sparse_of b.table p) v fits.2 has) carried in
      All-cons IsWritableField (record { name = front ++ key; value = text_at in_fields b.table place v }) (prefixed_fields b.table place front es)
      (text_field (front ++ key) (text_at in_fields b.table place v) (token_is (front ++ key) token)
      (record { bytes = text.bytes; trim = text.trim }))
      (entries_writable front p es fits.3 (none_behind here rest h))

  prefix_writable : (k : ℕ) (prefix : List ℕ) (v : Val) → Fits b.table test (member_place k) v
      → uncarried_bound (Some (prefix_headers prefix)) b k v ≡ []
      → All IsWritableField (member_headers (Some (prefix_headers prefix)) b.table k v)
  prefix_writable k prefix v fits h =
      let p = value_place b.table (member_place k) in
      let front = str_to_ascii_lowercase prefix in
      let m = prefix_map b front p v h in
      subst (λ w. All IsWritableField (prefixed_fields b.table p front (entries_in w))) (sym m.is_map)
      (entries_writable front (member_place k) m.entries (subst (Fits b.table test (member_place k)) m.is_map fits).3 m.none)

  member_writable : (k : ℕ) (v : Val) → Fits b.table test (member_place k) v → (o : Option BindingData) → binding_on b k ≡ o
      → uncarried_bound o b k v ≡ [] → All IsWritableField (member_headers o b.table k v)
  member_writable k v fits None e h = All-nil IsWritableField
  member_writable k v fits (Some label) e h = All-nil IsWritableField
  member_writable k v fits (Some (query name)) e h = All-nil IsWritableField
  member_writable k v fits (Some query_params) e h = All-nil IsWritableField
  member_writable k v fits (Some (header name)) e h =
      let f : Field = record { name = str_to_ascii_lowercase name; value = field_value b.table (member_place k) v } in
      All-cons IsWritableField f []
      (text_field f.name f.value (lower_token name (tokens k name (own_binding b.side (binding_at b.table k) (header name) e)))
      (value_field pass (bound_codec b test) (member_place k) v fits h)) (All-nil IsWritableField)
  member_writable k v fits (Some (prefix_headers prefix)) e h = prefix_writable k prefix v fits h
  member_writable k v fits (Some payload) e h = All-nil IsWritableField
  member_writable k v fits (Some response_code) e h = All-nil IsWritableField

  pub headers_writable : (fs : FieldVals) → EachField (IsReady b test) fs
      → All IsWritableField (over_fields (λ k v. member_headers (binding_on b k) b.table k v) fs)
  headers_writable no_fields ready = All-nil IsWritableField
  headers_writable (field k v fs) ready =
      All-append IsWritableField (member_headers (binding_on b k) b.table k v)
      (over_fields (λ k v. member_headers (binding_on b k) b.table k v) fs)
      (member_writable k v ready.0.fits (binding_on b k) refl ready.0.carried) (headers_writable fs ready.1)
