-- The field of a header comes to its value.
use Rattle.std.proofs.Common.{◌≡◌, ℕ, ℤ, suc, ◌/◌, Bool, true, ◌&&◌, List, [], ◌∷◌, map, refl, sym, ap, ◌∙◌, subst}
use Rattle.std.specs.Prelude.{None, Ok, Option, Some}
use Rattle.std.specs.List.{AllByRecursion, list_all}
use Rattle.std.specs.Str.{bytes_eq}
use Rattle.std.proofs.lemmas.Slice.Eq.{bytes_eq-Decides}
use Rattle.httparse.specs.Grammar.{trim_ows}
use Rattle.sm_time.specs.declared.format.Format.{Format}
use Rattle.sm_time.specs.declared.format.Format.TheVariants.{DateTime, HttpDate, EpochSeconds}
use Rattle.sm_time.specs.Civil.{civil_of}
use Rattle.sm_time.specs.Written.{since_year_0}
use Rattle.sm_time.proofs.StampForms.{and_first, and_second, stamp_decides}
use Rattle.sm_shapes.specs.Fitting.{FitEntries, Fits, IsOfKind}
use Rattle.sm_shapes.specs.Places.{Place, entry_place, kind_of, member_place, sparse_of}
use Rattle.sm_shapes.specs.Values.{Val, Vals, bool_val, each_val, int_val, list_val, no_vals, text_val, time_val, val}
use Rattle.sm_shapes.specs.declared.kinds.ShapeKind.{ShapeKind}
use Rattle.sm_codec.specs.Codec.{Codec}
use Rattle.sm_codec.specs.Readings.{list_reading}
use Rattle.sm_codec.specs.Sorts.{Sort, a_list, a_map, a_structure, a_union, left_out, simple, simple_in}
use Rattle.sm_codec.specs.declared.simple.Simple.{Simple}
use Rattle.sm_codec.specs.declared.simple.Simple.TheVariants as the
use Rattle.sm_parts.specs.HeaderLists.{filled, is_filled}
use Rattle.sm_parts.specs.Laws.{WrittenTextsRead}
use Rattle.sm_parts.specs.Texts.{has_written_text, is_field_byte, text_written}
use Rattle.sm_part_values.specs.PartTexts as values
use Rattle.sm_part_values.specs.PartTexts.{entry_child, fields_by, in_field, is_list, is_list_at, text_sort}
use Rattle.sm_part_values.proofs.EntriesJoined.{texts_entries}
use Rattle.sm_parts.specs.HeaderLists.{entries_of}
use Rattle.sm_part_texts.specs.CarriedTexts.{entries_failing, has_text_at, has_text_by, here_unless, is_carried, is_field_text}
use Rattle.sm_part_texts.specs.CarriedTexts.{uncarried_field, value_passes}
use Rattle.sm_part_texts.specs.Laws.{CarriedTextsPass}
use Rattle.sm_part_texts.specs.PlaceTexts.{cut_by, field_value, in_fields, list_text, simple_at, text_at, text_by}
use Rattle.sm_part_texts.specs.declared.carried.TextTest.TheVariants.{OfEntry, OfField}
use Rattle.sm_part_texts.proofs.TextsHad.{passed_here}
use Rattle.sm_part_laws.specs.Coming.{ComeTo}
use Rattle.sm_part_laws.specs.Laws.{HeaderRead}
use Rattle.sm_part_laws.proofs.CommaFree.{date_comma, number_other, stamp_other, truth_other}
use Rattle.sm_part_laws.proofs.CommaLists.{EntryStands, list_entries, written_edged}
use Rattle.sm_part_laws.proofs.EdgedTexts.{IsEdged, edged_filled, edged_trim, filled_one, trimmed_edged}
use Rattle.sm_part_laws.proofs.LeavesAgain.{field_text, kind_fits}
use Rattle.sm_part_laws.proofs.ListsAgain.{AreRead, entries_pass, entry_fits, list_again}
use Rattle.sm_part_laws.proofs.QueriesAgain.{no_list}
use Rattle.sm_part_laws.proofs.TextsAgain.{stamp_writable, stamp_written, whole_fits}

both : (a b : Bool) → a ≡ true → b ≡ true → (a && b) ≡ true
both a b h g = ap (λ t. t && b) h ∙ g

-- where a text isn't text itself, it isn't empty either and has no comma but that of an http-date
stamp_stands : (format : Format) (ms : ℤ) → IsEdged (text_written (the.Time format) (time_val ms))
    → has_written_text (the.Time format) (time_val ms) ≡ true
    → EntryStands (cut_by (Some (the.Time format))) (text_written (the.Time format) (time_val ms))
stamp_stands DateTime ms edged h = (
  edged,
  stamp_other DateTime ms tt ((stamp_decides ms).0 (stamp_written DateTime ms h)) (stamp_writable DateTime ms h),
)
stamp_stands HttpDate ms edged h = (edged, date_comma (civil_of (since_year_0 ms / 1000)))
stamp_stands EpochSeconds ms edged h = (
  edged,
  stamp_other EpochSeconds ms tt ((stamp_decides ms).0 (stamp_written EpochSeconds ms h)) (stamp_writable EpochSeconds ms h),
)

stands_by : (x : Simple) (k : ShapeKind) (v : Val) → IsOfKind k v → has_written_text x v ≡ true
    → trim_ows (text_written x v) ≡ text_written x v → (value_passes OfField v ≡ true → is_filled (text_written x v) ≡ true)
    → EntryStands (cut_by (Some x)) (text_written x v)
stands_by the.Boolean k (bool_val b) of h trim some = (trimmed_edged (text_written the.Boolean (bool_val b)) trim (some refl), truth_other b)
stands_by (the.Number bits) k (int_val z) of h trim some =
    (trimmed_edged (text_written (the.Number bits) (int_val z)) trim (some refl), number_other z (whole_fits k z of))
stands_by the.Text k (text_val u) of h trim some = trim
stands_by (the.Time format) k (time_val ms) of h trim some =
    stamp_stands format ms (trimmed_edged (text_written (the.Time format) (time_val ms)) trim (some refl)) h
stands_by x k v of h trim some = absurd cc

stands_at : (o : Option Simple) (k : ShapeKind) (v : Val) → IsOfKind k v → has_text_by o v ≡ true → trim_ows (text_by o v) ≡ text_by o v
    → (value_passes OfField v ≡ true → is_filled (text_by o v) ≡ true) → EntryStands (cut_by o) (text_by o v)
stands_at None k v of h trim some = absurd cc
stands_at (Some x) k v of h trim some = stands_by x k v of h trim some

-- the cut of a list is that of what is written
cuts_same : (s : Sort) → values.cut_by s ≡ cut_by (simple_in s)
cuts_same (simple x) = refl
cuts_same a_list = refl
cuts_same a_map = refl
cuts_same a_structure = refl
cuts_same a_union = refl
cuts_same left_out = refl

module _ (pass : CarriedTextsPass) (c : Codec) (q : Place) where
  -- what is carried in a list, and by itself
  pub record EntryCarried (v : Val) : Type 0 where
    pub has : has_text_at in_fields c.table q v ≡ true
    pub fits : Fits c.table c.test q v
    pub bytes : list_all is_field_byte (text_at in_fields c.table q v) ≡ true
    pub stands : EntryStands (cut_by (simple_at in_fields c.table q)) (text_at in_fields c.table q v)

  entry_carried : (v : Val) → has_text_at in_fields c.table q v ≡ true → Fits c.table c.test q v → is_carried OfEntry c.table q v ≡ true
      → EntryCarried v
  entry_carried v has fits h =
      let o = simple_at in_fields c.table q in
      let u = text_at in_fields c.table q v in
      let of = kind_fits o c.table c.test q v has fits in
      let passed = pass OfEntry c.table q v of h in
      let trim = (bytes_eq-Decides (trim_ows u) u).0 (and_second (list_all is_field_byte u) (bytes_eq (trim_ows u) u) passed) in
      let some = λ (g : value_passes OfField v ≡ true). and_first (is_filled u) (is_field_text u) (pass OfField c.table q v of
      (both (has_text_at in_fields c.table q v) (value_passes OfField v) has g)) in
      record {
        has = has;
        fits = fits;
        bytes = and_first (list_all is_field_byte u) (bytes_eq (trim_ows u) u) passed;
        stands = stands_at o (kind_of c.table q) v of has trim some;
      }

  pub record FieldCarried (v : Val) : Type 0 where
    pub has : has_text_at in_fields c.table q v ≡ true
    pub bytes : list_all is_field_byte (text_at in_fields c.table q v) ≡ true
    pub trim : trim_ows (text_at in_fields c.table q v) ≡ text_at in_fields c.table q v
    pub some : is_filled (text_at in_fields c.table q v) ≡ true

  pub field_carried : (v : Val) → Fits c.table c.test q v → is_carried OfField c.table q v ≡ true → FieldCarried v
  field_carried v fits h =
      let u = text_at in_fields c.table q v in
      let has = and_first (has_text_at in_fields c.table q v) (value_passes OfField v) h in
      let passed = pass OfField c.table q v (kind_fits (simple_at in_fields c.table q) c.table c.test q v has fits) h in
      let text = and_second (is_filled u) (is_field_text u) passed in
      record {
        has = has;
        bytes = and_first (list_all is_field_byte u) (bytes_eq (trim_ows u) u) text;
        trim = (bytes_eq-Decides (trim_ows u) u).0 (and_second (list_all is_field_byte u) (bytes_eq (trim_ows u) u) text);
        some = and_first (is_filled u) (is_field_text u) passed;
      }

-- the entries of a list
module _ (pass : CarriedTextsPass) (c : Codec) (p : Place) where
  abbrev q : Place
  q = entry_place c.table p

  abbrev texts : Vals → List (List ℕ)
  texts vs = map (text_at in_fields c.table q) (each_val vs)

  one_carried : (v : Val) (i : ℕ) (vs : Vals) → FitEntries c.table c.test p (val v vs)
      → entries_failing (is_carried OfEntry c.table q) i (v ∷ each_val vs) ≡ [] → EntryCarried pass c q v
  one_carried v i vs fits h =
      let carried = (entries_pass (is_carried OfEntry c.table q) i v (each_val vs) h).0 in
      let has = and_first (has_text_at in_fields c.table q v) (value_passes OfEntry v) carried in
      entry_carried pass c q v has (entry_fits in_fields c.table c.test q (sparse_of c.table p) v fits.0 has) carried

  more_carried : (v : Val) (i : ℕ) (vs : Vals) → entries_failing (is_carried OfEntry c.table q) i (v ∷ each_val vs) ≡ []
      → entries_failing (is_carried OfEntry c.table q) (suc i) (each_val vs) ≡ []
  more_carried v i vs h = (entries_pass (is_carried OfEntry c.table q) i v (each_val vs) h).1

  entries_read : (i : ℕ) (vs : Vals) → FitEntries c.table c.test p vs → entries_failing (is_carried OfEntry c.table q) i (each_val vs) ≡ []
      → AreRead in_field c q (each_val vs) (texts vs)
  entries_read i no_vals fits h = tt
  entries_read i (val v vs) fits h =
      let one = one_carried v i vs fits h in
      (field_text c q v one.fits one.has one.bytes, entries_read (suc i) vs fits.1 (more_carried v i vs h))

  entries_stand : (i : ℕ) (vs : Vals) → FitEntries c.table c.test p vs → entries_failing (is_carried OfEntry c.table q) i (each_val vs) ≡ []
      → AllByRecursion (EntryStands (cut_by (simple_at in_fields c.table q))) (texts vs)
  entries_stand i no_vals fits h = tt
  entries_stand i (val v vs) fits h = ((one_carried v i vs fits h).stands, entries_stand (suc i) vs fits.1 (more_carried v i vs h))

  list_read : WrittenTextsRead → (v : Val) (vs : Vals) → Fits c.table c.test p (list_val (val v vs))
      → entries_failing (is_carried OfEntry c.table q) 0 (v ∷ each_val vs) ≡ []
      → list_reading c p (map (entry_child in_field c)
      (entries_of (values.cut_by (text_sort in_field c.table q)) (list_text c.table q (each_val (val v vs))))) ≡ Ok (list_val (val v vs))
  list_read quoted v vs fits h =
      let u = list_text c.table q (each_val (val v vs)) in
      let cut = cut_by (simple_at in_fields c.table q) in
      ap (λ x. list_reading c p (map (entry_child in_field c) (entries_of x u))) (cuts_same (text_sort in_field c.table q))
      ∙ ap (λ es. list_reading c p (map (entry_child in_field c) es))
      (list_entries quoted cut (text_at in_fields c.table q v) (texts vs) (entries_stand 0 (val v vs) fits.3 h))
      ∙ ap (list_reading c p) (texts_entries in_field c (texts (val v vs)))
      ∙ list_again in_field c p (val v vs) (texts (val v vs)) fits (entries_read 0 (val v vs) fits.3 h)

  list_stays : (v : Val) (vs : Vals) → FitEntries c.table c.test p (val v vs)
      → entries_failing (is_carried OfEntry c.table q) 0 (v ∷ each_val vs) ≡ []
      → filled (list_text c.table q (each_val (val v vs)) ∷ []) ≡ list_text c.table q (each_val (val v vs)) ∷ []
  list_stays v vs fits h =
      let u = list_text c.table q (each_val (val v vs)) in
      let edged = written_edged (cut_by (simple_at in_fields c.table q)) (text_at in_fields c.table q v) (texts vs)
      (entries_stand 0 (val v vs) fits h) in
      filled_one u u [] (edged_trim u edged) (edged_filled u edged)

module _ (quoted : WrittenTextsRead) (pass : CarriedTextsPass) (c : Codec) (k : ℕ) where
  abbrev p : Place
  p = member_place k

  list_field : (vs : Vals) → Fits c.table c.test p (list_val vs) → uncarried_field c.table p (list_val vs) ≡ []
      → ComeTo p (list_val vs) (fields_by true c k (filled (field_value c.table p (list_val vs) ∷ [])))
  list_field no_vals fits h = absurd cc
  list_field (val v vs) fits h =
      subst (λ us. ComeTo p (list_val (val v vs)) (fields_by true c k us)) (sym (list_stays pass c p v vs fits.3 h))
      (refl, list_read pass c p quoted v vs fits h)

  one_field : (v : Val) → Fits c.table c.test p v → here_unless (is_carried OfField c.table p v) ≡ []
      → ComeTo p v (fields_by (is_list_at c p) c k (filled (text_at in_fields c.table p v ∷ [])))
  one_field v fits h =
      let u = text_at in_fields c.table p v in
      let carried = field_carried pass c p v fits (passed_here (is_carried OfField c.table p v) h) in
      subst (λ us. ComeTo p v (fields_by (is_list_at c p) c k us)) (sym (filled_one u u [] carried.trim carried.some))
      (subst (λ lists. ComeTo p v (fields_by lists c k (u ∷ []))) (sym (no_list in_fields c.table p v carried.has))
      (refl, field_text c p v fits carried.has carried.bytes))

pub header_again : WrittenTextsRead → CarriedTextsPass → HeaderRead
header_again quoted pass c k (list_val vs) fits h =
    subst (λ lists. ComeTo (member_place k) (list_val vs) (fields_by lists c k
    (filled (field_value c.table (member_place k) (list_val vs) ∷ []))))
    (sym (ap is_list fits.0)) (list_field quoted pass c k vs fits h)
header_again quoted pass c k v fits h = one_field quoted pass c k v fits h
