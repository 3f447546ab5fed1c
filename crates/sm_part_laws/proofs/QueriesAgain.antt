-- The texts of a label and of a query member come to their value.
use Rattle.std.proofs.Common.{◌≡◌, ℕ, suc, true, false, [], ◌∷◌, map, refl, sym, ap, subst}
use Rattle.std.specs.Prelude.{Option}
use Rattle.sm_time.specs.declared.format.Format.{Format}
use Rattle.sm_time.proofs.StampForms.{and_first}
use Rattle.sm_shapes.specs.Fitting.{FitEntries, Fits}
use Rattle.sm_shapes.specs.Places.{Place, entry_place, format_of, kind_of, sparse_of}
use Rattle.sm_shapes.specs.TableData.{TableData}
use Rattle.sm_shapes.specs.Values.{Val, Vals, each_val, list_val, no_vals}
use Rattle.sm_shapes.specs.Values.{val}
use Rattle.sm_shapes.specs.declared.kinds.ShapeKind.{ShapeKind}
use Rattle.sm_shapes.specs.declared.kinds.ShapeKind.TheVariants as kind
use Rattle.sm_codec.specs.Codec.{Codec}
use Rattle.sm_codec.specs.Sorts.{simple_in, sort_with}
use Rattle.sm_part_values.specs.PartTexts as values
use Rattle.sm_part_values.specs.PartTexts.{in_target, is_list, is_list_at, text_child}
use Rattle.sm_part_texts.specs.CarriedTexts.{entries_failing, has_text_at, has_text_by, here_unless, is_carried, uncarried_query, value_passes}
use Rattle.sm_part_texts.specs.PlaceTexts.{in_targets, text_at, texts_at}
use Rattle.sm_part_texts.specs.declared.carried.TextTest.TheVariants.{OfLabel, OfQuery}
use Rattle.sm_part_texts.proofs.TextsHad.{passed_here}
use Rattle.sm_part_laws.specs.Coming.{ComeTo}
use Rattle.sm_part_laws.specs.Laws.{LabelRead, QueryRead}
use Rattle.sm_part_laws.proofs.LeavesAgain.{target_text}
use Rattle.sm_part_laws.proofs.ListsAgain.{AreRead, entries_pass, entry_fits, list_again}

-- a place of a value that has a text is no place of lists
no_list_by : (usual : Format) (k : ShapeKind) (format : Option Format) (v : Val)
    → has_text_by (simple_in (sort_with usual k format)) v ≡ true → is_list k ≡ false
no_list_by usual kind.List format v h = absurd cc
no_list_by usual k format v h = refl

pub no_list : (usual : Format) (t : TableData) (p : Place) (v : Val) → has_text_at usual t p v ≡ true → is_list (kind_of t p) ≡ false
no_list usual t p v h = no_list_by usual (kind_of t p) (format_of t p) v h

pub label_again : LabelRead
label_again c p v fits h = (refl, target_text c p v fits (and_first (has_text_at in_targets c.table p v) (value_passes OfLabel v) h))

-- the texts of a list, one by one
entries_again : (c : Codec) (p : Place) (i : ℕ) (vs : Vals) → FitEntries c.table c.test p vs
    → entries_failing (is_carried OfQuery c.table (entry_place c.table p)) i (each_val vs) ≡ []
    → AreRead in_target c (entry_place c.table p) (each_val vs) (map (text_at in_targets c.table (entry_place c.table p)) (each_val vs))
entries_again c p i no_vals fits h = tt
entries_again c p i (val v vs) fits h =
    let q = entry_place c.table p in
    let one = entries_pass (is_carried OfQuery c.table q) i v (each_val vs) h in
    let has = and_first (has_text_at in_targets c.table q v) (value_passes OfQuery v) one.0 in (
      target_text c q v (entry_fits in_targets c.table c.test q (sparse_of c.table p) v fits.0 has) has,
      entries_again c p (suc i) vs fits.1 one.1,
    )

list_texts : (c : Codec) (p : Place) (vs : Vals) → Fits c.table c.test p (list_val vs) → uncarried_query c.table p (list_val vs) ≡ []
    → ComeTo p (list_val vs) (values.texts_by true in_target c (texts_at in_targets c.table p (list_val vs)))
list_texts c p no_vals fits h = absurd cc
list_texts c p (val v vs) fits h =
    let q = entry_place c.table p in
    let us = map (text_at in_targets c.table q) (each_val (val v vs)) in
    (refl, list_again in_target c p (val v vs) us fits (entries_again c p 0 (val v vs) fits.3 h))

-- a value by itself
alone : (c : Codec) (p : Place) (v : Val) → Fits c.table c.test p v → here_unless (is_carried OfQuery c.table p v) ≡ []
    → ComeTo p v (values.texts_by (is_list_at c p) in_target c (text_at in_targets c.table p v ∷ []))
alone c p v fits h =
    let has = and_first (has_text_at in_targets c.table p v) (value_passes OfQuery v) (passed_here (is_carried OfQuery c.table p v) h) in
    subst (λ lists. ComeTo p v (values.texts_by lists in_target c (text_at in_targets c.table p v ∷ [])))
    (sym (no_list in_targets c.table p v has)) (refl, target_text c p v fits has)

pub query_again : QueryRead
query_again c p (list_val vs) fits h =
    subst (λ lists. ComeTo p (list_val vs) (values.texts_by lists in_target c (texts_at in_targets c.table p (list_val vs))))
    (sym (ap is_list fits.0)) (list_texts c p vs fits h)
query_again c p v fits h = alone c p v fits h
