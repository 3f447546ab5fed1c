-- The fields of prefix headers come to their map.
use Rattle.std.proofs.Common.{◌≡◌, ℕ, false, List, [], ◌∷◌, ◌++◌, drop, length, refl, sym, ap, subst}
use Rattle.std.specs.List.{join_with_byte}
use Rattle.sm_bytes.specs.Ascii.{comma}
use Rattle.sm_time.proofs.StampForms.{and_first}
use Rattle.sm_shapes.specs.Fitting.{FitPairs, Fits}
use Rattle.sm_shapes.specs.Places.{Place, sparse_of, value_place}
use Rattle.sm_shapes.specs.Values.{EntryVals, Val, entry, map_val, no_entries}
use Rattle.sm_codec.specs.Codec.{Codec}
use Rattle.sm_parts.specs.HeaderLists.{joined_values}
use Rattle.sm_part_values.specs.PartTexts as values
use Rattle.sm_part_values.specs.PartTexts.{in_field, map_or_none}
use Rattle.sm_part_texts.specs.CarriedTexts.{has_text_at, here_unless, is_carried, value_passes}
use Rattle.sm_part_texts.specs.Laws.{CarriedTextsPass}
use Rattle.sm_part_texts.specs.PlaceTexts.{in_fields, prefixed_fields, text_at}
use Rattle.sm_part_texts.specs.declared.carried.TextTest.TheVariants.{OfField}
use Rattle.sm_part_texts.proofs.TextsHad.{passed_here}
use Rattle.sm_part_laws.specs.Coming.{AreCarried, ComeTo, texts_behind}
use Rattle.sm_part_laws.specs.Laws.{PrefixedRead}
use Rattle.sm_part_laws.proofs.EdgedTexts.{filled_one}
use Rattle.sm_part_laws.proofs.GroupsAgain.{Texts, pairs_of}
use Rattle.sm_part_laws.proofs.HeadersAgain.{FieldCarried, field_carried}
use Rattle.sm_part_laws.proofs.LeavesAgain.{field_text}
use Rattle.sm_part_laws.proofs.ListsAgain.{entry_fits}
use Rattle.sm_part_laws.proofs.MapsAgain.{EachComes, map_again}

-- what stands behind a prefix
pub dropped : (xs ys : List ℕ) → drop (length xs) (xs ++ ys) ≡ ys
dropped [] ys = refl
dropped (x ∷ xs) ys = dropped xs ys

module _ (pass : CarriedTextsPass) (c : Codec) (p : Place) where
  abbrev q : Place
  q = value_place c.table p

  abbrev Carried : EntryVals → Type 0
  Carried es = AreCarried (λ v. here_unless (is_carried OfField c.table q v)) es

  abbrev alone : Texts
  alone v = text_at in_fields c.table q v ∷ []

  -- each value has a text that can stand in a field of its own
  pub value_carried : (key : List ℕ) (v : Val) (es : EntryVals) → FitPairs c.table c.test p (entry key v es) → Carried (entry key v es)
      → Fits c.table c.test q v × FieldCarried pass c q v
  value_carried key v es fits h =
      let carried = passed_here (is_carried OfField c.table q v) h.0 in
      let has = and_first (has_text_at in_fields c.table q v) (value_passes OfField v) carried in
      let fit = entry_fits in_fields c.table c.test q (sparse_of c.table p) v fits.2 has in
      (fit, field_carried pass c q v fit carried)

  -- so the fields are pairs of the keys with these texts
  text_stays : (v : Val) → FieldCarried pass c q v → joined_values (text_at in_fields c.table q v ∷ []) ≡ text_at in_fields c.table q v
  text_stays v h =
      let u = text_at in_fields c.table q v in
      ap (join_with_byte comma) (filled_one u u [] h.trim h.some)

  pub fields_pairs : (prefix : List ℕ) (es : EntryVals) → FitPairs c.table c.test p es → Carried es
      → texts_behind prefix (prefixed_fields c.table q prefix es) ≡ pairs_of alone es
  fields_pairs prefix no_entries fits h = refl
  fields_pairs prefix (entry key v es) fits h =
      let behind = dropped prefix key in
      let text = text_stays v (value_carried key v es fits h).1 in
      let more = fields_pairs prefix es fits.3 h.1 in
      λ i. (behind i, text i) ∷ more i

  texts_come : (es : EntryVals) → FitPairs c.table c.test p es → Carried es → EachComes false in_field c q alone es
  texts_come no_entries fits h = tt
  texts_come (entry key v es) fits h =
      let one = value_carried key v es fits h in ((refl, field_text c q v one.0 one.1.has one.1.bytes), texts_come es fits.3 h.1)

pub prefixed_again : CarriedTextsPass → PrefixedRead
prefixed_again pass c p prefix es fits has h =
    subst (λ pairs. ComeTo p (map_val es) (map_or_none c (values.keyed_texts in_field c pairs)))
    (sym (fields_pairs pass c p prefix es fits.3 h))
    (map_again false in_field c p (alone pass c p) es fits has (texts_come pass c p es fits.3 h))
