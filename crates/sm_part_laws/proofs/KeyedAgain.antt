-- The pairs of a query map come to the map.
use Rattle.std.proofs.Common.{◌≡◌, Bool, [], ◌++◌, refl, ap, subst}
use Rattle.sm_shapes.specs.Fitting.{FitPairs, Fits, FitsOrNull, Test}
use Rattle.sm_shapes.specs.Places.{Place, sparse_of, value_place}
use Rattle.sm_shapes.specs.TableData.{TableData}
use Rattle.sm_shapes.specs.Values.{EntryVals, Val, entry, map_val, no_entries, null_val}
use Rattle.sm_time.proofs.StampForms.{and_first}
use Rattle.sm_codec.specs.Codec.{Codec}
use Rattle.sm_part_values.specs.PartTexts.{in_target, is_list_at, keyed_by, map_or_none}
use Rattle.sm_part_texts.specs.CarriedTexts.{has_text_at, is_carried, uncarried_query, value_passes}
use Rattle.sm_part_texts.specs.PlaceTexts.{in_targets, keyed_texts, pairs_under, simple_at, texts_at}
use Rattle.sm_part_texts.specs.declared.carried.TextTest.TheVariants.{OfQuery}
use Rattle.sm_part_texts.proofs.TextsHad.{passed_here}
use Rattle.sm_part_laws.specs.Coming.{AreCarried, ComeTo}
use Rattle.sm_part_laws.specs.Laws.{QueryMapRead}
use Rattle.sm_part_laws.proofs.GroupsAgain.{pairs_of}
use Rattle.sm_part_laws.proofs.LeavesAgain.{null_untold}
use Rattle.sm_part_laws.proofs.MapsAgain.{EachComes, map_again}
use Rattle.sm_part_laws.proofs.QueriesAgain.{query_again}

pub keyed_pairs : (t : TableData) (q : Place) (es : EntryVals) → pairs_of (texts_at in_targets t q) es ≡ keyed_texts t q es
keyed_pairs t q no_entries = refl
keyed_pairs t q (entry key v es) = ap (λ pairs. pairs_under key (texts_at in_targets t q v) ++ pairs) (keyed_pairs t q es)

-- null isn't carried, so the values fit
value_fits : (t : TableData) (test : Test) (q : Place) (sparse : Bool) (v : Val) → FitsOrNull sparse (Fits t test q v) v
    → uncarried_query t q v ≡ [] → Fits t test q v
value_fits t test q sparse null_val h none =
    absurd (null_untold (simple_at in_targets t q)
    (and_first (has_text_at in_targets t q null_val) (value_passes OfQuery null_val) (passed_here (is_carried OfQuery t q null_val) none)))
value_fits t test q sparse v h none = h

values_again : (c : Codec) (p : Place) (es : EntryVals) → FitPairs c.table c.test p es
    → AreCarried (uncarried_query c.table (value_place c.table p)) es
    → EachComes (is_list_at c (value_place c.table p)) in_target c (value_place c.table p)
    (texts_at in_targets c.table (value_place c.table p)) es
values_again c p no_entries fits h = tt
values_again c p (entry key v es) fits h =
    let q = value_place c.table p in
    (query_again c q v (value_fits c.table c.test q (sparse_of c.table p) v fits.2 h.0) h.0, values_again c p es fits.3 h.1)

pub query_map_again : QueryMapRead
query_map_again c p es fits has h =
    let q = value_place c.table p in
    subst (λ pairs. ComeTo p (map_val es) (map_or_none c (keyed_by (is_list_at c q) in_target c pairs))) (keyed_pairs c.table q es)
    (map_again (is_list_at c q) in_target c p (texts_at in_targets c.table q) es fits has (values_again c p es fits.3 h))
