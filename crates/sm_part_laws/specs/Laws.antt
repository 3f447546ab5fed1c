-- The laws: what is written for a value at a part of a message is read again as that value. A value fits its place, whatever the patterns
-- find, and is carried there. Of a codec its table and its test alone count.
use Rattle.std.specs.Prelude.{◌≡◌, ℕ, ℤ, pos, true, List, [], ◌∷◌, Ok, int_le, unsigned_abs}
use Rattle.sm_shapes.specs.Fitting.{Fits}
use Rattle.sm_shapes.specs.Places.{Place, kind_of, member_place, value_place}
use Rattle.sm_shapes.specs.Values.{EntryVals, Val, blob_val, int_val, map_val, text_val}
use Rattle.sm_codec.specs.Codec.{Codec}
use Rattle.sm_codec.specs.Readings.{leaf_reading}
use Rattle.sm_parts.specs.HeaderLists.{filled}
use Rattle.sm_parts.specs.Texts.{number_read}
use Rattle.sm_part_values.specs.PartTexts as values
use Rattle.sm_part_values.specs.PartTexts.{fields_by, in_field, in_target, is_list_at, keyed_by, map_or_none, raw_by, text_child, texts_by}
use Rattle.sm_part_texts.specs.CarriedTexts.{here_unless, is_carried, uncarried_field, uncarried_query}
use Rattle.sm_part_texts.specs.PlaceTexts.{field_value, in_targets, keyed_texts, prefixed_fields, text_at, texts_at}
use Rattle.sm_part_texts.specs.declared.carried.TextTest.TheVariants.{OfField, OfLabel}
use Rattle.sm_part_laws.specs.Coming.{AreCarried, ComeTo, HasEntries, texts_behind}

-- a label
abbrev pub LabelRead : Type 0
LabelRead =
    (c : Codec) (p : Place) (v : Val) → Fits c.table c.test p v → is_carried OfLabel c.table p v ≡ true
    → ComeTo p v (text_child in_target c (text_at in_targets c.table p v) ∷ [])

-- a member of a query, by the values of the pairs under its key
abbrev pub QueryRead : Type 0
QueryRead =
    (c : Codec) (p : Place) (v : Val) → Fits c.table c.test p v → uncarried_query c.table p v ≡ []
    → ComeTo p v (texts_by (is_list_at c p) in_target c (texts_at in_targets c.table p v))

-- the map of a query, by its own pairs
abbrev pub QueryMapRead : Type 0
QueryMapRead =
    (c : Codec) (p : Place) (es : EntryVals) → Fits c.table c.test p (map_val es) → HasEntries es
    → AreCarried (uncarried_query c.table (value_place c.table p)) es
    → ComeTo p (map_val es)
    (map_or_none c (keyed_by (is_list_at c (value_place c.table p)) in_target c (keyed_texts c.table (value_place c.table p) es)))

-- a header, by its one field
abbrev pub HeaderRead : Type 0
HeaderRead =
    (c : Codec) (k : ℕ) (v : Val) → Fits c.table c.test (member_place k) v → uncarried_field c.table (member_place k) v ≡ []
    → ComeTo (member_place k) v
    (fields_by (is_list_at c (member_place k)) c k (filled (field_value c.table (member_place k) v ∷ [])))

-- prefix headers, by their own fields
abbrev pub PrefixedRead : Type 0
PrefixedRead =
    (c : Codec) (p : Place) (prefix : List ℕ) (es : EntryVals) → Fits c.table c.test p (map_val es) → HasEntries es
    → AreCarried (λ v. here_unless (is_carried OfField c.table (value_place c.table p) v)) es
    → ComeTo p (map_val es)
    (map_or_none c (values.keyed_texts in_field c (texts_behind prefix (prefixed_fields c.table (value_place c.table p) prefix es))))

-- a payload of bytes
abbrev pub RawBlobRead : Type 0
RawBlobRead =
    (c : Codec) (p : Place) (u : List ℕ) → Fits c.table c.test p (blob_val u) → raw_by (kind_of c.table p) c p u ≡ Ok (blob_val u)

abbrev pub RawTextRead : Type 0
RawTextRead =
    (c : Codec) (p : Place) (u : List ℕ) → Fits c.table c.test p (text_val u) → raw_by (kind_of c.table p) c p u ≡ Ok (text_val u)

-- a status, which is one of success
abbrev pub StatusRead : Type 0
StatusRead =
    (c : Codec) (p : Place) (z : ℤ) → Fits c.table c.test p (int_val z) → int_le (pos 200) z ≡ true → int_le z (pos 299) ≡ true
    → leaf_reading c p (number_read 32 (pos (unsigned_abs z))) ≡ Ok (int_val z)
