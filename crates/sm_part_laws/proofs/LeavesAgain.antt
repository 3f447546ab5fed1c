-- At a place of a simple type the text that is written for a value of the place comes to the value.
use Rattle.std.proofs.Common.{◌≡◌, true, refl, ap, ◌∙◌, subst}
use Rattle.std.specs.Prelude.{None, Ok, Option, Some}
use Rattle.std.specs.List.{list_all}
use Rattle.std.specs.Str.{is_utf8}
use Rattle.sm_time.specs.declared.format.Format.{Format}
use Rattle.sm_shapes.specs.Fitting.{Fits, IsOfKind, MeetsConstraints, Test}
use Rattle.sm_shapes.specs.Places.{Place, kind_of}
use Rattle.sm_shapes.specs.TableData.{TableData}
use Rattle.sm_shapes.specs.Values.{Val, bool_val, int_val, null_val, text_val, time_val}
use Rattle.sm_codec.specs.Codec.{Codec}
use Rattle.sm_codec.specs.FaultLists.{here, settled}
use Rattle.sm_codec.specs.Readings.{leaf_reading}
use Rattle.sm_codec.specs.Sorts.{Sort, a_list, a_map, a_structure, a_union, left_out, simple, simple_in}
use Rattle.sm_codec.specs.declared.simple.Simple.{Simple}
use Rattle.sm_codec.specs.declared.simple.Simple.TheVariants as the
use Rattle.sm_parts.specs.Texts.{has_written_text, is_field_byte, text_written}
use Rattle.sm_part_values.specs.PartTexts as values
use Rattle.sm_part_values.specs.PartTexts.{TextForm, in_field, in_target, text_reading, text_sort}
use Rattle.sm_part_texts.specs.CarriedTexts.{has_text_at, has_text_by}
use Rattle.sm_part_texts.specs.PlaceTexts.{in_fields, in_targets, simple_at, text_at, text_by}
use Rattle.sm_part_laws.proofs.TextsAgain.{field_again, target_again, text_utf8}

-- a value that has a text is a leaf, and fits as one
leaf_fits : (x : Simple) (t : TableData) (test : Test) (p : Place) (v : Val) → has_written_text x v ≡ true → Fits t test p v
    → IsOfKind (kind_of t p) v × MeetsConstraints t test p v
leaf_fits the.Boolean t test p (bool_val b) has h = h
leaf_fits (the.Number bits) t test p (int_val z) has h = h
leaf_fits the.Text t test p (text_val u) has h = h
leaf_fits (the.Time format) t test p (time_val ms) has h = h
leaf_fits x t test p v has h = absurd cc

pub kind_fits : (o : Option Simple) (t : TableData) (test : Test) (p : Place) (v : Val) → has_text_by o v ≡ true → Fits t test p v
    → IsOfKind (kind_of t p) v
kind_fits None t test p v has h = absurd cc
kind_fits (Some x) t test p v has h = (leaf_fits x t test p v has h).0

-- null has none
pub null_untold : (o : Option Simple) → has_text_by o null_val ≡ true → ⊥
null_untold None h = cc
null_untold (Some the.Blob) h = cc
null_untold (Some the.Boolean) h = cc
null_untold (Some the.Text) h = cc
null_untold (Some (the.Number bits)) h = cc
null_untold (Some (the.Time format)) h = cc

-- what comes of it, by the sort of the place
leaf_by : (s : Sort) (f : TextForm) (c : Codec) (p : Place) (v : Val) → has_text_by (simple_in s) v ≡ true → Fits c.table c.test p v
    → ((x : Simple) → s ≡ simple x → has_written_text x v ≡ true → f.read x (text_written x v) ≡ Ok v)
    → values.text_by s f c p (text_by (simple_in s) v) ≡ Ok v
leaf_by (simple x) f c p v has h again =
    ap (leaf_reading c p) (again x refl has)
    ∙ ap (λ kinds. settled (here kinds) v) (leaf_fits x c.table c.test p v has h).1
leaf_by a_list f c p v has h again = absurd cc
leaf_by a_map f c p v has h again = absurd cc
leaf_by a_structure f c p v has h again = absurd cc
leaf_by a_union f c p v has h again = absurd cc
leaf_by left_out f c p v has h again = absurd cc

module _ (c : Codec) (p : Place) (v : Val) (fits : Fits c.table c.test p v) where
  -- in a target
  pub target_text : has_text_at in_targets c.table p v ≡ true → text_reading in_target c p (text_at in_targets c.table p v) ≡ Ok v
  target_text has =
      let of = kind_fits (simple_at in_targets c.table p) c.table c.test p v has fits in
      leaf_by (text_sort in_target c.table p) in_target c p v has fits (λ x is has. target_again x (kind_of c.table p) v of has)

  -- in a field
  pub field_text : has_text_at in_fields c.table p v ≡ true → list_all is_field_byte (text_at in_fields c.table p v) ≡ true
      → text_reading in_field c p (text_at in_fields c.table p v) ≡ Ok v
  field_text has bytes =
      let of = kind_fits (simple_at in_fields c.table p) c.table c.test p v has fits in
      leaf_by (text_sort in_field c.table p) in_field c p v has fits
      (λ x is has. field_again x (kind_of c.table p) v of has
      (subst (λ s. list_all is_field_byte (text_by (simple_in s) v) ≡ true) is bytes))

-- the text of a target is UTF-8
utf8_by : (o : Option Simple) (t : TableData) (test : Test) (p : Place) (v : Val) → has_text_by o v ≡ true → Fits t test p v
    → is_utf8 (text_by o v) ≡ true
utf8_by None t test p v has h = absurd cc
utf8_by (Some x) t test p v has h = text_utf8 x (kind_of t p) v (leaf_fits x t test p v has h).0 has

pub target_utf8 : (usual : Format) (t : TableData) (test : Test) (p : Place) (v : Val) → has_text_at usual t p v ≡ true → Fits t test p v
    → is_utf8 (text_at usual t p v) ≡ true
target_utf8 usual t test p v has h = utf8_by (simple_at usual t p) t test p v has h
