-- A simple value that a text of a message spells is one of its place.
use Rattle.std.proofs.Common.{◌≡◌, ℕ, ℤ, ◌<◌, Bool, true, false, ◌&&◌, cond, List, [], refl, sym, ap, subst, arith}
use Rattle.std.specs.Prelude.{Option, unwrap_or, Ok, Err, if◌then◌else◌, codes}
use Rattle.std.specs.List.{list_all}
use Rattle.std.specs.Str.{bytes_eq, is_utf8}
use Rattle.std.specs.Str.Parse.{signed_digits_value}
use Rattle.std.proofs.lemmas.Bool.Decides.{nat_tests}
use Rattle.std.proofs.lemmas.List.Sums.{AllPass-from_list_all}
use Rattle.std.proofs.lemmas.Str.{IsUtf8-from_ascii, is_utf8-from_IsUtf8}
use Rattle.std.proofs.lemmas.Str.Ascii.{IsAscii-from_all}
use Rattle.sm_time.specs.StampTexts.{stamp_of}
use Rattle.sm_time.specs.declared.format.Format.{Format}
use Rattle.sm_time.proofs.StampForms.{and_second, stamp_decides}
use Rattle.sm_shapes.specs.Fitting.{Fits, IsOfKind}
use Rattle.sm_shapes.specs.Places.{Place, format_of, kind_of}
use Rattle.sm_shapes.specs.Values.{Val, bool_val, int_val, text_val, time_val}
use Rattle.sm_shapes.specs.declared.fault.FaultKind.TheVariants.{Width, WrongType}
use Rattle.sm_shapes.specs.declared.kinds.ShapeKind.{ShapeKind}
use Rattle.sm_shapes.specs.declared.kinds.ShapeKind.TheVariants as kind
use Rattle.sm_codec.specs.Codec.{Codec, broken_at, codec_of}
use Rattle.sm_codec.specs.Convention.{fits_bits, is_of}
use Rattle.sm_codec.specs.Conventions.{json_carries, json_convention, json_written}
use Rattle.sm_codec.specs.Sorts.{Sort, simple, a_list, a_map, a_structure, a_union, left_out, sort_by, sort_of, sort_with}
use Rattle.sm_codec.specs.declared.simple.Simple.{Simple}
use Rattle.sm_codec.specs.declared.simple.Simple.TheVariants as the
use Rattle.sm_codec.proofs.JsonLaws.{json_laws}
use Rattle.sm_codec.proofs.LeafLaws.{ok_same, stamped, text_stamp}
use Rattle.sm_codec.proofs.LeafReadings.{leaf_spells}
use Rattle.sm_parts.specs.Texts.{decimal_read, is_decimal, is_field_byte, number_read, text_read}
use Rattle.sm_part_values.specs.PartTexts.{TextForm, in_field, in_target, text_by, text_reading, text_sort}
use Rattle.sm_rest.proofs.ReadingsFit.{ReadingFits, leaf_fits}

-- a simple type is no stamp, or of a place of stamps
abbrev IsNoTime : Simple → Type 0
IsNoTime the.Blob = Unit {0}
IsNoTime the.Boolean = Unit {0}
IsNoTime the.Text = Unit {0}
IsNoTime (the.Number bits) = Unit {0}
IsNoTime (the.Time format) = ⊥

no_time : (x : Simple) (format : Format) → simple (the.Time format) ≡ simple x → IsNoTime x → ⊥
no_time (the.Time f) format e h = h
no_time x format e h = cc

other_sort : (usual : Format) (k : ShapeKind) (format : Option Format) (x : Simple) → sort_with usual k format ≡ simple x → IsNoTime x
    → sort_by k format ≡ simple x
other_sort usual kind.Timestamp format x e h = absurd (no_time x (unwrap_or format usual) e h)
other_sort usual k format x e h = e

time_sort : (usual : Format) (k : ShapeKind) (format : Option Format) (f : Format) → sort_with usual k format ≡ simple (the.Time f)
    → k ≡ kind.Timestamp
time_sort usual kind.Timestamp format f e = refl
time_sort usual k format f e = absurd cc

-- a value of a simple type, of which nothing is broken
plain_fits : (c : Codec) (p : Place) (x : Simple) (v : Val) → sort_of c.table p ≡ simple x → json_carries x v ≡ true → broken_at c p v ≡ []
    → Fits c.table c.test p v
plain_fits c p x v e carried b =
    (leaf_spells (codec_of c.table (json_convention true) c.test) p x (json_written x v) v (json_laws true) e
    ((json_laws true).written_reads x v carried) b).0

time_fits : (c : Codec) (p : Place) (format : Format) (v : Val) → kind_of c.table p ≡ kind.Timestamp → is_of (the.Time format) v ≡ true
    → broken_at c p v ≡ [] → Fits c.table c.test p v
time_fits c p format (time_val ms) e is b = (subst (λ k. IsOfKind k (time_val ms)) (sym e) ((stamp_decides ms).0 is), b)
time_fits c p format v e is b = absurd cc

pub simple_fits : (c : Codec) (p : Place) (usual : Format) (x : Simple) (v : Val)
    → sort_with usual (kind_of c.table p) (format_of c.table p) ≡ simple x → is_of x v ≡ true → broken_at c p v ≡ []
    → Fits c.table c.test p v
simple_fits c p usual (the.Time f) v e is b = time_fits c p f v (time_sort usual (kind_of c.table p) (format_of c.table p) f e) is b
simple_fits c p usual the.Blob v e is b =
    plain_fits c p the.Blob v (other_sort usual (kind_of c.table p) (format_of c.table p) the.Blob e tt) (ap (λ t. t && true) is) b
simple_fits c p usual the.Boolean v e is b =
    plain_fits c p the.Boolean v (other_sort usual (kind_of c.table p) (format_of c.table p) the.Boolean e tt) (ap (λ t. t && true) is) b
simple_fits c p usual the.Text v e is b =
    plain_fits c p the.Text v (other_sort usual (kind_of c.table p) (format_of c.table p) the.Text e tt) (ap (λ t. t && true) is) b
simple_fits c p usual (the.Number bits) v e is b =
    plain_fits c p (the.Number bits) v (other_sort usual (kind_of c.table p) (format_of c.table p) (the.Number bits) e tt)
    (ap (λ t. t && true) is) b

-- what a text is read as is of the simple type
pub number_of_type : (bits : ℕ) (z : ℤ) (v : Val) → number_read bits z ≡ Ok v → is_of (the.Number bits) v ≡ true
number_of_type bits z v h = by (fits_bits 64 z && fits_bits bits z) refl h
  where
    by : (t : Bool) → (fits_bits 64 z && fits_bits bits z) ≡ t → cond t (Ok (int_val z)) (Err Width) ≡ Ok v
        → is_of (the.Number bits) v ≡ true
    by true e g = subst (λ w. is_of (the.Number bits) w ≡ true) (ok_same (int_val z) v g) (and_second (fits_bits 64 z) (fits_bits bits z) e)
    by false e g = absurd cc

decimal_of_type : (bits : ℕ) (u : List ℕ) (v : Val) → decimal_read bits u ≡ Ok v → is_of (the.Number bits) v ≡ true
decimal_of_type bits u v h = by (is_decimal u) h
  where
    by : (t : Bool) → cond t (number_read bits (signed_digits_value 10 u)) (Err WrongType) ≡ Ok v → is_of (the.Number bits) v ≡ true
    by true g = number_of_type bits (signed_digits_value 10 u) v g
    by false g = absurd cc

boolean_of_type : (u : List ℕ) (v : Val) → text_read the.Boolean u ≡ Ok v → is_of the.Boolean v ≡ true
boolean_of_type u v h = by (bytes_eq u (codes "true")) (bytes_eq u (codes "false")) h
  where
    by : (s t : Bool) → (if s then Ok (bool_val true) else (if t then Ok (bool_val false) else Err WrongType)) ≡ Ok v
        → is_of the.Boolean v ≡ true
    by true t g = subst (λ w. is_of the.Boolean w ≡ true) (ok_same (bool_val true) v g) refl
    by false true g = subst (λ w. is_of the.Boolean w ≡ true) (ok_same (bool_val false) v g) refl
    by false false g = absurd cc

text_of_type : (x : Simple) (u : List ℕ) (v : Val) → is_utf8 u ≡ true → text_read x u ≡ Ok v → is_of x v ≡ true
text_of_type the.Blob u v utf8 h = absurd cc
text_of_type the.Boolean u v utf8 h = boolean_of_type u v h
text_of_type the.Text u v utf8 h = subst (λ w. is_of the.Text w ≡ true) (ok_same (text_val u) v h) utf8
text_of_type (the.Number bits) u v utf8 h = decimal_of_type bits u v h
text_of_type (the.Time format) u v utf8 h = stamped format (stamp_of format u) v (text_stamp format u) h

guarded_text : (t : Bool) (x : Simple) (u : List ℕ) (v : Val) → (t ≡ true → is_utf8 u ≡ true)
    → cond t (text_read x u) (Err WrongType) ≡ Ok v → is_of x v ≡ true
guarded_text true x u v utf8 h = text_of_type x u v (utf8 refl) h
guarded_text false x u v utf8 h = absurd cc

field_small : (b : ℕ) → is_field_byte b ≡ true → b < 128
field_small b h = grind (arith, nat_tests)

field_text : (u : List ℕ) → list_all is_field_byte u ≡ true → is_utf8 u ≡ true
field_text u h =
    is_utf8-from_IsUtf8 u (IsUtf8-from_ascii u (IsAscii-from_all u
    (λ k d lt. field_small _ (AllPass-from_list_all is_field_byte u h k d lt))))

abbrev pub IsTyped : TextForm → Type 0
IsTyped f = (x : Simple) (u : List ℕ) (v : Val) → f.read x u ≡ Ok v → is_of x v ≡ true

pub target_typed : IsTyped in_target
target_typed x u v h = guarded_text (is_utf8 u) x u v (λ e. e) h

pub field_typed : IsTyped in_field
field_typed x u v h = guarded_text (list_all is_field_byte u) x u v (field_text u) h

-- so what a text comes to is of its place
pub text_fits : (f : TextForm) → IsTyped f → (c : Codec) (p : Place) (u : List ℕ) → ReadingFits c p (text_reading f c p u)
text_fits f typed c p u = by (text_sort f c.table p) refl
  where
    by : (s : Sort) → text_sort f c.table p ≡ s → ReadingFits c p (text_by s f c p u)
    by (simple x) e = leaf_fits c p (f.read x u) (λ v h b. simple_fits c p f.usual x v e (typed x u v h) b)
    by a_list e = tt
    by a_map e = tt
    by a_structure e = tt
    by a_union e = tt
    by left_out e = tt
