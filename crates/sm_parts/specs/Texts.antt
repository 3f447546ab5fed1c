-- The texts by which simple values stand in targets and in fields of heads (Smithy 2.0, "httpLabel trait", "httpQuery trait", "httpHeader
-- trait", "timestampFormat trait"). Whole numbers are decimal, truth values are `true` and `false`, and a stamp is a text of its format.
use Rattle.std.specs.Prelude.{ℕ, ℤ, Bool, true, false, ◌==◌, ◌&&◌, cond, if◌then◌else◌, nat_le, List, [], ◌∷◌, Result, Ok, Err, codes}
use Rattle.std.specs.Fmt.{signed_decimal}
use Rattle.std.specs.List.{list_all}
use Rattle.std.specs.Str.{bytes_eq, is_utf8}
use Rattle.std.specs.Str.Parse.{signed_digits_value}
use Rattle.sm_bytes.specs.Ascii.{minus, space, tilde}
use Rattle.sm_time.specs.StampTexts.{is_int, stamp_of}
use Rattle.sm_time.specs.Written.{written_stamp}
use Rattle.sm_time.specs.declared.format.Format.{Format}
use Rattle.sm_time.specs.declared.format.Format.TheVariants.{HttpDate}
use Rattle.sm_shapes.specs.Values.{Val, blob_val, bool_val, int_val, text_val, time_val}
use Rattle.sm_shapes.specs.declared.fault.FaultKind.{FaultKind}
use Rattle.sm_shapes.specs.declared.fault.FaultKind.TheVariants.{Time, Width, WrongType}
use Rattle.sm_codec.specs.Convention.{fits_bits}
use Rattle.sm_codec.specs.Conventions.{format_of_simple, json_carries, or_fault, stamp_val}
use Rattle.sm_codec.specs.declared.simple.Simple.{Simple}
use Rattle.sm_codec.specs.declared.simple.Simple.TheVariants as the
use Rattle.sm_parts.specs.declared.list_entry.HeaderCut.{HeaderCut}
use Rattle.sm_parts.specs.declared.list_entry.HeaderCut.TheVariants.{Quoted, EachComma, EverySecondComma}

-- digits, of which a first 0 stands alone, behind a minus sign or none
abbrev pub is_decimal : List ℕ → Bool
is_decimal [] = false
is_decimal (b ∷ u) = if b == minus then is_int u else is_int (b ∷ u)

-- of a number of 64 bits, and of its own width
abbrev pub number_read : ℕ → ℤ → Result Val FaultKind
number_read bits z = cond (fits_bits 64 z && fits_bits bits z) (Ok (int_val z)) (Err Width)

abbrev pub decimal_read : ℕ → List ℕ → Result Val FaultKind
decimal_read bits u = cond (is_decimal u) (number_read bits (signed_digits_value 10 u)) (Err WrongType)

abbrev pub boolean_read : List ℕ → Result Val FaultKind
boolean_read u =
    if bytes_eq u (codes "true") then Ok (bool_val true)
    else (if bytes_eq u (codes "false") then Ok (bool_val false) else Err WrongType)

abbrev pub time_read : Format → List ℕ → Result Val FaultKind
time_read format u = or_fault Time (stamp_val (stamp_of format u))

-- the value that a text in UTF-8 spells, or its fault. A blob stands in no such text
abbrev pub text_read : Simple → List ℕ → Result Val FaultKind
text_read the.Blob u = Err WrongType
text_read the.Boolean u = boolean_read u
text_read the.Text u = Ok (text_val u)
text_read (the.Number bits) u = decimal_read bits u
text_read (the.Time format) u = time_read format u

-- in a target, bytes that are UTF-8; in a field, bytes from 0x20 to 0x7E. Others spell nothing, whatever the type
abbrev pub is_field_byte : ℕ → Bool
is_field_byte b = nat_le space b && nat_le b tilde

abbrev pub target_read : Simple → List ℕ → Result Val FaultKind
target_read x u = cond (is_utf8 u) (text_read x u) (Err WrongType)

abbrev pub field_read : Simple → List ℕ → Result Val FaultKind
field_read x u = cond (list_all is_field_byte u) (text_read x u) (Err WrongType)

-- the text that is written for a value of the simple type
abbrev pub truth_text : Bool → List ℕ
truth_text true = codes "true"
truth_text false = codes "false"

abbrev pub text_written : Simple → Val → List ℕ
text_written x (bool_val b) = truth_text b
text_written x (int_val z) = signed_decimal z
text_written x (text_val u) = u
text_written x (time_val ms) = written_stamp (format_of_simple x) ms
text_written x v = []

-- a value of the simple type has one: each but a stamp outside its format, as in JSON
abbrev pub has_written_text : Simple → Val → Bool
has_written_text the.Blob v = false
has_written_text x v = json_carries x v

-- how a list of such values in a field is cut
abbrev pub cut_of_format : Format → HeaderCut
cut_of_format HttpDate = EverySecondComma
cut_of_format format = EachComma

abbrev pub cut_of : Simple → HeaderCut
cut_of the.Blob = EachComma
cut_of the.Boolean = EachComma
cut_of the.Text = Quoted
cut_of (the.Number bits) = EachComma
cut_of (the.Time format) = cut_of_format format
