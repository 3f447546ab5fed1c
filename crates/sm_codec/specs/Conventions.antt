-- The conventions of JSON (RFC 8259), of CBOR (RFC 8949), and of the nodes of models: names, and how simple values are spelled
-- (Smithy 2.0, "Simple types", "timestampFormat trait", "jsonName trait", and the pages of the AWS JSON protocols and of Smithy
-- RPC v2 CBOR).
use Rattle.std.specs.Prelude.{ℕ, ◌==◌, ℤ, pos, ◌*ℤ◌, int_le, int_div, int_rem, Bool, true, false, ◌&&◌, ◌||◌, cond, List, Option, Some}
use Rattle.std.specs.Prelude.{None, Result, Ok, Err}
use Rattle.std.specs.Ordering.{int_eq}
use Rattle.std.specs.List.{list_any}
use Rattle.std.specs.Str.{is_utf8}
use Rattle.base64.specs.Engines.{standard}
use Rattle.base64.specs.GeneralPurpose.{encode_of, decode_of}
use Rattle.base64.specs.declared.decode.DecodeError.{DecodeError}
use Rattle.sm_bytes.specs.Ascii.{full_stop, capital_e, small_e}
use Rattle.sm_tree.specs.Node.{Node, null, bool, int, number, text, bytes, tag}
use Rattle.sm_time.specs.declared.format.Format.{Format}
use Rattle.sm_time.specs.declared.format.Format.TheVariants.{DateTime, HttpDate, EpochSeconds}
use Rattle.sm_time.specs.Written.{written_stamp}
use Rattle.sm_shapes.specs.Values.{Val, bool_val, int_val, text_val, blob_val, time_val}
use Rattle.sm_shapes.specs.TableData.{TableData, name_at, json_name_at}
use Rattle.sm_shapes.specs.declared.fault.FaultKind.{FaultKind}
use Rattle.sm_shapes.specs.declared.fault.FaultKind.TheVariants.{WrongType, Width, Base64, Time}
use Rattle.sm_codec.specs.declared.simple.Simple.{Simple}
use Rattle.sm_codec.specs.declared.simple.Simple.TheVariants as the
use Rattle.sm_time.specs.StampTexts.{is_stamp, stamp_of}
use Rattle.sm_codec.specs.Convention.{Convention, is_of, fits_bits, are_bytes}

-- `.`, `E` or `e` stands in a number that is kept as its text: it has a fraction or an exponent, else it is out of 64 bits
abbrev pub is_fraction_mark : ℕ → Bool
is_fraction_mark b = (b == full_stop) || ((b == capital_e) || (b == small_e))

abbrev pub has_fraction_mark : List ℕ → Bool
has_fraction_mark u = list_any is_fraction_mark u

-- the value, or a fault of this kind where there is none
abbrev pub or_fault : FaultKind → Option Val → Result Val FaultKind
or_fault kind None = Err kind
or_fault kind (Some v) = Ok v

abbrev pub stamp_val : Option ℤ → Option Val
stamp_val None = None
stamp_val (Some ms) = Some (time_val ms)

-- what all three read alike
abbrev pub read_boolean : Node → Result Val FaultKind
read_boolean (bool b) = Ok (bool_val b)
read_boolean n = Err WrongType

-- trees of the code hold texts in UTF-8 alone, so the other case never comes
abbrev pub read_text : Node → Result Val FaultKind
read_text (text u) = cond (is_utf8 u) (Ok (text_val u)) (Err WrongType)
read_text n = Err WrongType

abbrev pub read_number : ℕ → Node → Result Val FaultKind
read_number bits (int z) = cond (fits_bits bits z) (Ok (int_val z)) (Err Width)
read_number bits (number u) = Err (cond (has_fraction_mark u) WrongType Width)
read_number bits n = Err WrongType

-- the stamp of so many whole seconds
abbrev pub stamp_of_seconds : ℤ → Option ℤ
stamp_of_seconds z = cond (is_stamp (z *ℤ pos 1000)) (Some (z *ℤ pos 1000)) None

abbrev pub is_whole_second : ℤ → Bool
is_whole_second ms = int_eq (int_rem ms (pos 1000)) (pos 0)

-- a number of seconds
abbrev pub read_seconds : Node → Result Val FaultKind
read_seconds (int z) = or_fault Time (stamp_val (stamp_of_seconds z))
read_seconds (number u) = or_fault Time (stamp_val (stamp_of EpochSeconds u))
read_seconds n = Err WrongType

abbrev pub written_seconds : ℤ → Node
written_seconds ms = cond (is_whole_second ms) (int (int_div ms (pos 1000))) (number (written_stamp EpochSeconds ms))

abbrev pub read_time_text : Format → Node → Result Val FaultKind
read_time_text format (text u) = or_fault Time (stamp_val (stamp_of format u))
read_time_text format n = Err WrongType

-- strict base64 with its padding; what is decoded are bytes, so the other case never comes
abbrev pub decoded_blob : Result (List ℕ) DecodeError → Result Val FaultKind
decoded_blob (Ok u) = cond (are_bytes u) (Ok (blob_val u)) (Err Base64)
decoded_blob (Err e) = Err Base64

abbrev pub read_base64 : Node → Result Val FaultKind
read_base64 (text u) = decoded_blob (decode_of standard u)
read_base64 n = Err WrongType

abbrev pub base64_text : List ℕ → Node
base64_text u = text (encode_of standard u)

-- JSON

abbrev pub json_time : Format → Node → Result Val FaultKind
json_time EpochSeconds n = read_seconds n
json_time DateTime n = read_time_text DateTime n
json_time HttpDate n = read_time_text HttpDate n

abbrev pub json_read : Simple → Node → Result Val FaultKind
json_read the.Blob n = read_base64 n
json_read the.Boolean n = read_boolean n
json_read the.Text n = read_text n
json_read (the.Number bits) n = read_number bits n
json_read (the.Time format) n = json_time format n

abbrev pub json_written_time : Format → ℤ → Node
json_written_time EpochSeconds ms = written_seconds ms
json_written_time DateTime ms = text (written_stamp DateTime ms)
json_written_time HttpDate ms = text (written_stamp HttpDate ms)

abbrev pub format_of_simple : Simple → Format
format_of_simple (the.Time format) = format
format_of_simple x = EpochSeconds

-- of a value of the simple type
abbrev pub json_written : Simple → Val → Node
json_written x (bool_val b) = bool b
json_written x (int_val z) = int z
json_written x (text_val u) = text u
json_written x (blob_val u) = base64_text u
json_written x (time_val ms) = json_written_time (format_of_simple x) ms
json_written x v = null

-- the format has a text of the stamp
abbrev pub has_text : Format → ℤ → Bool
has_text HttpDate ms = int_le (pos 0) ms && is_whole_second ms
has_text format ms = true

abbrev pub json_carries_leaf : Simple → Val → Bool
json_carries_leaf (the.Time format) (time_val ms) = has_text format ms
json_carries_leaf x v = true

abbrev pub json_carries : Simple → Val → Bool
json_carries x v = is_of x v && json_carries_leaf x v

abbrev pub json_name : Bool → TableData → ℕ → ℕ → List ℕ
json_name true t s k = json_name_at t k
json_name false t s k = name_at t k

-- by the member's names, or by their JSON names
abbrev pub json_convention : Bool → Convention
json_convention json_names = record { name = json_name json_names; read = json_read; carries = json_carries; write = json_written }

-- CBOR

abbrev pub member_name : TableData → ℕ → ℕ → List ℕ
member_name t s k = name_at t k

abbrev pub cbor_blob : Node → Result Val FaultKind
cbor_blob (bytes u) = cond (are_bytes u) (Ok (blob_val u)) (Err WrongType)
cbor_blob n = Err WrongType

-- under the tag 1
abbrev pub cbor_seconds : Node → Result Val FaultKind
cbor_seconds (int z) = or_fault Time (stamp_val (stamp_of_seconds z))
cbor_seconds n = Err Time

abbrev pub cbor_time : Node → Result Val FaultKind
cbor_time (tag k n) = cond (k == 1) (cbor_seconds n) (Err WrongType)
cbor_time n = Err WrongType

abbrev pub cbor_read : Simple → Node → Result Val FaultKind
cbor_read the.Blob n = cbor_blob n
cbor_read the.Boolean n = read_boolean n
cbor_read the.Text n = read_text n
cbor_read (the.Number bits) n = read_number bits n
cbor_read (the.Time format) n = cbor_time n

abbrev pub cbor_written : Simple → Val → Node
cbor_written x (bool_val b) = bool b
cbor_written x (int_val z) = int z
cbor_written x (text_val u) = text u
cbor_written x (blob_val u) = bytes u
cbor_written x (time_val ms) = tag 1 (int (int_div ms (pos 1000)))
cbor_written x v = null

abbrev pub cbor_carries_leaf : Val → Bool
cbor_carries_leaf (time_val ms) = is_whole_second ms
cbor_carries_leaf v = true

abbrev pub cbor_carries : Simple → Val → Bool
cbor_carries x v = is_of x v && cbor_carries_leaf v

abbrev pub cbor_convention : Convention
cbor_convention = record { name = member_name; read = cbor_read; carries = cbor_carries; write = cbor_written }

-- the nodes of models

abbrev pub node_blob : Bool → Node → Result Val FaultKind
node_blob false n = read_base64 n
node_blob true (text u) = cond (are_bytes u) (Ok (blob_val u)) (Err WrongType)
node_blob true n = Err WrongType

abbrev pub node_time : Node → Result Val FaultKind
node_time (text u) = read_time_text DateTime (text u)
node_time n = read_seconds n

abbrev pub node_read : Bool → Simple → Node → Result Val FaultKind
node_read raw_blobs the.Blob n = node_blob raw_blobs n
node_read raw_blobs the.Boolean n = read_boolean n
node_read raw_blobs the.Text n = read_text n
node_read raw_blobs (the.Number bits) n = read_number bits n
node_read raw_blobs (the.Time format) n = node_time n

abbrev pub node_written_blob : Bool → List ℕ → Node
node_written_blob false u = base64_text u
node_written_blob true u = text u

abbrev pub node_written : Bool → Simple → Val → Node
node_written raw_blobs x (bool_val b) = bool b
node_written raw_blobs x (int_val z) = int z
node_written raw_blobs x (text_val u) = text u
node_written raw_blobs x (blob_val u) = node_written_blob raw_blobs u
node_written raw_blobs x (time_val ms) = written_seconds ms
node_written raw_blobs x v = null

abbrev pub node_carries_leaf : Bool → Val → Bool
node_carries_leaf true (blob_val u) = is_utf8 u
node_carries_leaf raw_blobs v = true

abbrev pub node_carries : Bool → Simple → Val → Bool
node_carries raw_blobs x v = is_of x v && node_carries_leaf raw_blobs v

-- blobs are UTF-8 texts of their bytes, or base64
abbrev pub node_convention : Bool → Convention
node_convention raw_blobs =
    record { name = member_name; read = node_read raw_blobs; carries = node_carries raw_blobs; write = node_written raw_blobs }
