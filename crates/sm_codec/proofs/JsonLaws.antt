-- The conventions of JSON meet the laws.
use Rattle.std.proofs.Common.{◌≡◌, ℕ, ℤ, Bool, true, false, cond, refl, ap}
use Rattle.std.specs.Prelude.{Ok, Err}
use Rattle.std.specs.Str.{is_utf8}
use Rattle.sm_time.specs.declared.format.Format.{Format}
use Rattle.sm_time.specs.declared.format.Format.TheVariants.{DateTime, HttpDate, EpochSeconds}
use Rattle.sm_tree.specs.Node.{Node, Nodes, Members, null, tag, list, object}
use Rattle.sm_shapes.specs.Values.{Val, bool_val, int_val, text_val, blob_val, time_val}
use Rattle.sm_shapes.specs.declared.fault.FaultKind.TheVariants.{WrongType, Width, Repeated}
use Rattle.sm_codec.specs.declared.simple.Simple.{Simple}
use Rattle.sm_codec.specs.declared.simple.Simple.TheVariants as the
use Rattle.sm_time.specs.StampTexts.{is_stamp}
use Rattle.sm_codec.specs.Convention.{IsConvention, IsNested, nested_fault, is_of, fits_bits, are_bytes}
use Rattle.sm_codec.specs.Conventions.{json_read, json_time, json_written, json_written_time, json_carries, json_carries_leaf}
use Rattle.sm_codec.specs.Conventions.{json_convention, has_text}
use Rattle.sm_time.proofs.StampForms.{and_first, and_second}
use Rattle.sm_codec.proofs.LeafLaws.{boolean_of, text_of, number_of, seconds_of, time_text_of, boolean_never, text_never, number_never}
use Rattle.sm_codec.proofs.LeafLaws.{seconds_never, time_text_never}
use Rattle.sm_codec.proofs.TextLeaves.{blob_reads, base64_of, base64_never, seconds_read, time_text_reads, date_writable}

time_of : (format : Format) (n : Node) (v : Val) → json_time format n ≡ Ok v → is_of (the.Time format) v ≡ true
time_of DateTime n v h = time_text_of DateTime DateTime n v h
time_of HttpDate n v h = time_text_of HttpDate HttpDate n v h
time_of EpochSeconds n v h = seconds_of EpochSeconds n v h

of_type : (x : Simple) (n : Node) (v : Val) → json_read x n ≡ Ok v → is_of x v ≡ true
of_type the.Blob n v h = base64_of n v h
of_type the.Boolean n v h = boolean_of n v h
of_type the.Text n v h = text_of n v h
of_type (the.Number bits) n v h = number_of bits n v h
of_type (the.Time format) n v h = time_of format n v h

no_list : (x : Simple) (ns : Nodes) → json_read x (list ns) ≡ Err WrongType
no_list the.Blob ns = refl
no_list the.Boolean ns = refl
no_list the.Text ns = refl
no_list (the.Number bits) ns = refl
no_list (the.Time DateTime) ns = refl
no_list (the.Time HttpDate) ns = refl
no_list (the.Time EpochSeconds) ns = refl

no_object : (x : Simple) (ms : Members) → json_read x (object ms) ≡ Err WrongType
no_object the.Blob ms = refl
no_object the.Boolean ms = refl
no_object the.Text ms = refl
no_object (the.Number bits) ms = refl
no_object (the.Time DateTime) ms = refl
no_object (the.Time HttpDate) ms = refl
no_object (the.Time EpochSeconds) ms = refl

no_null : (x : Simple) → json_read x null ≡ Err WrongType
no_null the.Blob = refl
no_null the.Boolean = refl
no_null the.Text = refl
no_null (the.Number bits) = refl
no_null (the.Time DateTime) = refl
no_null (the.Time HttpDate) = refl
no_null (the.Time EpochSeconds) = refl

nested : (b : Bool) (x : Simple) (k : ℕ) (n : Node) → IsNested n → json_read x (tag k n) ≡ Err (nested_fault (json_convention b) x k)
nested b the.Blob k n h = refl
nested b the.Boolean k n h = refl
nested b the.Text k n h = refl
nested b (the.Number bits) k n h = refl
nested b (the.Time DateTime) k n h = refl
nested b (the.Time HttpDate) k n h = refl
nested b (the.Time EpochSeconds) k n h = refl

time_reads : (format : Format) (ms : ℤ) → is_stamp ms ≡ true → has_text format ms ≡ true
    → json_time format (json_written_time format ms) ≡ Ok (time_val ms)
time_reads DateTime ms h can = time_text_reads DateTime ms h tt
time_reads HttpDate ms h can = time_text_reads HttpDate ms h (date_writable ms can)
time_reads EpochSeconds ms h can = seconds_read ms h

written_reads : (x : Simple) (v : Val) → json_carries x v ≡ true → json_read x (json_written x v) ≡ Ok v
written_reads the.Blob (blob_val u) h = blob_reads u (and_first (are_bytes u) true h)
written_reads the.Boolean (bool_val b) h = refl
written_reads the.Text (text_val u) h = ap (λ b. cond b (Ok (text_val u)) (Err WrongType)) (and_first (is_utf8 u) true h)
written_reads (the.Number bits) (int_val z) h = ap (λ b. cond b (Ok (int_val z)) (Err Width)) (and_first (fits_bits bits z) true h)
written_reads (the.Time format) (time_val ms) h =
    time_reads format ms (and_first (is_stamp ms) (has_text format ms) h) (and_second (is_stamp ms) (has_text format ms) h)
written_reads x v h = absurd cc

time_never : (format : Format) (n : Node) → json_time format n ≡ Err Repeated → ⊥
time_never DateTime n h = time_text_never DateTime n h
time_never HttpDate n h = time_text_never HttpDate n h
time_never EpochSeconds n h = seconds_never n h

never_repeated : (x : Simple) (n : Node) → json_read x n ≡ Err Repeated → ⊥
never_repeated the.Blob n h = base64_never n h
never_repeated the.Boolean n h = boolean_never n h
never_repeated the.Text n h = text_never n h
never_repeated (the.Number bits) n h = number_never bits n h
never_repeated (the.Time format) n h = time_never format n h

-- by the members' names, and by their JSON names
pub json_laws : (b : Bool) → IsConvention (json_convention b)
json_laws false = record {
  names = λ t shaped s in_range. shaped.names s in_range;
  own_row = λ t u s r k j name json. name;
  of_type = of_type;
  carried_of_type = λ x v h. and_first (is_of x v) (json_carries_leaf x v) h;
  written_reads = written_reads;
  no_list = no_list;
  no_object = no_object;
  no_null = no_null;
  nested = nested false;
  never_repeated = never_repeated;
}
json_laws true = record {
  names = λ t shaped s in_range. shaped.json_names s in_range;
  own_row = λ t u s r k j name json. json;
  of_type = of_type;
  carried_of_type = λ x v h. and_first (is_of x v) (json_carries_leaf x v) h;
  written_reads = written_reads;
  no_list = no_list;
  no_object = no_object;
  no_null = no_null;
  nested = nested true;
  never_repeated = never_repeated;
}
