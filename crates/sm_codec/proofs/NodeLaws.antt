-- The conventions of the nodes of models meet the laws.
use Rattle.std.proofs.Common.{◌≡◌, ℕ, ℤ, Bool, true, false, cond, refl, ap}
use Rattle.std.specs.Prelude.{pos, int_div, Ok, Err}
use Rattle.std.specs.Str.{is_utf8}
use Rattle.sm_time.specs.declared.format.Format.{Format}
use Rattle.sm_time.specs.declared.format.Format.TheVariants.{DateTime, EpochSeconds}
use Rattle.sm_time.specs.Written.{written_stamp}
use Rattle.sm_tree.specs.Node.{Node, Nodes, Members, null, int, number, text, tag, list, object}
use Rattle.sm_shapes.specs.Values.{Val, bool_val, int_val, text_val, blob_val, time_val}
use Rattle.sm_shapes.specs.declared.fault.FaultKind.TheVariants.{WrongType, Width, Repeated}
use Rattle.sm_codec.specs.declared.simple.Simple.{Simple}
use Rattle.sm_codec.specs.declared.simple.Simple.TheVariants as the
use Rattle.sm_time.specs.StampTexts.{is_stamp}
use Rattle.sm_codec.specs.Convention.{IsConvention, IsNested, nested_fault, is_of, fits_bits, are_bytes}
use Rattle.sm_codec.specs.Conventions.{node_read, node_blob, node_time, node_written, node_carries, node_carries_leaf, node_convention}
use Rattle.sm_codec.specs.Conventions.{is_whole_second}
use Rattle.sm_time.proofs.StampForms.{and_first}
use Rattle.sm_codec.proofs.LeafLaws.{guarded, boolean_of, text_of, number_of, seconds_of, time_text_of, no_fault_where, type_never}
use Rattle.sm_codec.proofs.LeafLaws.{boolean_never, text_never, number_never, seconds_never, time_text_never}
use Rattle.sm_codec.proofs.TextLeaves.{blob_reads, base64_of, base64_never, seconds_by}

blob_of : (raw : Bool) (n : Node) (v : Val) → node_blob raw n ≡ Ok v → is_of the.Blob v ≡ true
blob_of false n v h = base64_of n v h
blob_of true (text u) v h = guarded the.Blob (blob_val u) v WrongType (are_bytes u) refl h
blob_of true n v h = absurd cc

time_of : (format : Format) (n : Node) (v : Val) → node_time n ≡ Ok v → is_of (the.Time format) v ≡ true
time_of format (text u) v h = time_text_of format DateTime (text u) v h
time_of format n v h = seconds_of format n v h

of_type : (raw : Bool) (x : Simple) (n : Node) (v : Val) → node_read raw x n ≡ Ok v → is_of x v ≡ true
of_type raw the.Blob n v h = blob_of raw n v h
of_type raw the.Boolean n v h = boolean_of n v h
of_type raw the.Text n v h = text_of n v h
of_type raw (the.Number bits) n v h = number_of bits n v h
of_type raw (the.Time format) n v h = time_of format n v h

no_list : (raw : Bool) (x : Simple) (ns : Nodes) → node_read raw x (list ns) ≡ Err WrongType
no_list true the.Blob ns = refl
no_list false the.Blob ns = refl
no_list raw the.Boolean ns = refl
no_list raw the.Text ns = refl
no_list raw (the.Number bits) ns = refl
no_list raw (the.Time format) ns = refl

no_object : (raw : Bool) (x : Simple) (ms : Members) → node_read raw x (object ms) ≡ Err WrongType
no_object true the.Blob ms = refl
no_object false the.Blob ms = refl
no_object raw the.Boolean ms = refl
no_object raw the.Text ms = refl
no_object raw (the.Number bits) ms = refl
no_object raw (the.Time format) ms = refl

no_null : (raw : Bool) (x : Simple) → node_read raw x null ≡ Err WrongType
no_null true the.Blob = refl
no_null false the.Blob = refl
no_null raw the.Boolean = refl
no_null raw the.Text = refl
no_null raw (the.Number bits) = refl
no_null raw (the.Time format) = refl

nested : (raw : Bool) (x : Simple) (k : ℕ) (n : Node) → IsNested n
    → node_read raw x (tag k n) ≡ Err (nested_fault (node_convention raw) x k)
nested true the.Blob k n h = refl
nested false the.Blob k n h = refl
nested raw the.Boolean k n h = refl
nested raw the.Text k n h = refl
nested raw (the.Number bits) k n h = refl
nested raw (the.Time format) k n h = refl

-- a number is read as one, whole or not
time_by : (ms : ℤ) (b : Bool) → is_whole_second ms ≡ b → is_stamp ms ≡ true
    → node_time (cond b (int (int_div ms (pos 1000))) (number (written_stamp EpochSeconds ms))) ≡ Ok (time_val ms)
time_by ms true e h = seconds_by ms true e h
time_by ms false e h = seconds_by ms false e h

written_reads : (raw : Bool) (x : Simple) (v : Val) → node_carries raw x v ≡ true → node_read raw x (node_written raw x v) ≡ Ok v
written_reads false the.Blob (blob_val u) h = blob_reads u (and_first (are_bytes u) true h)
written_reads true the.Blob (blob_val u) h = ap (λ b. cond b (Ok (blob_val u)) (Err WrongType)) (and_first (are_bytes u) (is_utf8 u) h)
written_reads raw the.Boolean (bool_val b) h = refl
written_reads true the.Text (text_val u) h = ap (λ b. cond b (Ok (text_val u)) (Err WrongType)) (and_first (is_utf8 u) true h)
written_reads false the.Text (text_val u) h = ap (λ b. cond b (Ok (text_val u)) (Err WrongType)) (and_first (is_utf8 u) true h)
written_reads true (the.Number bits) (int_val z) h = ap (λ b. cond b (Ok (int_val z)) (Err Width)) (and_first (fits_bits bits z) true h)
written_reads false (the.Number bits) (int_val z) h = ap (λ b. cond b (Ok (int_val z)) (Err Width)) (and_first (fits_bits bits z) true h)
written_reads true (the.Time format) (time_val ms) h = time_by ms (is_whole_second ms) refl (and_first (is_stamp ms) true h)
written_reads false (the.Time format) (time_val ms) h = time_by ms (is_whole_second ms) refl (and_first (is_stamp ms) true h)
written_reads raw x v h = absurd cc

blob_never : (raw : Bool) (n : Node) → node_blob raw n ≡ Err Repeated → ⊥
blob_never false n h = base64_never n h
blob_never true (text u) h = no_fault_where (blob_val u) WrongType (are_bytes u) type_never h
blob_never true n h = cc

time_never : (n : Node) → node_time n ≡ Err Repeated → ⊥
time_never (text u) h = time_text_never DateTime (text u) h
time_never n h = seconds_never n h

never_repeated : (raw : Bool) (x : Simple) (n : Node) → node_read raw x n ≡ Err Repeated → ⊥
never_repeated raw the.Blob n h = blob_never raw n h
never_repeated raw the.Boolean n h = boolean_never n h
never_repeated raw the.Text n h = text_never n h
never_repeated raw (the.Number bits) n h = number_never bits n h
never_repeated raw (the.Time format) n h = time_never n h

-- with blobs as texts of their bytes, and in base64
pub node_laws : (raw : Bool) → IsConvention (node_convention raw)
node_laws raw = record {
  names = λ t shaped s in_range. shaped.names s in_range;
  own_row = λ t u s r k j name json. name;
  of_type = of_type raw;
  carried_of_type = λ x v h. and_first (is_of x v) (node_carries_leaf raw v) h;
  written_reads = written_reads raw;
  no_list = no_list raw;
  no_object = no_object raw;
  no_null = no_null raw;
  nested = nested raw;
  never_repeated = never_repeated raw;
}
