-- The convention of CBOR meets the laws.
use Rattle.std.proofs.Common.{◌≡◌, ℕ, ℤ, Bool, true, false, cond, refl, sym, ap, subst, arith}
use Rattle.std.specs.Prelude.{pos, ◌*ℤ◌, ◌+ℤ◌, ◌==◌, int_div, int_rem, Some, None, Ok, Err}
use Rattle.std.specs.Ordering.{int_eq}
use Rattle.std.proofs.lemmas.Int.{quot-rem}
use Rattle.std.specs.Str.{is_utf8}
use Rattle.sm_time.specs.declared.format.Format.{Format}
use Rattle.sm_tree.specs.Node.{Node, Nodes, Members, null, int, bytes, tag, list, object, no_nodes}
use Rattle.sm_shapes.specs.Values.{Val, bool_val, int_val, text_val, blob_val, time_val}
use Rattle.sm_shapes.specs.declared.fault.FaultKind.TheVariants.{WrongType, Width, Time, Repeated}
use Rattle.sm_codec.specs.declared.simple.Simple.{Simple}
use Rattle.sm_codec.specs.declared.simple.Simple.TheVariants as the
use Rattle.sm_time.specs.StampTexts.{is_stamp}
use Rattle.sm_codec.specs.Convention.{IsConvention, IsNested, nested_fault, fault_in, is_of, fits_bits, are_bytes}
use Rattle.sm_codec.specs.Conventions.{cbor_read, cbor_blob, cbor_time, cbor_seconds, cbor_written, cbor_carries, cbor_carries_leaf}
use Rattle.sm_codec.specs.Conventions.{cbor_convention, is_whole_second, stamp_of_seconds, or_fault, stamp_val}
use Rattle.sm_time.proofs.StampForms.{and_first, and_second}
use Rattle.sm_codec.proofs.LeafLaws.{guarded, boolean_of, text_of, number_of, stamped, seconds_stamp, no_fault_where, type_never}
use Rattle.sm_codec.proofs.LeafLaws.{boolean_never, text_never, number_never, stamp_never}

blob_of : (n : Node) (v : Val) → cbor_blob n ≡ Ok v → is_of the.Blob v ≡ true
blob_of (bytes u) v h = guarded the.Blob (blob_val u) v WrongType (are_bytes u) refl h
blob_of n v h = absurd cc

under_one : (format : Format) (n : Node) (v : Val) → cbor_seconds n ≡ Ok v → is_of (the.Time format) v ≡ true
under_one format (int z) v h = stamped format (stamp_of_seconds z) v (seconds_stamp z) h
under_one format n v h = absurd cc

tag_of : (format : Format) (b : Bool) (n : Node) (v : Val) → cond b (cbor_seconds n) (Err WrongType) ≡ Ok v
    → is_of (the.Time format) v ≡ true
tag_of format true n v h = under_one format n v h
tag_of format false n v h = absurd cc

time_of : (format : Format) (n : Node) (v : Val) → cbor_time n ≡ Ok v → is_of (the.Time format) v ≡ true
time_of format (tag k n) v h = tag_of format (k == 1) n v h
time_of format n v h = absurd cc

of_type : (x : Simple) (n : Node) (v : Val) → cbor_read x n ≡ Ok v → is_of x v ≡ true
of_type the.Blob n v h = blob_of n v h
of_type the.Boolean n v h = boolean_of n v h
of_type the.Text n v h = text_of n v h
of_type (the.Number bits) n v h = number_of bits n v h
of_type (the.Time format) n v h = time_of format n v h

no_list : (x : Simple) (ns : Nodes) → cbor_read x (list ns) ≡ Err WrongType
no_list the.Blob ns = refl
no_list the.Boolean ns = refl
no_list the.Text ns = refl
no_list (the.Number bits) ns = refl
no_list (the.Time format) ns = refl

no_object : (x : Simple) (ms : Members) → cbor_read x (object ms) ≡ Err WrongType
no_object the.Blob ms = refl
no_object the.Boolean ms = refl
no_object the.Text ms = refl
no_object (the.Number bits) ms = refl
no_object (the.Time format) ms = refl

no_null : (x : Simple) → cbor_read x null ≡ Err WrongType
no_null the.Blob = refl
no_null the.Boolean = refl
no_null the.Text = refl
no_null (the.Number bits) = refl
no_null (the.Time format) = refl

-- what is nested under the tag 1 is no time, and under another is of another type
tag_fault : (b : Bool) (n : Node) → IsNested n
    → cond b (cbor_seconds n) (Err WrongType) ≡ Err (fault_in (cond b (cbor_seconds (list no_nodes)) (Err WrongType)))
tag_fault true (list ns) h = refl
tag_fault true (object ms) h = refl
tag_fault true (tag k n) h = refl
tag_fault true n h = absurd h
tag_fault false n h = refl

nested : (x : Simple) (k : ℕ) (n : Node) → IsNested n → cbor_read x (tag k n) ≡ Err (nested_fault cbor_convention x k)
nested the.Blob k n h = refl
nested the.Boolean k n h = refl
nested the.Text k n h = refl
nested (the.Number bits) k n h = refl
nested (the.Time format) k n h = tag_fault (k == 1) n h

-- a stamp of whole seconds is that of its seconds
no_rest : (ms : ℤ) (r : ℤ) → int_eq r (pos 0) ≡ true → int_div ms (pos 1000) *ℤ pos 1000 +ℤ r ≡ ms → int_div ms (pos 1000) *ℤ pos 1000 ≡ ms
no_rest ms r e h = grind (arith)

pub whole_seconds : (ms : ℤ) → is_whole_second ms ≡ true → int_div ms (pos 1000) *ℤ pos 1000 ≡ ms
whole_seconds ms h = no_rest ms (int_rem ms (pos 1000)) h (quot-rem ms (pos 1000))

pub at_seconds : (ms q : ℤ) → q ≡ ms → is_stamp ms ≡ true → or_fault Time (stamp_val (cond (is_stamp q) (Some q) None)) ≡ Ok (time_val ms)
at_seconds ms q e h =
    subst (λ y. or_fault Time (stamp_val (cond (is_stamp y) (Some y) None)) ≡ Ok (time_val ms)) (sym e)
    (ap (λ b. or_fault Time (stamp_val (cond b (Some ms) None))) h)

written_reads : (x : Simple) (v : Val) → cbor_carries x v ≡ true → cbor_read x (cbor_written x v) ≡ Ok v
written_reads the.Blob (blob_val u) h = ap (λ b. cond b (Ok (blob_val u)) (Err WrongType)) (and_first (are_bytes u) true h)
written_reads the.Boolean (bool_val b) h = refl
written_reads the.Text (text_val u) h = ap (λ b. cond b (Ok (text_val u)) (Err WrongType)) (and_first (is_utf8 u) true h)
written_reads (the.Number bits) (int_val z) h = ap (λ b. cond b (Ok (int_val z)) (Err Width)) (and_first (fits_bits bits z) true h)
written_reads (the.Time format) (time_val ms) h =
    at_seconds ms (int_div ms (pos 1000) *ℤ pos 1000) (whole_seconds ms (and_second (is_stamp ms) (is_whole_second ms) h))
    (and_first (is_stamp ms) (is_whole_second ms) h)
written_reads x v h = absurd cc

blob_never : (n : Node) → cbor_blob n ≡ Err Repeated → ⊥
blob_never (bytes u) h = no_fault_where (blob_val u) WrongType (are_bytes u) type_never h
blob_never n h = cc

under_never : (n : Node) → cbor_seconds n ≡ Err Repeated → ⊥
under_never (int z) h = stamp_never (stamp_of_seconds z) h
under_never n h = cc

tag_never : (b : Bool) (n : Node) → cond b (cbor_seconds n) (Err WrongType) ≡ Err Repeated → ⊥
tag_never true n h = under_never n h
tag_never false n h = cc

time_never : (n : Node) → cbor_time n ≡ Err Repeated → ⊥
time_never (tag k n) h = tag_never (k == 1) n h
time_never n h = cc

never_repeated : (x : Simple) (n : Node) → cbor_read x n ≡ Err Repeated → ⊥
never_repeated the.Blob n h = blob_never n h
never_repeated the.Boolean n h = boolean_never n h
never_repeated the.Text n h = text_never n h
never_repeated (the.Number bits) n h = number_never bits n h
never_repeated (the.Time format) n h = time_never n h

pub cbor_laws : IsConvention cbor_convention
cbor_laws = record {
  names = λ t shaped s in_range. shaped.names s in_range;
  own_row = λ t u s r k j name json. name;
  of_type = of_type;
  carried_of_type = λ x v h. and_first (is_of x v) (cbor_carries_leaf v) h;
  written_reads = written_reads;
  no_list = no_list;
  no_object = no_object;
  no_null = no_null;
  nested = nested;
  never_repeated = never_repeated;
}
