-- What JSON and the nodes of models write for blobs and stamps is read again.
use Rattle.std.proofs.Common.{◌≡◌, ℕ, zero, suc, ℤ, Bool, true, false, cond, List, [], ◌∷◌, refl, ap, ◌∙◌, arith}
use Rattle.std.specs.Prelude.{pos, negsuc, ◌*ℤ◌, int_div, int_rem, int_le, nat_lt, unsigned_abs, Result, Ok, Err}
use Rattle.std.proofs.lemmas.Bool.Decides.{Decides-ltb, Decides-int_eq}
use Rattle.base64.specs.Engines.{standard}
use Rattle.base64.specs.GeneralPurpose.{IsBytes, decode_of}
use Rattle.base64.specs.declared.decode.DecodeError.{DecodeError}
use Rattle.base64.proofs.EngineFacts.{decode_of-encode_of}
use Rattle.sm_time.specs.declared.format.Format.{Format}
use Rattle.sm_time.specs.declared.format.Format.TheVariants.{HttpDate, EpochSeconds}
use Rattle.sm_time.specs.Written.{written_stamp, IsWritable}
use Rattle.sm_tree.specs.Node.{Node, int, number, text}
use Rattle.sm_shapes.specs.Values.{Val, blob_val, time_val}
use Rattle.sm_shapes.specs.declared.fault.FaultKind.TheVariants.{Base64, Time, Repeated}
use Rattle.sm_codec.specs.declared.simple.Simple.TheVariants as the
use Rattle.sm_time.specs.StampTexts.{is_stamp}
use Rattle.sm_codec.specs.Convention.{is_of, are_bytes}
use Rattle.sm_codec.specs.Conventions.{read_base64, base64_text, decoded_blob, read_seconds, written_seconds, read_time_text}
use Rattle.sm_codec.specs.Conventions.{is_whole_second, has_text, or_fault, stamp_val}
use Rattle.sm_time.proofs.StampForms.{and_first, and_second, stamp_decides, at_most_int}
use Rattle.sm_codec.proofs.LeafLaws.{guarded, no_fault_where}
use Rattle.sm_codec.proofs.CborLaws.{whole_seconds, at_seconds}
use Rattle.sm_time.proofs.StampTold.{written_told}

bytes_small : (u : List ℕ) → are_bytes u ≡ true → IsBytes u
bytes_small [] h i = omega arith
bytes_small (b ∷ u) h zero = (Decides-ltb b 256).0 (and_first (nat_lt b 256) (are_bytes u) h)
bytes_small (b ∷ u) h (suc i) = bytes_small u (and_second (nat_lt b 256) (are_bytes u) h) i

pub blob_reads : (u : List ℕ) → are_bytes u ≡ true → read_base64 (base64_text u) ≡ Ok (blob_val u)
blob_reads u h =
    ap decoded_blob (decode_of-encode_of standard u refl (bytes_small u h)) ∙ ap (λ b. cond b (Ok (blob_val u)) (Err Base64)) h

decoded_of_type : (r : Result (List ℕ) DecodeError) (v : Val) → decoded_blob r ≡ Ok v → is_of the.Blob v ≡ true
decoded_of_type (Ok u) v h = guarded the.Blob (blob_val u) v Base64 (are_bytes u) refl h
decoded_of_type (Err e) v h = absurd cc

pub base64_of : (n : Node) (v : Val) → read_base64 n ≡ Ok v → is_of the.Blob v ≡ true
base64_of (text u) v h = decoded_of_type (decode_of standard u) v h
base64_of n v h = absurd cc

pub seconds_by : (ms : ℤ) (b : Bool) → is_whole_second ms ≡ b → is_stamp ms ≡ true
    → read_seconds (cond b (int (int_div ms (pos 1000))) (number (written_stamp EpochSeconds ms))) ≡ Ok (time_val ms)
seconds_by ms true e h = at_seconds ms (int_div ms (pos 1000) *ℤ pos 1000) (whole_seconds ms e) h
seconds_by ms false e h = ap (λ o. or_fault Time (stamp_val o)) (written_told EpochSeconds ms ((stamp_decides ms).0 h) tt)

pub seconds_read : (ms : ℤ) → is_stamp ms ≡ true → read_seconds (written_seconds ms) ≡ Ok (time_val ms)
seconds_read ms h = seconds_by ms (is_whole_second ms) refl h

pub time_text_reads : (format : Format) (ms : ℤ) → is_stamp ms ≡ true → IsWritable format ms
    → read_time_text format (text (written_stamp format ms)) ≡ Ok (time_val ms)
time_text_reads format ms h writable = ap (λ o. or_fault Time (stamp_val o)) (written_told format ms ((stamp_decides ms).0 h) writable)

-- the format has a text of the stamp
pub date_writable : (ms : ℤ) → has_text HttpDate ms ≡ true → IsWritable HttpDate ms
date_writable (pos n) h =
    let whole : is_whole_second (pos n) ≡ true = and_second (int_le (pos 0) (pos n)) (is_whole_second (pos n)) h in (
      (at_most_int (pos 0) (pos n)).0 (and_first (int_le (pos 0) (pos n)) (is_whole_second (pos n)) h),
      ap unsigned_abs ((Decides-int_eq (int_rem (pos n) (pos 1000)) (pos 0)).0 whole),
    )
date_writable (negsuc n) h = absurd cc

-- no fault of base64 is that a name is repeated
base64_wrong : Base64 ≡ Repeated → ⊥
base64_wrong h = cc

decoded_never : (r : Result (List ℕ) DecodeError) → decoded_blob r ≡ Err Repeated → ⊥
decoded_never (Ok u) h = no_fault_where (blob_val u) Base64 (are_bytes u) base64_wrong h
decoded_never (Err e) h = cc

pub base64_never : (n : Node) → read_base64 n ≡ Err Repeated → ⊥
base64_never (text u) h = decoded_never (decode_of standard u) h
base64_never n h = cc
