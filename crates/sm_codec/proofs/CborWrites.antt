-- What the convention of CBOR writes can be written as CBOR.
use Rattle.std.proofs.Common.{◌≡◌, ℕ, ℤ, ◌^◌, ◌≤◌, ◌<◌, true, arith, ◌-◌}
use Rattle.std.specs.Prelude.{pos, negsuc, FitsSigned}
use Rattle.std.specs.Int.{w64}
use Rattle.std.proofs.lemmas.Bool.Decides.{Decides-ltb}
use Rattle.std.proofs.lemmas.Int.{ints, quot_fits, fits_signed_from_abs}
use Rattle.std.proofs.Math.Nat.{pow-le-pow_right}
use Rattle.std.proofs.lemmas.Str.{IsUtf8-from_is_utf8}
use Rattle.sm_tree.specs.Json.{IsCbor}
use Rattle.sm_time.specs.TimeText.{IsStamp}
use Rattle.sm_time.proofs.StampForms.{stamp_decides}
use Rattle.sm_shapes.specs.Values.{Val, bool_val, int_val, text_val, blob_val, time_val}
use Rattle.sm_codec.specs.declared.simple.Simple.{Simple}
use Rattle.sm_codec.specs.declared.simple.Simple.TheVariants as the
use Rattle.sm_codec.specs.Convention.{is_of, fits_bits}
use Rattle.sm_codec.specs.Conventions.{cbor_convention, cbor_written}
use Rattle.sm_codec.specs.WrittenLaws.{HasWidth, WritesCbor}
use Rattle.sm_codec.proofs.CborLaws.{cbor_laws}
use Rattle.sm_codec.proofs.LeafReadings.{are_of_bytes}

-- a number of at most 64 bits, one of them its sign
pub width_fits : (bits : ℕ) (z : ℤ) → bits ≤ 64 → fits_bits bits z ≡ true → FitsSigned w64 z
width_fits bits (pos n) few h =
    let small : n < 2 ^ (bits - 1) = (Decides-ltb n (2 ^ (bits - 1))).0 h in
    let most : 2 ^ (bits - 1) ≤ 2 ^ 63 = pow-le-pow_right {n = 2} (omega arith) {i = bits - 1} {j = 63} (omega arith) in
    fits_signed_from_abs w64 (pos n) (omega arith)
width_fits bits (negsuc n) few h =
    let small : n < 2 ^ (bits - 1) = (Decides-ltb n (2 ^ (bits - 1))).0 h in
    let most : 2 ^ (bits - 1) ≤ 2 ^ 63 = pow-le-pow_right {n = 2} (omega arith) {i = bits - 1} {j = 63} (omega arith) in
    record { sfits = omega arith }

pub stamp_fits : (ms : ℤ) → IsStamp ms → FitsSigned w64 ms
stamp_fits ms h = omega (arith, ints, h)

of_type_cbor : (x : Simple) (v : Val) → HasWidth x → is_of x v ≡ true → IsCbor (cbor_written x v)
of_type_cbor the.Blob (blob_val u) width h = are_of_bytes u h
of_type_cbor the.Boolean (bool_val b) width h = tt
of_type_cbor the.Text (text_val u) width h = IsUtf8-from_is_utf8 u h
of_type_cbor (the.Number bits) (int_val z) width h = width_fits bits z width h
of_type_cbor (the.Time format) (time_val ms) width h =
    (omega arith, quot_fits w64 ms (pos 1000) (stamp_fits ms ((stamp_decides ms).0 h)) (omega (arith, ints)))
of_type_cbor x v width h = absurd cc

pub cbor_writes : WritesCbor cbor_convention
cbor_writes = record {
  names = λ t shaped s k h. (shaped.utf8 k h).0;
  leaves = λ x v width h. of_type_cbor x v width (cbor_laws.carried_of_type x v h);
}
