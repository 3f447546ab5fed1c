-- Values of payloads that are bytes, and of statuses.
use Rattle.std.proofs.Common.{◌≡◌, ◌<◌, ◌^◌, ℕ, pos, true, cond, List, refl, arith}
use Rattle.std.specs.Prelude.{◌&&◌, Err, Ok}
use Rattle.std.proofs.lemmas.Bool.Decides.{Decides-ltb}
use Rattle.sm_shapes.specs.Places.{Place}
use Rattle.sm_shapes.specs.Values.{int_val}
use Rattle.sm_shapes.specs.declared.fault.FaultKind.TheVariants.{Width}
use Rattle.sm_shapes.specs.declared.kinds.ShapeKind.{ShapeKind}
use Rattle.sm_shapes.specs.declared.kinds.ShapeKind.TheVariants as kinds
use Rattle.sm_codec.specs.Codec.{Codec}
use Rattle.sm_codec.specs.Convention.{fits_bits}
use Rattle.sm_parts.specs.Texts.{number_read}
use Rattle.sm_part_values.specs.PartTexts.{in_target, raw_by, text_reading}

-- what isn't a blob is a text
pub raw_text : (kind : ShapeKind) (c : Codec) (p : Place) (u : List ℕ) → (kind ≡ kinds.Blob → ⊥)
    → raw_by kind c p u ≡ text_reading in_target c p u
raw_text kinds.Blob c p u other = absurd (other refl)
raw_text kinds.Boolean c p u other = refl
raw_text kinds.Text c p u other = refl
raw_text kinds.Enum c p u other = refl
raw_text kinds.Byte c p u other = refl
raw_text kinds.Short c p u other = refl
raw_text kinds.Integer c p u other = refl
raw_text kinds.IntEnum c p u other = refl
raw_text kinds.Long c p u other = refl
raw_text kinds.Timestamp c p u other = refl
raw_text kinds.List c p u other = refl
raw_text kinds.Map c p u other = refl
raw_text kinds.Structure c p u other = refl
raw_text kinds.Union c p u other = refl
raw_text kinds.LeftOut c p u other = refl

-- a number of 16 bits is one of 32 and of 64
pub status_fits : (n : ℕ) → n < 65536 → number_read 32 (pos n) ≡ Ok (int_val (pos n))
status_fits n small =
    let wide : fits_bits 64 (pos n) ≡ true = (Decides-ltb n (2 ^ 63)).1 (omega (arith, small)) in
    let narrow : fits_bits 32 (pos n) ≡ true = (Decides-ltb n (2 ^ 31)).1 (omega (arith, small)) in
    λ i. cond (wide i && narrow i) (Ok (int_val (pos n))) (Err Width)
