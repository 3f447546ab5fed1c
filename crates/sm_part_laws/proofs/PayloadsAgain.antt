-- The bytes of a payload come to its value, and the number of a status.
use Rattle.std.proofs.Common.{◌≡◌, ℕ, pos, negsuc, ◌<◌, ◌^◌, true, ◌&&◌, cond, List, [], ◌∷◌, refl, ap, ◌∙◌, arith}
use Rattle.std.specs.Prelude.{Err, Ok, int_le}
use Rattle.std.specs.Str.{is_utf8}
use Rattle.std.proofs.lemmas.Bool.Decides.{Decides-ltb, nat_tests}
use Rattle.std.proofs.lemmas.Str.{is_utf8-from_IsUtf8}
use Rattle.sm_tree.specs.Json.{AreBytes}
use Rattle.sm_shapes.specs.Fitting.{IsOfKind, MeetsConstraints}
use Rattle.sm_shapes.specs.Places.{Place, format_of, kind_of}
use Rattle.sm_shapes.specs.Values.{blob_val, int_val, text_val}
use Rattle.sm_shapes.specs.declared.fault.FaultKind.TheVariants.{Width, WrongType}
use Rattle.sm_shapes.specs.declared.kinds.ShapeKind.{ShapeKind}
use Rattle.sm_shapes.specs.declared.kinds.ShapeKind.TheVariants as kind
use Rattle.sm_codec.specs.Codec.{Codec}
use Rattle.sm_codec.specs.Convention.{are_bytes, fits_bits}
use Rattle.sm_codec.specs.FaultLists.{here, settled}
use Rattle.sm_codec.specs.Readings.{leaf_reading}
use Rattle.sm_codec.specs.Sorts.{sort_with}
use Rattle.sm_part_values.specs.PartTexts.{in_target, raw_by, text_by}
use Rattle.sm_part_laws.specs.Laws.{RawBlobRead, RawTextRead, StatusRead}

bytes_are : (u : List ℕ) → AreBytes u → are_bytes u ≡ true
bytes_are [] h = refl
bytes_are (b ∷ u) h = ap (λ t. t && are_bytes u) ((Decides-ltb b 256).1 h.0) ∙ bytes_are u h.1

module _ (c : Codec) (p : Place) (u : List ℕ) where
  blob_by : (k : ShapeKind) → IsOfKind k (blob_val u) → MeetsConstraints c.table c.test p (blob_val u) → raw_by k c p u ≡ Ok (blob_val u)
  blob_by kind.Blob of kept =
      ap (λ t. leaf_reading c p (cond t (Ok (blob_val u)) (Err WrongType))) (bytes_are u of)
      ∙ ap (λ kinds. settled (here kinds) (blob_val u)) kept
  blob_by k of kept = absurd of

  -- a string or an enum, whose place is one of texts
  text_is : text_by (sort_with in_target.usual kind.Text (format_of c.table p)) in_target c p u
      ≡ leaf_reading c p (cond (is_utf8 u) (Ok (text_val u)) (Err WrongType))
  text_is = refl

  text_read : is_utf8 u ≡ true → MeetsConstraints c.table c.test p (text_val u)
      → leaf_reading c p (cond (is_utf8 u) (Ok (text_val u)) (Err WrongType)) ≡ Ok (text_val u)
  text_read h kept =
      ap (λ t. leaf_reading c p (cond t (Ok (text_val u)) (Err WrongType))) h ∙ ap (λ kinds. settled (here kinds) (text_val u)) kept

  text_kind_read : (k : ShapeKind) → kind_of c.table p ≡ k → IsOfKind k (text_val u) → MeetsConstraints c.table c.test p (text_val u)
      → raw_by k c p u ≡ Ok (text_val u)
  text_kind_read kind.Text e of kept =
      ap (λ k. text_by (sort_with in_target.usual k (format_of c.table p)) in_target c p u) e
      ∙ text_read (is_utf8-from_IsUtf8 u of) kept
  text_kind_read kind.Enum e of kept =
      ap (λ k. text_by (sort_with in_target.usual k (format_of c.table p)) in_target c p u) e
      ∙ text_read (is_utf8-from_IsUtf8 u of) kept
  text_kind_read k e of kept = absurd of

pub raw_blob_again : RawBlobRead
raw_blob_again c p u fits = blob_by c p u (kind_of c.table p) fits.0 fits.1

pub raw_text_again : RawTextRead
raw_text_again c p u fits = text_kind_read c p u (kind_of c.table p) refl fits.0 fits.1

-- a number below 300 has fewer than 32 bits
few_bits : (n : ℕ) → n < 300 → (fits_bits 64 (pos n) && fits_bits 32 (pos n)) ≡ true
few_bits n h =
    ap (λ t. t && fits_bits 32 (pos n)) ((Decides-ltb n (2 ^ 63)).1 (omega (arith, h))) ∙ (Decides-ltb n (2 ^ 31)).1 (omega (arith, h))

status_small : (n : ℕ) → int_le (pos n) (pos 299) ≡ true → n < 300
status_small n h = grind (arith, nat_tests)

pub status_again : StatusRead
status_again c p (pos n) fits least most =
    ap (λ t. leaf_reading c p (cond t (Ok (int_val (pos n))) (Err Width))) (few_bits n (status_small n most))
    ∙ ap (λ kinds. settled (here kinds) (int_val (pos n))) fits.1
status_again c p (negsuc n) fits least most = absurd cc
