-- A text determines what is answered at it, and a written text is answered by its stamp.
use Rattle.std.proofs.Common.{◌≡◌, List, ℕ, ℤ, Result, Ok, Err, refl, sym, ap, subst}
use Rattle.sm_time.specs.declared.format.Format.{Format}
use Rattle.sm_time.specs.declared.format.TimeRefusal.{TimeRefusal}
use Rattle.sm_time.specs.declared.format.TimeRefusal.TheVariants.{BadText, TooFine, OutOfRange, OutOfFormat}
use Rattle.sm_time.specs.TimeText.{Form, Shows, TimeText, IsWholeMillis, IsStamp, digits_of, moment}
use Rattle.sm_time.specs.Written.{written_stamp, IsWritable}
use Rattle.sm_time.specs.Answers.{ReadsStamp}
use Rattle.sm_time.proofs.OneReading.{one_form, one_reading}
use Rattle.sm_time.proofs.WrittenTexts.{written_is_text}

-- one form, so one answer to whether it is fine enough
same_whole : (format : Format) (text : List ℕ) (a b : Form) → Shows format text a → Shows format text b → IsWholeMillis (digits_of a)
    → IsWholeMillis (digits_of b)
same_whole format text a b h k whole = let P : Form
    → Type 0 = λ f. IsWholeMillis (digits_of f) in subst P (one_form format text a b h k) whole

-- and to whether its moment is in range
same_range : (format : Format) (text : List ℕ) (a b : Form) → Shows format text a → Shows format text b → IsStamp (moment a)
    → IsStamp (moment b)
same_range format text a b h k there = let P : Form → Type 0 = λ f. IsStamp (moment f) in subst P (one_form format text a b h k) there

-- a text of a stamp is refused in no way
not_refused : (format : Format) (text : List ℕ) (ms : ℤ) (e : TimeRefusal) → TimeText format ms text → ReadsStamp format text (Err e) → ⊥
not_refused format text ms BadText h k = k h.0 h.1
not_refused format text ms TooFine h k = k.2 (same_whole format text h.0 k.0 h.1 k.1 h.2)
not_refused format text ms OutOfRange h k = let P : ℤ
    → Type 0 = λ z. IsStamp z in k.3 (same_range format text h.0 k.0 h.1 k.1 (subst P (sym h.3) h.4))
not_refused format text ms OutOfFormat h k = k

-- a text is refused in one way
one_refusal : (format : Format) (text : List ℕ) (d e : TimeRefusal) → ReadsStamp format text (Err d) → ReadsStamp format text (Err e)
    → d ≡ e
one_refusal format text BadText BadText h k = refl
one_refusal format text BadText TooFine h k = absurd (h k.0 k.1)
one_refusal format text BadText OutOfRange h k = absurd (h k.0 k.1)
one_refusal format text BadText OutOfFormat h k = absurd k
one_refusal format text TooFine BadText h k = absurd (k h.0 h.1)
one_refusal format text TooFine TooFine h k = refl
one_refusal format text TooFine OutOfRange h k = absurd (h.2 (same_whole format text k.0 h.0 k.1 h.1 k.2))
one_refusal format text TooFine OutOfFormat h k = absurd k
one_refusal format text OutOfRange BadText h k = absurd (k h.0 h.1)
one_refusal format text OutOfRange TooFine h k = absurd (k.2 (same_whole format text h.0 k.0 h.1 k.1 h.2))
one_refusal format text OutOfRange OutOfRange h k = refl
one_refusal format text OutOfRange OutOfFormat h k = absurd k
one_refusal format text OutOfFormat e h k = absurd h

-- two answers at a text are one
pub one_answer : (format : Format) (text : List ℕ) (r s : Result ℤ TimeRefusal) → ReadsStamp format text r → ReadsStamp format text s
    → r ≡ s
one_answer format text (Ok a) (Ok b) h k = ap Ok (one_reading format text a b h k)
one_answer format text (Ok a) (Err e) h k = absurd (not_refused format text a e h k)
one_answer format text (Err e) (Ok b) h k = absurd (not_refused format text b e k h)
one_answer format text (Err d) (Err e) h k = ap Err (one_refusal format text d e h k)

-- the answer at a written text is its stamp
pub written_reads_back : (format : Format) (ms : ℤ) (r : Result ℤ TimeRefusal) → IsStamp ms → IsWritable format ms
    → ReadsStamp format (written_stamp format ms) r → r ≡ Ok ms
written_reads_back format ms r h w reads = one_answer format (written_stamp format ms) r (Ok ms) reads (written_is_text format ms h w)
