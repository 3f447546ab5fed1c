-- The stamp of a text: what the tests of the supposed form leave is a stamp of the text, and what they refuse is none's.
use Rattle.std.proofs.Common.{◌≡◌, ℕ, ℤ, Bool, true, false, ◌&&◌, cond, List, refl, sym, ap, ◌∙◌, subst}
use Rattle.std.specs.Prelude.{Option, Some, None}
use Rattle.std.specs.Str.{bytes_eq}
use Rattle.std.proofs.lemmas.Slice.Eq.{bytes_eq-Decides}
use Rattle.sm_time.specs.declared.format.Format.{Format}
use Rattle.sm_time.specs.declared.format.Format.TheVariants.{DateTime, HttpDate, EpochSeconds}
use Rattle.sm_time.specs.TimeText.{Form, clock_form, gmt_form, seconds_form, form_text, digits_of, moment, IsStampForm, Shows, TimeText}
use Rattle.sm_time.specs.TimeText.{IsWholeMillis, IsStamp}
use Rattle.sm_time.specs.Written.{written_stamp, IsWritable}
use Rattle.sm_time.proofs.OneReading.{one_reading}
use Rattle.sm_time.proofs.WrittenTexts.{written_is_text}
use Rattle.sm_time.specs.StampTexts.{is_stamp, supposed, is_form, is_whole_millis, stamp_of, TellsStamp}
use Rattle.sm_time.proofs.StampForms.{and_first, and_second, form_decides, millis_decide, stamp_decides}
use Rattle.sm_time.proofs.StampClocks.{date_time_back, number_back}
use Rattle.sm_time.proofs.StampDates.{date_forms}

both : (a b : Bool) → a ≡ true → b ≡ true → (a && b) ≡ true
both a b h g = ap (λ c. c && b) h ∙ g

true_not_false : (b : Bool) → b ≡ true → b ≡ false → ⊥
true_not_false true h g = cc
true_not_false false h g = cc

abbrev tests : Format → List ℕ → Form → Bool
tests format t form = (is_form format form && bytes_eq t (form_text form)) && (is_whole_millis (digits_of form) && is_stamp (moment form))

-- the tests hold of a form that the text shows
all_pass : (format : Format) (t : List ℕ) (form : Form) → Shows format t form → IsWholeMillis (digits_of form) → IsStamp (moment form)
    → tests format t form ≡ true
all_pass format t form shown whole range =
    both (is_form format form && bytes_eq t (form_text form)) (is_whole_millis (digits_of form) && is_stamp (moment form))
    (both (is_form format form) (bytes_eq t (form_text form)) ((form_decides format form).1 shown.0)
    ((bytes_eq-Decides t (form_text form)).1 shown.1))
    (both (is_whole_millis (digits_of form)) (is_stamp (moment form)) ((millis_decide (digits_of form)).1 whole)
    ((stamp_decides (moment form)).1 range))

-- and what they hold of is shown
passed : (format : Format) (t : List ℕ) (form : Form) → tests format t form ≡ true → TimeText format (moment form) t
passed format t form h =
    let shown = and_first (is_form format form && bytes_eq t (form_text form))
    (is_whole_millis (digits_of form) && is_stamp (moment form)) h in
    let last = and_second (is_form format form && bytes_eq t (form_text form))
    (is_whole_millis (digits_of form) && is_stamp (moment form)) h in (
      form,
      (
        (form_decides format form).0 (and_first (is_form format form) (bytes_eq t (form_text form)) shown),
        (bytes_eq-Decides t (form_text form)).0 (and_second (is_form format form) (bytes_eq t (form_text form)) shown),
      ),
      (millis_decide (digits_of form)).0 (and_first (is_whole_millis (digits_of form)) (is_stamp (moment form)) last),
      refl,
      (stamp_decides (moment form)).0 (and_second (is_whole_millis (digits_of form)) (is_stamp (moment form)) last),
    )

told : (format : Format) (t : List ℕ) (form : Form) → ((f : Form) → Shows format t f → form ≡ f) → (b : Bool) → tests format t form ≡ b
    → TellsStamp format t (cond b (Some (moment form)) None)
told format t form only true e = passed format t form e
told format t form only false e =
    λ ms w. let same = only w.0 w.1 in
    let range : IsStamp (moment w.0) = subst IsStamp (sym w.3) w.4 in
    true_not_false (tests format t w.0) (all_pass format t w.0 w.1 w.2 range) (subst (λ f. tests format t f ≡ false) same e)

pub tells : (format : Format) → ((f : Form) → IsStampForm format f → supposed format (form_text f) ≡ f) → (t : List ℕ)
    → TellsStamp format t (stamp_of format t)
tells format back t =
    told format t (supposed format t) (λ f shown. ap (supposed format) shown.1 ∙ back f shown.0) (tests format t (supposed format t)) refl

clock_forms : (f : Form) → IsStampForm DateTime f → supposed DateTime (form_text f) ≡ f
clock_forms (clock_form letter c ds z) h = date_time_back letter c ds z h
clock_forms (gmt_form c) h = absurd h
clock_forms (seconds_form n i ds) h = absurd h

number_forms : (f : Form) → IsStampForm EpochSeconds f → supposed EpochSeconds (form_text f) ≡ f
number_forms (seconds_form n i ds) h = number_back n i ds h
number_forms (clock_form letter c ds z) h = absurd h
number_forms (gmt_form c) h = absurd h

-- in each format
pub stamp_told : (format : Format) (t : List ℕ) → TellsStamp format t (stamp_of format t)
stamp_told DateTime t = tells DateTime clock_forms t
stamp_told HttpDate t = tells HttpDate date_forms t
stamp_told EpochSeconds t = tells EpochSeconds number_forms t

-- the stamp that is written is told
written_told_by : (format : Format) (ms : ℤ) → IsStamp ms → IsWritable format ms → (o : Option ℤ)
    → TellsStamp format (written_stamp format ms) o → o ≡ Some ms
written_told_by format ms range writable (Some y) h =
    ap (λ z. Some z) (one_reading format (written_stamp format ms) y ms h (written_is_text format ms range writable))
written_told_by format ms range writable None h = absurd (h ms (written_is_text format ms range writable))

pub written_told : (format : Format) (ms : ℤ) → IsStamp ms → IsWritable format ms → stamp_of format (written_stamp format ms) ≡ Some ms
written_told format ms range writable =
    written_told_by format ms range writable (stamp_of format (written_stamp format ms)) (stamp_told format (written_stamp format ms))
