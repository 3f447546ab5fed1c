-- A text shows one form of a format, and is of one stamp.
use Rattle.std.proofs.Common.{◌≡◌, List, ℕ, ℤ, sym, ap, ◌∙◌}
use Rattle.sm_time.specs.declared.format.Format.{Format}
use Rattle.sm_time.specs.declared.format.Format.TheVariants.{DateTime, HttpDate, EpochSeconds}
use Rattle.sm_time.specs.TimeText.{Form, clock_form, gmt_form, seconds_form, Shows, TimeText, moment}
use Rattle.sm_time.proofs.ClockForms.{one_clock}
use Rattle.sm_time.proofs.HttpForms.{one_gmt}
use Rattle.sm_time.proofs.NumberForms.{one_epoch}

-- two forms of a text are one
pub one_form : (format : Format) (text : List ℕ) (a b : Form) → Shows format text a → Shows format text b → a ≡ b
one_form DateTime text (clock_form l c ds z) (clock_form l' c' ds' z') h k = one_clock text l c ds z l' c' ds' z' h k
one_form DateTime text (clock_form l c ds z) (gmt_form d) h k = absurd k.0
one_form DateTime text (clock_form l c ds z) (seconds_form n i es) h k = absurd k.0
one_form DateTime text (gmt_form d) b h k = absurd h.0
one_form DateTime text (seconds_form n i es) b h k = absurd h.0
one_form HttpDate text (gmt_form c) (gmt_form d) h k = one_gmt text c d h k
one_form HttpDate text (gmt_form c) (clock_form l d ds z) h k = absurd k.0
one_form HttpDate text (gmt_form c) (seconds_form n i es) h k = absurd k.0
one_form HttpDate text (clock_form l d ds z) b h k = absurd h.0
one_form HttpDate text (seconds_form n i es) b h k = absurd h.0
one_form EpochSeconds text (seconds_form n i ds) (seconds_form n' i' ds') h k = one_epoch text n i ds n' i' ds' h k
one_form EpochSeconds text (seconds_form n i ds) (clock_form l d es z) h k = absurd k.0
one_form EpochSeconds text (seconds_form n i ds) (gmt_form d) h k = absurd k.0
one_form EpochSeconds text (clock_form l d es z) b h k = absurd h.0
one_form EpochSeconds text (gmt_form d) b h k = absurd h.0

-- two stamps of a text are one
pub one_reading : (format : Format) (text : List ℕ) (a b : ℤ) → TimeText format a text → TimeText format b text → a ≡ b
one_reading format text a b h k = sym h.3 ∙ ap moment (one_form format text h.0 k.0 h.1 k.1) ∙ k.3
