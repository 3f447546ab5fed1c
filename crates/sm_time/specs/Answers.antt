-- What `Stamp::read` and `Stamp::write_into` answer, by cases on the answer.
use Rattle.std.specs.Prelude.{◌≡◌, ℕ, ◌≤◌, List, take, drop, length, ℤ, Result, Ok, Err}
use Rattle.sm_time.specs.declared.format.Format.{Format}
use Rattle.sm_time.specs.declared.format.TimeRefusal.{TimeRefusal}
use Rattle.sm_time.specs.declared.format.TimeRefusal.TheVariants.{BadText, TooFine, OutOfRange, OutOfFormat}
use Rattle.sm_time.specs.TimeText.{Form, Shows, TimeText, IsWholeMillis, digits_of, moment, IsStamp}
use Rattle.sm_time.specs.Written.{written_stamp, IsWritable}

-- a text of the stamp; none of the format's texts; one that is finer than a millisecond; one whose moment is
-- no stamp's
abbrev pub ReadsStamp : Format → List ℕ → Result ℤ TimeRefusal → Type 0
ReadsStamp format text (Ok ms) = TimeText format ms text
ReadsStamp format text (Err BadText) = (form : Form) → ¬ (Shows format text form)
ReadsStamp format text (Err TooFine) = (form : Form) × Shows format text form × (¬ (IsWholeMillis (digits_of form)))
ReadsStamp format text (Err OutOfRange) =
    (form : Form) × Shows format text form × IsWholeMillis (digits_of form) × (¬ (IsStamp (moment form)))
ReadsStamp format text (Err OutOfFormat) = ⊥

-- the written text and its length, with the bytes after it as before; or a stamp that the format can't write,
-- and nothing written
abbrev pub WritesStamp : Format → ℤ → List ℕ → List ℕ → Result ℕ TimeRefusal → Type 0
WritesStamp format ms old new (Ok n) =
    IsWritable format ms × (n ≡ length (written_stamp format ms)) × (n ≤ 32) × (take n new ≡ written_stamp format ms)
    × (drop n new ≡ drop n old)
WritesStamp format ms old new (Err OutOfFormat) = (¬ (IsWritable format ms)) × (new ≡ old)
WritesStamp format ms old new (Err BadText) = ⊥
WritesStamp format ms old new (Err TooFine) = ⊥
WritesStamp format ms old new (Err OutOfRange) = ⊥
