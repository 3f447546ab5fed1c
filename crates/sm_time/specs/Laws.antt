-- Laws of the definitions: the two ways to state the calendar agree, a text shows one form, is of one stamp and
-- has one answer, and what is written for a stamp is read back.
use Rattle.std.specs.Prelude.{◌≡◌, ℕ, List, ℤ, Result, Ok}
use Rattle.sm_time.specs.declared.format.Format.{Format}
use Rattle.sm_time.specs.declared.format.TimeRefusal.{TimeRefusal}
use Rattle.sm_time.specs.Calendar.{Date, IsDate, day_count, date_of}
use Rattle.sm_time.specs.TimeText.{Form, Shows, TimeText, IsStamp}
use Rattle.sm_time.specs.Written.{written_stamp, IsWritable}
use Rattle.sm_time.specs.Answers.{ReadsStamp}

-- the date after so many days is that many days after the first
abbrev pub CountOfDate : Type 0
CountOfDate = (n : ℕ) → day_count (date_of n) ≡ n

-- a date is the one after its count of days
abbrev pub DateOfCount : Type 0
DateOfCount = (d : Date) → IsDate d → date_of (day_count d) ≡ d

-- a text shows at most one form of a format
abbrev pub OneStampForm : Type 0
OneStampForm = (format : Format) (text : List ℕ) (a b : Form) → Shows format text a → Shows format text b → a ≡ b

-- it is of at most one stamp
abbrev pub OneReading : Type 0
OneReading = (format : Format) (text : List ℕ) (a b : ℤ) → TimeText format a text → TimeText format b text → a ≡ b

-- and has at most one answer
abbrev pub OneAnswer : Type 0
OneAnswer = (format : Format) (text : List ℕ) (r s : Result ℤ TimeRefusal) → ReadsStamp format text r → ReadsStamp format text s → r ≡ s

-- what is written for a stamp is a text of it
abbrev pub WrittenIsText : Type 0
WrittenIsText = (format : Format) (ms : ℤ) → IsStamp ms → IsWritable format ms → TimeText format ms (written_stamp format ms)

-- whatever is answered at a written text is its stamp
abbrev pub WrittenReadsBack : Type 0
WrittenReadsBack =
    (format : Format) (ms : ℤ) (r : Result ℤ TimeRefusal) → IsStamp ms → IsWritable format ms
    → ReadsStamp format (written_stamp format ms) r → r ≡ Ok ms
