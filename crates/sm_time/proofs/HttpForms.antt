-- IMF-fixdates of `httpdate` are those of this crate.
use Rattle.std.proofs.Common.{◌≡◌, ℕ, ◌+◌, ◌-◌, ◌*◌, ◌/◌, ◌%◌, ◌≤◌, List, ◌++◌, codes, refl, sym, ap, ◌∙◌, arith, inl, ℤ, pos, negsuc}
use Rattle.std.proofs.Common.{◌≤ℤ◌, unsigned_abs, Ok}
use Rattle.std.proofs.lemmas.Int.{ints}
use Rattle.httpdate.specs.declared.parts.Parts.{Parts}
use Rattle.httpdate.specs.declared.date.HttpDate.{HttpDate as Http}
use Rattle.httpdate.specs.Calendar.{days_from_civil, weekday as http_weekday}
use Rattle.httpdate.specs.Text.{imf_fixdate as http_fixdate}
use Rattle.httpdate.specs.Date.{IsDateText, date_text, unix_secs}
use Rattle.httpdate.proofs.Theorems.{IsDateText_unique}
use Rattle.sm_time.specs.declared.civil.Civil.{Civil}
use Rattle.sm_time.specs.declared.format.Format.TheVariants.{HttpDate}
use Rattle.sm_time.specs.Calendar.{day_count, weekday}
use Rattle.sm_time.specs.Civil.{IsCivil, date_in, second_count, imf_fixdate, day_name, two_digits, month_name, four_digits, time_of_day}
use Rattle.sm_time.specs.Civil.{civil_of}
use Rattle.sm_time.specs.TimeText.{Form, clock_form, gmt_form, seconds_form, Shows, IsStamp, moment, from_1970}
use Rattle.sm_time.specs.Written.{since_year_0}
use Rattle.sm_time.specs.Answers.{ReadsStamp}
use Rattle.sm_time.proofs.CalendarLinks.{http_days_are}
use Rattle.sm_time.proofs.Civils.{civil_of_count}

-- what the clock of a date shows
abbrev pub civil_in : Parts → Civil
civil_in p = record { year = p.year; month = p.mon; day = p.day; hour = p.hour; minute = p.min; second = p.sec }

-- the weekday of a date, from 0 for Monday
weekday_is : (p : Parts) → 1970 ≤ p.year → p.wday ≡ http_weekday (days_from_civil p.year p.mon p.day)
    → p.wday - 1 ≡ weekday (day_count (date_in (civil_in p)))
weekday_is p h e = omega (arith, http_days_are (date_in (civil_in p)) h)

-- the text of a date is the IMF-fixdate of its clock
pub text_is : (p : Parts) → 1970 ≤ p.year → p.wday ≡ http_weekday (days_from_civil p.year p.mon p.day)
    → http_fixdate p ≡ imf_fixdate (civil_in p)
text_is p h e =
    ap (λ w. day_name w ++ codes ", " ++ two_digits p.day ++ codes " " ++ month_name p.mon ++ codes " " ++ four_digits p.year ++ codes
    " " ++ time_of_day (civil_in p) ++ codes " GMT")
    (weekday_is p h e)

-- the calendar has a date's day
pub civil_there : (d : Http) → IsCivil (civil_in d.parts)
civil_there d = ((d.civil.0.1, d.civil.1.0, d.civil.1.1, d.civil.2.0, d.civil.2.1), d.time.0, d.time.1, d.time.2)

-- a date's seconds are counted from 1970
pub seconds_are : (d : Http) → second_count (civil_in d.parts) ≡ unix_secs d + 62_167_219_200
seconds_are d = omega (arith, http_days_are (date_in (civil_in d.parts)) d.civil.0.0)

-- the text that `httpdate` writes
pub date_text_is : (d : Http) → date_text d ≡ imf_fixdate (civil_in d.parts)
date_text_is d = text_is d.parts d.civil.0.0 d.right_day

-- the date of `httpdate` that shows a clock
http_of : (c : Civil) → IsCivil c → 1970 ≤ c.year → (d : Http) × (date_text d ≡ imf_fixdate c) × (civil_in d.parts ≡ c)
http_of c h low =
    let p : Parts = record {
      year = c.year;
      mon = c.month;
      day = c.day;
      hour = c.hour;
      min = c.minute;
      sec = c.second;
      wday =
          http_weekday (days_from_civil c.year c.month c.day);
    } in
    let d : Http = record { parts = p; civil = ((low, h.0.0), (h.0.1, h.0.2), (h.0.3, h.0.4)); time = (h.1, h.2, h.3); right_day = refl } in
    (d, text_is p low refl, refl)

-- where `httpdate` reads no date, no form is shown
pub no_date : (text : List ℕ) → ((d : Http) → IsDateText text d → ⊥) → (form : Form) → Shows HttpDate text form → ⊥
no_date text none (clock_form letter c ds z) h = h.0
no_date text none (gmt_form c) h = let there = http_of c h.0.0 h.0.1 in none there.0 (inl (h.1 ∙ sym there.1))
no_date text none (seconds_form n i ds) h = h.0

-- a date that the text shows, but not as it is written, is in no other form of the text
pub other_form : (text : List ℕ) (d : Http) → IsDateText text d → (text ≡ date_text d → ⊥) → (form : Form) → Shows HttpDate text form → ⊥
other_form text d shown other (clock_form letter c ds z) h = h.0
other_form text d shown other (gmt_form c) h =
    let there = http_of c h.0.0 h.0.1 in
    let e : text ≡ date_text there.0 = h.1 ∙ sym there.1 in
    other (e ∙ ap http_fixdate (IsDateText_unique text there.0 d (inl e) shown))
other_form text d shown other (seconds_form n i ds) h = h.0

-- seconds from the year 0 as milliseconds from 1970
from_seconds : (n secs : ℕ) → n ≡ secs + 62_167_219_200 → from_1970 n ≡ pos (secs * 1000)
from_seconds n secs e = omega (arith, ints)

-- whole seconds of a stamp from 1970 on
since_is : (ms : ℤ) (secs : ℕ) → pos 0 ≤ℤ ms → unsigned_abs ms % 1000 ≡ 0 → secs ≡ unsigned_abs ms / 1000
    → since_year_0 ms / 1000 ≡ secs + 62_167_219_200
since_is (pos n) secs low whole e = omega arith
since_is (negsuc n) secs low whole e = absurd (omega (arith, ints))

-- a date that is written as the text gives its stamp
pub date_read : (text : List ℕ) (d : Http) (ms : ℤ) → text ≡ date_text d → ms ≡ pos (unix_secs d * 1000) → IsStamp ms
    → ReadsStamp HttpDate text (Ok ms)
date_read text d ms e m there =
    let same : moment (gmt_form (civil_in d.parts)) ≡ ms = from_seconds (second_count (civil_in d.parts)) (unix_secs d) (seconds_are d)
    ∙ sym m in
    (gmt_form (civil_in d.parts), ((civil_there d, d.civil.0.0), e ∙ date_text_is d), (λ k z lt. absurd (omega arith)), same, there)

-- what is written for a stamp of whole seconds from 1970 on
pub date_written : (d : Http) (ms : ℤ) → pos 0 ≤ℤ ms → unsigned_abs ms % 1000 ≡ 0 → unix_secs d ≡ unsigned_abs ms / 1000
    → date_text d ≡ imf_fixdate (civil_of (since_year_0 ms / 1000))
date_written d ms low whole e =
    let count : since_year_0 ms / 1000 ≡ second_count (civil_in d.parts) = since_is ms (unix_secs d) low whole e ∙ sym (seconds_are d) in
    date_text_is d ∙ ap imf_fixdate (sym (ap civil_of count ∙ civil_of_count (civil_in d.parts) (civil_there d)))

-- an http-date shows one clock
pub one_gmt : (text : List ℕ) (c e : Civil) → Shows HttpDate text (gmt_form c) → Shows HttpDate text (gmt_form e) → gmt_form c ≡ gmt_form e
one_gmt text c e h k =
    let a = http_of c h.0.0 h.0.1 in
    let b = http_of e k.0.0 k.0.1 in
    let same = IsDateText_unique text a.0 b.0 (inl (h.1 ∙ sym a.1)) (inl (k.1 ∙ sym b.1)) in
    ap gmt_form (sym a.2 ∙ ap civil_in same ∙ b.2)
