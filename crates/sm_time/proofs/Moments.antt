-- From the parts that the readers found to the stamp of the text.
use Rattle.std.proofs.Common.{◌≡◌, ℕ, ◌+◌, ◌*◌, ◌-◌, ◌^◌, min, Bool, true, false, List, sym, ap, subst, ◌∙◌, arith, ℤ, pos, neg_ℤ, ◌+ℤ◌}
use Rattle.std.proofs.Common.{◌-ℤ◌, Ok, Err}
use Rattle.std.proofs.lemmas.Int.{ints}
use Rattle.std.specs.Prelude.{if◌then◌else◌}
use Rattle.std.specs.Str.Parse.{digits_value}
use Rattle.sm_time.specs.declared.format.Format.TheVariants.{DateTime, EpochSeconds}
use Rattle.sm_time.specs.declared.format.TimeRefusal.TheVariants.{OutOfRange}
use Rattle.sm_time.specs.TimeText.{clock_form, seconds_form, Shows, IsWholeMillis, IsStamp, thousandths, from_1970, moment, offset}
use Rattle.sm_time.specs.Answers.{ReadsStamp}
use Rattle.sm_time.specs.steps.Parts.{ShowsClock}

-- what the code computes is the moment of the form
clock_moment : (text : List ℕ) (seconds : ℕ) (digits : List ℕ) (millis : ℕ) (ahead_by : ℤ) → (h : ShowsClock text seconds digits ahead_by)
    → millis ≡ thousandths digits → moment (clock_form h.0 h.1 digits h.2) ≡ from_1970 seconds +ℤ pos millis -ℤ ahead_by
clock_moment text seconds digits millis ahead_by h e =
    ap (λ s. from_1970 s +ℤ pos (thousandths digits) -ℤ offset h.2) (sym h.4)
    ∙ ap (λ n. from_1970 seconds +ℤ pos n -ℤ offset h.2) (sym e)
    ∙ ap (λ o. from_1970 seconds +ℤ pos millis -ℤ o) (sym h.5)

-- a moment in range is the stamp of a date-time
pub clock_read : (text : List ℕ) (seconds : ℕ) (digits : List ℕ) (millis : ℕ) (ahead_by ms : ℤ) → ShowsClock text seconds digits ahead_by
    → IsWholeMillis digits → millis ≡ thousandths digits → ms ≡ from_1970 seconds +ℤ pos millis -ℤ ahead_by → IsStamp ms
    → ReadsStamp DateTime text (Ok ms)
clock_read text seconds digits millis ahead_by ms h whole e m there =
    (clock_form h.0 h.1 digits h.2, h.3, whole, clock_moment text seconds digits millis ahead_by h e ∙ sym m, there)

-- and one out of range is none
pub clock_far : (text : List ℕ) (seconds : ℕ) (digits : List ℕ) (millis : ℕ) (ahead_by ms : ℤ) → ShowsClock text seconds digits ahead_by
    → IsWholeMillis digits → millis ≡ thousandths digits → ms ≡ from_1970 seconds +ℤ pos millis -ℤ ahead_by → (IsStamp ms → ⊥)
    → ReadsStamp DateTime text (Err OutOfRange)
clock_far text seconds digits millis ahead_by ms h whole e m far =
    let P : ℤ → Type 0 = λ z. IsStamp z in
    (clock_form h.0 h.1 digits h.2, h.3, whole, λ there. far (subst P (clock_moment text seconds digits millis ahead_by h e ∙ sym m) there))

-- a number's milliseconds with their sign
abbrev pub signed : Bool → ℕ → ℤ
signed negative ms = if negative then neg_ℤ (pos ms) else pos ms

-- the seconds, but a million million where they are more
abbrev pub capped : ℕ → ℕ
capped seconds = min (min seconds (2 ^ 64 - 1)) 1_000_000_000_000

-- a capped number of seconds is no stamp's
in_reach : (negative : Bool) (seconds millis : ℕ) → IsStamp (signed negative (capped seconds * 1000 + millis)) → seconds ≡ capped seconds
in_reach true seconds millis h = omega (arith, ints)
in_reach false seconds millis h = omega (arith, ints)

-- nor is an uncapped one beyond the cap
within_cap : (negative : Bool) (seconds millis : ℕ) → IsStamp (signed negative (seconds * 1000 + millis)) → seconds ≡ capped seconds
within_cap true seconds millis h = omega (arith, ints)
within_cap false seconds millis h = omega (arith, ints)

-- a number in range is the stamp of epoch-seconds
pub number_read : (text : List ℕ) (negative : Bool) (int digits : List ℕ) (seconds millis : ℕ) (ms : ℤ)
    → Shows EpochSeconds text (seconds_form negative int digits) → IsWholeMillis digits → millis ≡ thousandths digits
    → seconds ≡ capped (digits_value 10 int) → ms ≡ signed negative (seconds * 1000 + millis) → IsStamp ms
    → ReadsStamp EpochSeconds text (Ok ms)
number_read text negative int digits seconds millis ms h whole e cap m there =
    let P : ℤ → Type 0 = λ z. IsStamp z in
    let shown : ms ≡ signed negative (capped (digits_value 10 int) * 1000 + millis) = m
    ∙ ap (λ s. signed negative (s * 1000 + millis)) cap in
    let exact = in_reach negative (digits_value 10 int) millis (subst P shown there) in
    let same : moment (seconds_form negative int digits) ≡ ms =
    ap (λ n. signed negative (digits_value 10 int * 1000 + n)) (sym e) ∙ ap (λ s. signed negative (s * 1000 + millis)) exact ∙ sym shown in
    (seconds_form negative int digits, h, whole, same, there)

-- and one out of range is none
pub number_far : (text : List ℕ) (negative : Bool) (int digits : List ℕ) (seconds millis : ℕ) (ms : ℤ)
    → Shows EpochSeconds text (seconds_form negative int digits) → IsWholeMillis digits → millis ≡ thousandths digits
    → seconds ≡ capped (digits_value 10 int) → ms ≡ signed negative (seconds * 1000 + millis) → (IsStamp ms → ⊥)
    → ReadsStamp EpochSeconds text (Err OutOfRange)
number_far text negative int digits seconds millis ms h whole e cap m far =
    let P : ℤ → Type 0 = λ z. IsStamp z in
    let none : IsStamp (moment (seconds_form negative int digits)) → ⊥ = λ there.
    let near = subst P (ap (λ n. signed negative (digits_value 10 int * 1000 + n)) (sym e)) there in
    let exact = within_cap negative (digits_value 10 int) millis near in
    far (subst P (ap (λ s. signed negative (s * 1000 + millis)) (exact ∙ sym cap) ∙ sym m) near) in
    (seconds_form negative int digits, h, whole, none)
