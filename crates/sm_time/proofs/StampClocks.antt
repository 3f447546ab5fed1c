-- The form that a text of date-time or of epoch-seconds shows is the one that is supposed of it.
use Rattle.std.proofs.Common.{◌≡◌, ℕ, ◌+◌, ◌-◌, ◌*◌, ◌/◌, ◌%◌, ◌<◌, ◌≤◌, Bool, true, false, List, [], ◌∷◌, ◌++◌, drop, refl, ap, ◌∙◌}
use Rattle.std.proofs.Common.{subst, arith, append-nil}
use Rattle.std.specs.Prelude.{◌==◌, ◌||◌, if◌then◌else◌}
use Rattle.std.specs.Char.{is_ascii_digit, digit_value}
use Rattle.std.specs.List.{prefix_len}
use Rattle.std.specs.Str.Parse.{AllDigits}
use Rattle.std.proofs.lemmas.Bool.Decides.{Decides-eqb}
use Rattle.std.proofs.lemmas.List.{take-append-drop}
use Rattle.sm_bytes.specs.Ascii.{minus}
use Rattle.sm_time.specs.declared.civil.Civil.{Civil}
use Rattle.sm_time.specs.declared.format.Format.TheVariants.{DateTime, EpochSeconds}
use Rattle.sm_time.specs.Calendar.{days_in_month, is_leap_year}
use Rattle.sm_time.specs.Civil.{IsCivil, clock_text}
use Rattle.sm_time.specs.TimeText.{clock_form, seconds_form, IsStampForm, IsZone, IsIntDigits, form_text, Zone, zulu, small_zulu, ahead}
use Rattle.sm_time.specs.TimeText.{behind, zone_text, fraction_text}
use Rattle.sm_time.specs.steps.Parts.{NoDigitFirst}
use Rattle.sm_time.proofs.DigitFacts.{run_digits, run_ends, one_run, no_digit}
use Rattle.sm_time.proofs.ClockForms.{zone_ends}
use Rattle.sm_time.specs.StampTexts.{digits_first, behind_digits, fraction_first, behind_fraction, zone_in, clock_in, is_negative_in}
use Rattle.sm_time.specs.StampTexts.{supposed}

-- digits and what is behind them are told by a run
run_back : (ds r : List ℕ) → AllDigits 10 ds → NoDigitFirst r → (digits_first (ds ++ r) ≡ ds) × (behind_digits (ds ++ r) ≡ r)
run_back ds r h ends =
    let t = ds ++ r in
    one_run (digits_first t) ds (behind_digits t) r (run_digits t) h (run_ends t) ends (take-append-drop (prefix_len is_ascii_digit t) t)

-- the fraction in front of a zone
fraction_back : (ds : List ℕ) (z : Zone) → AllDigits 10 ds
    → (fraction_first (fraction_text ds ++ zone_text z) ≡ ds) × (behind_fraction (fraction_text ds ++ zone_text z) ≡ zone_text z)
fraction_back [] zulu h = (refl, refl)
fraction_back [] small_zulu h = (refl, refl)
fraction_back [] (ahead hour m) h = (refl, refl)
fraction_back [] (behind hour m) h = (refl, refl)
fraction_back (d ∷ ds) z h = run_back (d ∷ ds) (zone_text z) h (no_digit (zone_text z) (zone_ends z))

pub two_back : (n : ℕ) → n < 100 → (48 + n / 10 - 48) * 10 + (48 + n % 10 - 48) ≡ n
two_back n h = omega (arith, h)

pub four_back : (n : ℕ) → n ≤ 9999
    → ((48 + n / 100 / 10 - 48) * 10 + (48 + n / 100 % 10 - 48)) * 100 + ((48 + n % 100 / 10 - 48) * 10 + (48 + n % 100 % 10 - 48)) ≡ n
four_back n h = omega (arith, h)

zone_back : (z : Zone) → IsZone z → zone_in (zone_text z) ≡ z
zone_back zulu h = refl
zone_back small_zulu h = refl
zone_back (ahead hour m) h =
    let hours = two_back hour (omega (arith, h.0)) in
    let minutes = two_back m (omega (arith, h.1)) in
    λ i. ahead (hours i) (minutes i)
zone_back (behind hour m) h =
    let hours = two_back hour (omega (arith, h.0)) in
    let minutes = two_back m (omega (arith, h.1)) in
    λ i. behind (hours i) (minutes i)

two_ways : (b : Bool) (x y n : ℕ) → x < n → y < n → (if b then x else y) < n
two_ways true x y n h g = h
two_ways false x y n h g = g

pub month_days : (y m : ℕ) → days_in_month y m < 100
month_days y m =
    two_ways (m == 2) (if is_leap_year y then 29 else 28) (if (m == 4) || (m == 6) || (m == 9) || (m == 11) then 30 else 31) 100
    (two_ways (is_leap_year y) 29 28 100 (omega arith) (omega arith))
    (two_ways ((m == 4) || (m == 6) || (m == 9) || (m == 11)) 30 31 100 (omega arith) (omega arith))

clock_back : (letter : ℕ) (c : Civil) (rest : List ℕ) → IsCivil c → clock_in (clock_text letter c ++ rest) ≡ c
clock_back letter c rest h =
    let year = four_back c.year h.0.0 in
    let month = two_back c.month (omega (arith, h.0.2)) in
    let day = two_back c.day (omega (arith, h.0.4, month_days c.year c.month)) in
    let hour = two_back c.hour (omega (arith, h.1)) in
    let minute = two_back c.minute (omega (arith, h.2)) in
    let second = two_back c.second (omega (arith, h.3)) in
    λ i. record { year = year i; month = month i; day = day i; hour = hour i; minute = minute i; second = second i }

same_clock : (letter : ℕ) (c d : Civil) (ds es : List ℕ) (z y : Zone) → c ≡ d → ds ≡ es → z ≡ y
    → clock_form letter c ds z ≡ clock_form letter d es y
same_clock letter c d ds es z y a b e = λ i. clock_form letter (a i) (b i) (e i)

pub date_time_back : (letter : ℕ) (c : Civil) (ds : List ℕ) (z : Zone) → IsStampForm DateTime (clock_form letter c ds z)
    → supposed DateTime (form_text (clock_form letter c ds z)) ≡ clock_form letter c ds z
date_time_back letter c ds z h =
    let rest = fraction_text ds ++ zone_text z in
    let parts = fraction_back ds z h.2 in
    same_clock letter (clock_in (clock_text letter c ++ rest)) c (fraction_first rest) ds (zone_in (behind_fraction rest)) z
    (clock_back letter c rest h.1) parts.0 (ap zone_in parts.1 ∙ zone_back z h.3)

-- a number without its sign
tail_ends : (ds : List ℕ) → NoDigitFirst (fraction_text ds)
tail_ends [] = tt
tail_ends (d ∷ ds) = omega arith

-- a fraction at the end
end_back : (ds : List ℕ) → AllDigits 10 ds → fraction_first (fraction_text ds) ≡ ds
end_back [] h = refl
end_back (d ∷ ds) h = go (run_back (d ∷ ds) [] h tt).0
  where
    go : digits_first ((d ∷ ds) ++ []) ≡ d ∷ ds → digits_first (d ∷ ds) ≡ d ∷ ds
    go e = subst (λ t. digits_first t ≡ d ∷ ds) (append-nil (d ∷ ds)) e

same_number : (n : Bool) (i j ds es : List ℕ) → i ≡ j → ds ≡ es → seconds_form n i ds ≡ seconds_form n j es
same_number n i j ds es a b = λ k. seconds_form n (a k) (b k)

-- what follows the sign
behind_sign : (n : Bool) (i ds : List ℕ) → IsStampForm EpochSeconds (seconds_form n i ds)
    → seconds_form n (digits_first (i ++ fraction_text ds)) (fraction_first (behind_digits (i ++ fraction_text ds))) ≡ seconds_form n i ds
behind_sign n i ds h =
    let parts = run_back i (fraction_text ds) h.0.0.1 (tail_ends ds) in
    same_number n (digits_first (i ++ fraction_text ds)) i (fraction_first (behind_digits (i ++ fraction_text ds))) ds parts.0
    (ap fraction_first parts.1 ∙ end_back ds h.1)

not_minus : (b : Bool) (d : ℕ) → (d == minus) ≡ b → digit_value d < 10 → b ≡ false
not_minus true d e h = let same : d ≡ 45 = (Decides-eqb d 45).0 e in absurd (omega (arith, ap digit_value same, h))
not_minus false d e h = refl

no_sign : (i s : List ℕ) → IsIntDigits i → is_negative_in (i ++ s) ≡ false
no_sign [] s h = absurd (omega (arith, h.0.0))
no_sign (d ∷ i) s h = not_minus (d == minus) d refl h.0.1.0

unsigned : (t : List ℕ) → is_negative_in t ≡ false
    → supposed EpochSeconds t ≡ seconds_form false (digits_first t) (fraction_first (behind_digits t))
unsigned t e =
    ap (λ b. seconds_form b (digits_first (if b then drop 1 t else t)) (fraction_first (behind_digits (if b then drop 1 t else t)))) e

pub number_back : (n : Bool) (i ds : List ℕ) → IsStampForm EpochSeconds (seconds_form n i ds)
    → supposed EpochSeconds (form_text (seconds_form n i ds)) ≡ seconds_form n i ds
number_back true i ds h = behind_sign true i ds h
number_back false i ds h = unsigned (i ++ fraction_text ds) (no_sign i (fraction_text ds) h.0) ∙ behind_sign false i ds h
