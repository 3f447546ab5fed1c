-- The form that an IMF-fixdate shows is the one that is supposed of it.
use Rattle.std.proofs.Common.{◌≡◌, ℕ, zero, suc, ◌<◌, ◌≤◌, List, [], ◌∷◌, ◌++◌, refl, ap, ◌∙◌, arith}
use Rattle.std.specs.Prelude.{codes}
use Rattle.sm_time.specs.declared.civil.Civil.{Civil}
use Rattle.sm_time.specs.declared.format.Format.TheVariants.{HttpDate}
use Rattle.sm_time.specs.Calendar.{weekday, day_count}
use Rattle.sm_time.specs.Civil.{IsCivil, date_in, day_name, month_name, two_digits, four_digits, time_of_day, imf_fixdate}
use Rattle.sm_time.specs.TimeText.{Form, clock_form, gmt_form, seconds_form, IsStampForm, form_text}
use Rattle.sm_time.specs.StampTexts.{month_of, gmt_in, supposed}
use Rattle.sm_time.proofs.StampClocks.{two_back, four_back, month_days}

-- three bytes of a text
abbrev ThreeBytes : List ℕ → Type 0
ThreeBytes t = (a b c : ℕ) × (t ≡ a ∷ b ∷ c ∷ [])

day_bytes : (w : ℕ) → w < 7 → ThreeBytes (day_name w)
day_bytes zero h = (77, 111, 110, refl)
day_bytes (suc zero) h = (84, 117, 101, refl)
day_bytes (suc (suc zero)) h = (87, 101, 100, refl)
day_bytes (suc (suc (suc zero))) h = (84, 104, 117, refl)
day_bytes (suc (suc (suc (suc zero)))) h = (70, 114, 105, refl)
day_bytes (suc (suc (suc (suc (suc zero))))) h = (83, 97, 116, refl)
day_bytes (suc (suc (suc (suc (suc (suc zero)))))) h = (83, 117, 110, refl)
day_bytes (suc (suc (suc (suc (suc (suc (suc w))))))) h = absurd (omega (arith, h))

abbrev MonthBytes : ℕ → Type 0
MonthBytes m = (a b c : ℕ) × (month_name m ≡ a ∷ b ∷ c ∷ []) × (month_of (a ∷ b ∷ c ∷ []) ≡ m)

month_bytes : (m : ℕ) → 1 ≤ m → m ≤ 12 → MonthBytes m
month_bytes zero low high = absurd (omega (arith, low))
month_bytes (suc zero) low high = (74, 97, 110, refl, refl)
month_bytes (suc (suc zero)) low high = (70, 101, 98, refl, refl)
month_bytes (suc (suc (suc zero))) low high = (77, 97, 114, refl, refl)
month_bytes (suc (suc (suc (suc zero)))) low high = (65, 112, 114, refl, refl)
month_bytes (suc (suc (suc (suc (suc zero))))) low high = (77, 97, 121, refl, refl)
month_bytes (suc (suc (suc (suc (suc (suc zero)))))) low high = (74, 117, 110, refl, refl)
month_bytes (suc (suc (suc (suc (suc (suc (suc zero))))))) low high = (74, 117, 108, refl, refl)
month_bytes (suc (suc (suc (suc (suc (suc (suc (suc zero)))))))) low high = (65, 117, 103, refl, refl)
month_bytes (suc (suc (suc (suc (suc (suc (suc (suc (suc zero))))))))) low high = (83, 101, 112, refl, refl)
month_bytes (suc (suc (suc (suc (suc (suc (suc (suc (suc (suc zero)))))))))) low high = (79, 99, 116, refl, refl)
month_bytes (suc (suc (suc (suc (suc (suc (suc (suc (suc (suc (suc zero))))))))))) low high = (78, 111, 118, refl, refl)
month_bytes (suc (suc (suc (suc (suc (suc (suc (suc (suc (suc (suc (suc zero)))))))))))) low high = (68, 101, 99, refl, refl)
month_bytes (suc (suc (suc (suc (suc (suc (suc (suc (suc (suc (suc (suc (suc m))))))))))))) low high = absurd (omega (arith, high))

-- an IMF-fixdate by its day's name and its month's
abbrev shown : List ℕ → List ℕ → Civil → List ℕ
shown day month c =
    day ++ codes ", " ++ two_digits c.day ++ codes " " ++ month ++ codes " " ++ four_digits c.year ++ codes " " ++ time_of_day c ++ codes " GMT"

parts_back : (a b e f g k : ℕ) (c : Civil) → IsCivil c → month_of (f ∷ g ∷ k ∷ []) ≡ c.month
    → gmt_in (shown (a ∷ b ∷ e ∷ []) (f ∷ g ∷ k ∷ []) c) ≡ c
parts_back a b e f g k c h named =
    let year = four_back c.year h.0.0 in
    let day = two_back c.day (omega (arith, h.0.4, month_days c.year c.month)) in
    let hour = two_back c.hour (omega (arith, h.1)) in
    let minute = two_back c.minute (omega (arith, h.2)) in
    let second = two_back c.second (omega (arith, h.3)) in
    λ i. record { year = year i; month = named i; day = day i; hour = hour i; minute = minute i; second = second i }

date_back : (c : Civil) → IsCivil c → gmt_in (imf_fixdate c) ≡ c
date_back c h =
    let w = weekday (day_count (date_in c)) in
    let day = day_bytes w (omega arith) in
    let month = month_bytes c.month h.0.1 h.0.2 in
    ap (λ d. gmt_in (shown d (month_name c.month) c)) day.3
    ∙ ap (λ m. gmt_in (shown (day.0 ∷ day.1 ∷ day.2 ∷ []) m c)) month.3
    ∙ parts_back day.0 day.1 day.2 month.0 month.1 month.2 c h month.4

pub date_forms : (f : Form) → IsStampForm HttpDate f → supposed HttpDate (form_text f) ≡ f
date_forms (gmt_form c) h = ap gmt_form (date_back c h.0)
date_forms (clock_form letter c ds z) h = absurd h
date_forms (seconds_form n i ds) h = absurd h
