-- The texts of date-time: 19 bytes, a fraction and a zone, which the text determines.
use Rattle.std.proofs.Common.{◌≡◌, ◌≢◌, ℕ, List, [], ◌∷◌, ◌++◌, take, drop, refl, sym, ap, ◌∙◌, arith, ℤ, Some, None, get_or}
use Rattle.std.proofs.lemmas.List.{take-append-drop}
use Rattle.sm_time.specs.declared.civil.Civil.{Civil}
use Rattle.sm_time.specs.declared.format.Format.TheVariants.{DateTime}
use Rattle.sm_time.specs.Civil.{clock_text, two_digits}
use Rattle.sm_time.specs.TimeText.{Form, clock_form, gmt_form, seconds_form, Shows, Zone, zulu, small_zulu, ahead, behind, zone_text}
use Rattle.sm_time.specs.TimeText.{fraction_text}
use Rattle.sm_time.proofs.DigitFacts.{same_first, same_rest, one_tail}
use Rattle.sm_time.specs.steps.Parts.{EndsFraction, SplitsFraction, ClockSeconds, ZoneOffset, ShowsClock}

-- a zone doesn't go on with a fraction
pub zone_ends : (z : Zone) → EndsFraction (zone_text z)
zone_ends zulu = (λ e. omega (arith, e), omega arith)
zone_ends small_zulu = (λ e. omega (arith, e), omega arith)
zone_ends (ahead h m) = (λ e. omega (arith, e), omega arith)
zone_ends (behind h m) = (λ e. omega (arith, e), omega arith)

-- the first 19 bytes are the clock's
pub clock_prefix : (text : List ℕ) (letter : ℕ) (c : Civil) (ds : List ℕ) (z : Zone) → Shows DateTime text (clock_form letter c ds z)
    → take 19 text ≡ clock_text letter c
clock_prefix text letter c ds z h = ap (take 19) h.1

-- the others are a fraction and a zone
pub behind_clock : (text : List ℕ) (letter : ℕ) (c : Civil) (ds : List ℕ) (z : Zone) → Shows DateTime text (clock_form letter c ds z)
    → drop 19 text ≡ fraction_text ds ++ zone_text z
behind_clock text letter c ds z h = ap (drop 19) h.1

-- where the prefix is no clock, no form is shown
pub no_clock : (text prefix : List ℕ) → prefix ≡ take 19 text → ClockSeconds prefix None → (form : Form) → Shows DateTime text form → ⊥
no_clock text prefix e none (clock_form letter c ds z) h = none letter c h.0.0 h.0.1 (e ∙ clock_prefix text letter c ds z h)
no_clock text prefix e none (gmt_form c) h = h.0
no_clock text prefix e none (seconds_form n int ds) h = h.0

-- a clock, a fraction and a zone make a form
pub shows_clock : (text prefix rest digits zone : List ℕ) (seconds : ℕ) (ms : ℤ) → prefix ≡ take 19 text → rest ≡ drop 19 text
    → ClockSeconds prefix (Some seconds) → SplitsFraction rest digits zone → ZoneOffset zone (Some ms) → ShowsClock text seconds digits ms
shows_clock text prefix rest digits zone seconds ms e f some split there =
    let letter = some.0 in
    let c = some.1 in
    let z = there.0 in
    let tail : rest ≡ fraction_text digits ++ zone_text z = split.parts ∙ ap (λ l. fraction_text digits ++ l) there.2 in
    let whole : text ≡ clock_text letter c ++ (fraction_text digits ++ zone_text z) = sym (take-append-drop 19 text)
    ∙ ap (λ l. l ++ drop 19 text) (sym e ∙ some.4) ∙ ap (λ l. clock_text letter c ++ l) (sym f ∙ tail) in
    (letter, c, z, ((some.2, some.3, split.are_digits, there.1), whole), some.5, there.3)

-- two digits are those of one number
two_same : (m n : ℕ) (s t : List ℕ) → two_digits m ++ s ≡ two_digits n ++ t → (m ≡ n) × (s ≡ t)
two_same m n s t e =
    let tens = same_first _ _ _ _ e in
    let rest = same_rest _ _ _ _ e in
    let ones = same_first _ _ _ _ rest in
    (omega (arith, tens, ones), same_rest _ _ _ _ rest)

-- 19 bytes show one letter and one clock
one_prefix : (letter letter' : ℕ) (c c' : Civil) → clock_text letter c ≡ clock_text letter' c' → (letter ≡ letter') × (c ≡ c')
one_prefix letter letter' c c' e =
    let at : (k : ℕ) → get_or (clock_text letter c) k 0 ≡ get_or (clock_text letter' c') k 0 = λ k. ap (λ l. get_or l k 0) e in
    let year : c.year ≡ c'.year = omega (arith, at 0, at 1, at 2, at 3) in
    let month : c.month ≡ c'.month = omega (arith, at 5, at 6) in
    let day : c.day ≡ c'.day = omega (arith, at 8, at 9) in
    let hour : c.hour ≡ c'.hour = omega (arith, at 11, at 12) in
    let minute : c.minute ≡ c'.minute = omega (arith, at 14, at 15) in
    let second : c.second ≡ c'.second = omega (arith, at 17, at 18) in
    (at 10, λ i. record { year = year i; month = month i; day = day i; hour = hour i; minute = minute i; second = second i })

-- an offset has one hour and one minute
one_shift : (sign : ℕ) (shift : ℕ → ℕ → Zone) (h m h' m' : ℕ)
    → sign ∷ (two_digits h ++ 58 ∷ two_digits m) ≡ sign ∷ (two_digits h' ++ 58 ∷ two_digits m') → shift h m ≡ shift h' m'
one_shift sign shift h m h' m' e =
    let hours = two_same h h' (58 ∷ two_digits m) (58 ∷ two_digits m') (same_rest _ _ _ _ e) in
    let minutes = two_same m m' [] [] (same_rest _ _ _ _ hours.1) in
    λ i. shift (hours.0 i) (minutes.0 i)

-- texts with other first bytes are two
differ : {P : Type 0} (a b : ℕ) (s t : List ℕ) → a ≢ b → a ∷ s ≡ b ∷ t → P
differ a b s t other e = absurd (other (same_first _ _ _ _ e))

-- a text is that of one zone
one_zone : (z z' : Zone) → zone_text z ≡ zone_text z' → z ≡ z'
one_zone zulu zulu e = refl
one_zone zulu small_zulu e = differ 90 122 _ _ (λ n. omega (arith, n)) e
one_zone zulu (ahead h m) e = differ 90 43 _ _ (λ n. omega (arith, n)) e
one_zone zulu (behind h m) e = differ 90 45 _ _ (λ n. omega (arith, n)) e
one_zone small_zulu zulu e = differ 122 90 _ _ (λ n. omega (arith, n)) e
one_zone small_zulu small_zulu e = refl
one_zone small_zulu (ahead h m) e = differ 122 43 _ _ (λ n. omega (arith, n)) e
one_zone small_zulu (behind h m) e = differ 122 45 _ _ (λ n. omega (arith, n)) e
one_zone (ahead h m) zulu e = differ 43 90 _ _ (λ n. omega (arith, n)) e
one_zone (ahead h m) small_zulu e = differ 43 122 _ _ (λ n. omega (arith, n)) e
one_zone (ahead h m) (ahead h' m') e = one_shift 43 ahead h m h' m' e
one_zone (ahead h m) (behind h' m') e = differ 43 45 _ _ (λ n. omega (arith, n)) e
one_zone (behind h m) zulu e = differ 45 90 _ _ (λ n. omega (arith, n)) e
one_zone (behind h m) small_zulu e = differ 45 122 _ _ (λ n. omega (arith, n)) e
one_zone (behind h m) (ahead h' m') e = differ 45 43 _ _ (λ n. omega (arith, n)) e
one_zone (behind h m) (behind h' m') e = one_shift 45 behind h m h' m' e

-- the parts are determined
pub one_clock : (text : List ℕ) (letter : ℕ) (c : Civil) (ds : List ℕ) (z : Zone) (letter' : ℕ) (c' : Civil) (ds' : List ℕ) (z' : Zone)
    → Shows DateTime text (clock_form letter c ds z) → Shows DateTime text (clock_form letter' c' ds' z')
    → clock_form letter c ds z ≡ clock_form letter' c' ds' z'
one_clock text letter c ds z letter' c' ds' z' h k =
    let prefix = one_prefix letter letter' c c' (sym (clock_prefix text letter c ds z h) ∙ clock_prefix text letter' c' ds' z' k) in
    let back = sym (behind_clock text letter c ds z h) ∙ behind_clock text letter' c' ds' z' k in
    let tail = one_tail ds ds' (zone_text z) (zone_text z') h.0.2 k.0.2 (zone_ends z) (zone_ends z') back in
    let zone = one_zone z z' tail.1 in
    λ i. clock_form (prefix.0 i) (prefix.1 i) (tail.0 i) (zone i)
