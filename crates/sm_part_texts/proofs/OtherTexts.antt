-- The texts of numbers, truth values and stamps are neither empty nor have blanks around them, and stand in fields.
use Rattle.std.proofs.Common.{◌≡◌, inl, inr, ℕ, zero, suc, ◌<◌, ◌≤◌, ◌+◌, ◌-◌, ◌/◌, ◌%◌, ◌^◌, ℤ, pos, negsuc, Bool, true, false, ◌&&◌, cond}
use Rattle.std.proofs.Common.{List, [], ◌∷◌, ◌++◌, length, reverse, refl, sym, ap, ◌∙◌, subst, arith}
use Rattle.std.specs.Prelude.{◌==◌, not, nat_le, slice_index_or, codes, FitsSigned, if◌then◌else◌, Option, None, Some}
use Rattle.std.specs.Char.{digit_value}
use Rattle.std.specs.Fmt.{decimal, signed_decimal}
use Rattle.std.specs.Int.{w8, w16, w32, w64}
use Rattle.std.specs.List.{list_all}
use Rattle.std.specs.Str.{bytes_eq}
use Rattle.std.specs.Str.Parse.{AllDigits}
use Rattle.std.proofs.lemmas.Bool.Decides.{nat_tests}
use Rattle.std.proofs.lemmas.Fmt.{decimal_is_IsNumeral}
use Rattle.std.proofs.lemmas.List.{reverse-append, reverse-reverse}
use Rattle.std.proofs.lemmas.List.Folds.{list_all-append}
use Rattle.std.proofs.lemmas.Slice.Eq.{bytes_eq-Decides}
use Rattle.std.proofs.lemmas.Str.Parse.{digit_at}
use Rattle.httparse.specs.Grammar.{is_ows, skip_ows, trim_ows}
use Rattle.sm_bytes.specs.Ascii.{digit_zero, full_stop}
use Rattle.sm_time.specs.declared.format.Format.{Format}
use Rattle.sm_time.specs.declared.format.Format.TheVariants.{DateTime, HttpDate, EpochSeconds}
use Rattle.sm_time.specs.declared.civil.Civil.{Civil}
use Rattle.sm_time.specs.Calendar.{weekday, day_count, days_in_month}
use Rattle.sm_time.specs.Civil.{IsCivil, date_in, two_digits, four_digits, full_date, time_of_day, clock_text, day_name, month_name}
use Rattle.sm_time.specs.Civil.{imf_fixdate}
use Rattle.sm_time.specs.TimeText.{Form, clock_form, gmt_form, seconds_form, IsStampForm, IsLetter, IsZone, IsStamp, form_text}
use Rattle.sm_time.specs.TimeText.{fraction_text, zone_text, Zone, zulu, small_zulu, ahead, behind}
use Rattle.sm_time.specs.StampTexts.{is_stamp}
use Rattle.sm_time.specs.Written.{written_stamp, IsWritable}
use Rattle.sm_time.proofs.StampForms.{and_first, and_second, stamp_decides}
use Rattle.sm_time.proofs.StampClocks.{month_days}
use Rattle.sm_time.proofs.WrittenTexts.{written_is_text}
use Rattle.sm_shapes.specs.Fitting.{IsOfKind}
use Rattle.sm_shapes.specs.Places.{kind_of}
use Rattle.sm_shapes.specs.Values.{Val, bool_val, int_val, text_val, time_val}
use Rattle.sm_shapes.specs.declared.kinds.ShapeKind.{ShapeKind}
use Rattle.sm_shapes.specs.declared.kinds.ShapeKind.TheVariants as kind
use Rattle.sm_codec.specs.Conventions.{has_text}
use Rattle.sm_codec.specs.declared.simple.Simple.{Simple}
use Rattle.sm_codec.specs.declared.simple.Simple.TheVariants as the
use Rattle.sm_codec.proofs.TextLeaves.{date_writable}
use Rattle.sm_parts.specs.HeaderLists.{is_filled}
use Rattle.sm_parts.specs.Texts.{has_written_text, is_field_byte, text_written, truth_text}
use Rattle.sm_part_texts.specs.CarriedTexts.{has_text_by, is_field_text, passes, usual_in, value_passes}
use Rattle.sm_part_texts.specs.Laws.{CarriedTextsPass}
use Rattle.sm_part_texts.specs.PlaceTexts.{simple_at, text_by}
use Rattle.sm_part_texts.specs.declared.carried.TextTest.{TextTest}
use Rattle.sm_part_texts.specs.declared.carried.TextTest.TheVariants.{OfLabel, OfQuery, OfEntry, OfField}

-- bytes from 0x21 on: those of fields that are no blanks
abbrev is_visible : ℕ → Bool
is_visible b = nat_le 33 b && nat_le b 126

abbrev all_visible : List ℕ → Bool
all_visible u = list_all is_visible u

abbrev all_field : List ℕ → Bool
all_field u = list_all is_field_byte u

abbrev starts : List ℕ → Bool
starts [] = false
starts (b ∷ u) = not (is_ows b)

visible_from : (b : ℕ) → 33 ≤ b → b ≤ 126 → is_visible b ≡ true
visible_from b low high = grind (arith, nat_tests)

visible_field : (b : ℕ) → is_visible b ≡ true → is_field_byte b ≡ true
visible_field b h = grind (arith, nat_tests)

visible_dark : (b : ℕ) → is_visible b ≡ true → not (is_ows b) ≡ true
visible_dark b h = grind (arith, nat_tests)

joined : (test : ℕ → Bool) (u v : List ℕ) → list_all test u ≡ true → list_all test v ≡ true → list_all test (u ++ v) ≡ true
joined test u v h g = list_all-append test u v ∙ ap (λ t. t && list_all test v) h ∙ g

field_of : (u : List ℕ) → all_visible u ≡ true → all_field u ≡ true
field_of [] h = refl
field_of (b ∷ u) h =
    ap (λ t. t && all_field u) (visible_field b (and_first (is_visible b) (all_visible u) h))
    ∙ field_of u (and_second (is_visible b) (all_visible u) h)

-- the first byte, and the last
keeps : (u v : List ℕ) → starts u ≡ true → starts (u ++ v) ≡ true
keeps [] v h = absurd (no h)
  where
    no : false ≡ true → ⊥
    no e = cc
keeps (b ∷ u) v h = h

first_of : (b : ℕ) (u : List ℕ) → all_visible (b ∷ u) ≡ true → starts (b ∷ u) ≡ true
first_of b u h = visible_dark b (and_first (is_visible b) (all_visible u) h)

last_of : (b : ℕ) (u : List ℕ) → all_visible (b ∷ u) ≡ true → starts (reverse (b ∷ u)) ≡ true
last_of b [] h = first_of b [] h
last_of b (c ∷ u) h =
    subst (λ w. starts w ≡ true) (sym (reverse-append (b ∷ []) (c ∷ u)))
    (keeps (reverse (c ∷ u)) (reverse (b ∷ [])) (last_of c u (and_second (is_visible b) (all_visible (c ∷ u)) h)))

skips_none : (u : List ℕ) → starts u ≡ true → skip_ows u ≡ u
skips_none [] h = refl
skips_none (b ∷ u) h = by (is_ows b) refl
  where
    by : (t : Bool) → is_ows b ≡ t → (if t then skip_ows u else b ∷ u) ≡ b ∷ u
    by true e = absurd (no (sym (ap not e) ∙ h))
      where
        no : false ≡ true → ⊥
        no e = cc
    by false e = refl

trimmed : (u : List ℕ) → starts u ≡ true → starts (reverse u) ≡ true → trim_ows u ≡ u
unfolding trim_ows
trimmed u h g =
    ap (λ w. reverse (skip_ows (reverse w))) (skips_none u h) ∙ ap reverse (skips_none (reverse u) g) ∙ reverse-reverse u

-- a text that passes each test
pub record IsPlain (u : List ℕ) : Type 0 where
  pub bytes : all_field u ≡ true
  pub trim : trim_ows u ≡ u
  pub filled : is_filled u ≡ true

filled_of : (u : List ℕ) → starts u ≡ true → is_filled u ≡ true
filled_of [] h = h
filled_of (b ∷ u) h = refl

plain_of : (u : List ℕ) → all_field u ≡ true → starts u ≡ true → starts (reverse u) ≡ true → IsPlain u
plain_of u bytes first last = record { bytes = bytes; trim = trimmed u first last; filled = filled_of u first }

visible_plain : (b : ℕ) (u : List ℕ) → all_visible (b ∷ u) ≡ true → IsPlain (b ∷ u)
visible_plain b u h = plain_of (b ∷ u) (field_of (b ∷ u) h) (first_of b u h) (last_of b u h)

-- digits
digit_visible : (c : ℕ) → digit_value c < 10 → is_visible c ≡ true
digit_visible c h = let at = digit_at (c ∷ []) 0 (h, tt) (omega arith) in visible_from c (omega (arith, at.0)) (omega (arith, at.1))

digits_visible : (ds : List ℕ) → AllDigits 10 ds → all_visible ds ≡ true
digits_visible [] h = refl
digits_visible (d ∷ ds) h = ap (λ t. t && all_visible ds) (digit_visible d h.0) ∙ digits_visible ds h.1

digits_plain : (ds : List ℕ) → 0 < length ds → AllDigits 10 ds → IsPlain ds
digits_plain [] h digits = absurd (omega (arith, h))
digits_plain (d ∷ ds) h digits = visible_plain d ds (digits_visible (d ∷ ds) digits)

number_plain : (z : ℤ) → FitsSigned w64 z → IsPlain (signed_decimal z)
number_plain (pos n) h = let digits = decimal_is_IsNumeral n (omega (arith, h)) in digits_plain (decimal n) digits.0.0 digits.0.1
number_plain (negsuc n) h =
    let digits = decimal_is_IsNumeral (suc n) (omega (arith, h)) in
    visible_plain 45 (decimal (suc n)) (digits_visible (decimal (suc n)) digits.0.1)

two_visible : (n : ℕ) → n < 100 → all_visible (two_digits n) ≡ true
two_visible n h =
    ap (λ t. t && (is_visible (digit_zero + n % 10) && true)) (visible_from (digit_zero + n / 10) (omega arith) (omega (arith, h)))
    ∙ ap (λ t. t && true) (visible_from (digit_zero + n % 10) (omega arith) (omega (arith, h)))

four_visible : (n : ℕ) → n ≤ 9999 → all_visible (four_digits n) ≡ true
four_visible n h =
    joined is_visible (two_digits (n / 100)) (two_digits (n % 100)) (two_visible (n / 100) (omega (arith, h)))
    (two_visible (n % 100) (omega (arith, h)))

small_day : (n m : ℕ) → n ≤ m → m < 100 → n < 100
small_day n m h g = omega (arith, h, g)

below_100 : (n k : ℕ) → n < k → k ≤ 60 → n < 100
below_100 n k h g = omega (arith, h, g)

-- with a separator between
between : (test : ℕ → Bool) (xs s ys : List ℕ) → list_all test s ≡ true → list_all test xs ≡ true → list_all test ys ≡ true
    → list_all test (xs ++ s ++ ys) ≡ true
between test xs s ys e h g = joined test (xs ++ s) ys (joined test xs s h e) g

date_visible : (c : Civil) → IsCivil c → all_visible (full_date c) ≡ true
date_visible c h =
    between is_visible (four_digits c.year ++ codes "-" ++ two_digits c.month) (codes "-") (two_digits c.day) refl
    (between is_visible (four_digits c.year) (codes "-") (two_digits c.month) refl (four_visible c.year h.0.0)
    (two_visible c.month (small_day c.month 12 h.0.2 (omega arith))))
    (two_visible c.day (small_day c.day (days_in_month c.year c.month) h.0.4 (month_days c.year c.month)))

day_time_visible : (c : Civil) → IsCivil c → all_visible (time_of_day c) ≡ true
day_time_visible c h =
    between is_visible (two_digits c.hour ++ codes ":" ++ two_digits c.minute) (codes ":") (two_digits c.second) refl
    (between is_visible (two_digits c.hour) (codes ":") (two_digits c.minute) refl (two_visible c.hour (below_100 c.hour 24 h.1 (omega arith)))
    (two_visible c.minute (below_100 c.minute 60 h.2 (omega arith))))
    (two_visible c.second (below_100 c.second 60 h.3 (omega arith)))

letter_visible : (b : ℕ) → IsLetter b → is_visible b ≡ true
letter_visible b (inl e) = subst (λ x. is_visible x ≡ true) (sym e) refl
letter_visible b (inr e) = subst (λ x. is_visible x ≡ true) (sym e) refl

fraction_visible : (ds : List ℕ) → AllDigits 10 ds → all_visible (fraction_text ds) ≡ true
fraction_visible [] h = refl
fraction_visible (d ∷ ds) h = digits_visible (d ∷ ds) h

hours_visible : (s : List ℕ) (h m : ℕ) → all_visible s ≡ true → h < 24 → m < 60
    → all_visible (s ++ two_digits h ++ codes ":" ++ two_digits m) ≡ true
hours_visible s h m e i j =
    between is_visible (s ++ two_digits h) (codes ":") (two_digits m) refl
    (joined is_visible s (two_digits h) e (two_visible h (below_100 h 24 i (omega arith))))
    (two_visible m (below_100 m 60 j (omega arith)))

zone_visible : (z : Zone) → IsZone z → all_visible (zone_text z) ≡ true
zone_visible zulu h = refl
zone_visible small_zulu h = refl
zone_visible (ahead h m) g = hours_visible (codes "+") h m refl g.0 g.1
zone_visible (behind h m) g = hours_visible (codes "-") h m refl g.0 g.1

clock_visible : (b : ℕ) (c : Civil) (ds : List ℕ) (z : Zone) → IsStampForm DateTime (clock_form b c ds z)
    → all_visible (clock_text b c ++ fraction_text ds ++ zone_text z) ≡ true
clock_visible b c ds z h =
    joined is_visible (clock_text b c ++ fraction_text ds) (zone_text z)
    (joined is_visible (clock_text b c) (fraction_text ds)
    (joined is_visible (full_date c) (b ∷ time_of_day c) (date_visible c h.1)
    (ap (λ t. t && all_visible (time_of_day c)) (letter_visible b h.0) ∙ day_time_visible c h.1))
    (fraction_visible ds h.2)) (zone_visible z h.3)

-- a text of visible bytes that has one
some_plain : (u : List ℕ) → 0 < length u → all_visible u ≡ true → IsPlain u
some_plain [] h v = absurd (omega (arith, h))
some_plain (b ∷ u) h v = visible_plain b u v

abbrev days : List (List ℕ)
days = codes "Mon" ∷ codes "Tue" ∷ codes "Wed" ∷ codes "Thu" ∷ codes "Fri" ∷ codes "Sat" ∷ codes "Sun" ∷ []

abbrev months : List (List ℕ)
months =
    codes "Jan" ∷ codes "Feb" ∷ codes "Mar" ∷ codes "Apr" ∷ codes "May" ∷ codes "Jun" ∷ codes "Jul" ∷ codes "Aug" ∷ codes "Sep"
    ∷ codes "Oct" ∷ codes "Nov" ∷ codes "Dec" ∷ []

name_visible : (names : List (List ℕ)) (i : ℕ) → list_all all_visible names ≡ true → all_visible (slice_index_or names i []) ≡ true
name_visible [] i h = refl
name_visible (n ∷ ns) zero h = and_first (all_visible n) (list_all all_visible ns) h
name_visible (n ∷ ns) (suc i) h = name_visible ns i (and_second (all_visible n) (list_all all_visible ns) h)

day_starts : (i : ℕ) → i < 7 → starts (slice_index_or days i []) ≡ true
day_starts zero h = refl
day_starts (suc zero) h = refl
day_starts (suc (suc zero)) h = refl
day_starts (suc (suc (suc zero))) h = refl
day_starts (suc (suc (suc (suc zero)))) h = refl
day_starts (suc (suc (suc (suc (suc zero))))) h = refl
day_starts (suc (suc (suc (suc (suc (suc zero)))))) h = refl
day_starts (suc (suc (suc (suc (suc (suc (suc i))))))) h = absurd (omega (arith, h))

-- an http-date has blanks, but not at its ends
gmt_plain : (c : Civil) → IsCivil c → IsPlain (imf_fixdate c)
gmt_plain c h =
    let n = weekday (day_count (date_in c)) in
    let day = day_name n in
    let d = two_digits c.day in
    let m = month_name c.month in
    let y = four_digits c.year in
    let time = time_of_day c in
    let blank = codes " " in
    let two = day ++ codes ", " in
    let three = two ++ d in
    let four = three ++ blank in
    let five = four ++ m in
    let six = five ++ blank in
    let seven = six ++ y in
    let eight = seven ++ blank in
    let nine = eight ++ time in
    let to_day = between is_field_byte day (codes ", ") d refl (field_of day (name_visible days n refl))
    (field_of d (two_visible c.day (small_day c.day (days_in_month c.year c.month) h.0.4 (month_days c.year c.month)))) in
    let to_month = between is_field_byte three blank m refl to_day (field_of m (name_visible months (c.month - 1) refl)) in
    let to_year = between is_field_byte five blank y refl to_month (field_of y (four_visible c.year h.0.0)) in
    let to_time = between is_field_byte seven blank time refl to_year (field_of time (day_time_visible c h)) in
    let first = keeps three blank (keeps two d (keeps day (codes ", ") (day_starts n (omega arith)))) in
    let second = keeps six y (keeps five blank (keeps four m first)) in
    plain_of (nine ++ codes " GMT") (joined is_field_byte nine (codes " GMT") to_time refl)
    (keeps nine (codes " GMT") (keeps eight time (keeps seven blank second)))
    (subst (λ w. starts w ≡ true) (sym (reverse-append nine (codes " GMT"))) (keeps (reverse (codes " GMT")) (reverse nine) refl))

has_one : (b : ℕ) (u : List ℕ) → 0 < length (b ∷ u)
has_one b u = omega arith

seconds_plain : (b : Bool) (i ds : List ℕ) → IsStampForm EpochSeconds (seconds_form b i ds)
    → IsPlain ((if b then codes "-" else []) ++ i ++ fraction_text ds)
seconds_plain b [] ds h = absurd (omega (arith, h.0.0.0))
seconds_plain true (d ∷ i) ds h =
    visible_plain 45 ((d ∷ i) ++ fraction_text ds) (joined is_visible (45 ∷ d ∷ i) (fraction_text ds) (digits_visible (d ∷ i) h.0.0.1)
    (fraction_visible ds h.1))
seconds_plain false (d ∷ i) ds h =
    visible_plain d (i ++ fraction_text ds) (joined is_visible (d ∷ i) (fraction_text ds) (digits_visible (d ∷ i) h.0.0.1)
    (fraction_visible ds h.1))

form_plain : (format : Format) (f : Form) → IsStampForm format f → IsPlain (form_text f)
form_plain DateTime (clock_form b c ds z) h =
    let year = two_digits (c.year % 100) ++ codes "-" ++ two_digits c.month ++ codes "-" ++ two_digits c.day ++ b ∷ time_of_day c in
    some_plain (clock_text b c ++ fraction_text ds ++ zone_text z)
    (has_one (digit_zero + c.year / 100 / 10) ((digit_zero + c.year / 100 % 10) ∷ (year ++ fraction_text ds ++ zone_text z)))
    (clock_visible b c ds z h)
form_plain HttpDate (gmt_form c) h = gmt_plain c h.0
form_plain EpochSeconds (seconds_form b i ds) h = seconds_plain b i ds h
form_plain format f h = absurd h

stamp_plain : (format : Format) (ms : ℤ) → IsStamp ms → IsWritable format ms → IsPlain (written_stamp format ms)
stamp_plain format ms h w =
    let shown = written_is_text format ms h w in
    subst IsPlain (sym shown.1.1) (form_plain format shown.0 shown.1.0)

-- such a text passes each test
plain_passes : (test : TextTest) (u : List ℕ) → IsPlain u → passes test u ≡ true
plain_passes OfLabel u h = h.filled
plain_passes OfQuery u h = refl
plain_passes OfEntry u h = ap (λ t. t && bytes_eq (trim_ows u) u) h.bytes ∙ (bytes_eq-Decides (trim_ows u) u).1 h.trim
plain_passes OfField u h =
    ap (λ t. t && is_field_text u) h.filled ∙ ap (λ t. t && bytes_eq (trim_ows u) u) h.bytes
    ∙ (bytes_eq-Decides (trim_ows u) u).1 h.trim

truth_plain : (b : Bool) → IsPlain (truth_text b)
truth_plain true = visible_plain 116 (codes "rue") refl
truth_plain false = visible_plain 102 (codes "alse") refl

short_fits : (z : ℤ) → FitsSigned w8 z → FitsSigned w64 z
short_fits (pos n) h = omega (arith, h)
short_fits (negsuc n) h = omega (arith, h)

half_fits : (z : ℤ) → FitsSigned w16 z → FitsSigned w64 z
half_fits (pos n) h = omega (arith, h)
half_fits (negsuc n) h = omega (arith, h)

word_fits : (z : ℤ) → FitsSigned w32 z → FitsSigned w64 z
word_fits (pos n) h = omega (arith, h)
word_fits (negsuc n) h = omega (arith, h)

number_fits : (k : ShapeKind) (z : ℤ) → IsOfKind k (int_val z) → FitsSigned w64 z
number_fits kind.Byte z h = short_fits z h
number_fits kind.Short z h = half_fits z h
number_fits kind.Integer z h = word_fits z h
number_fits kind.IntEnum z h = word_fits z h
number_fits kind.Long z h = h
number_fits kind.Blob z h = absurd h
number_fits kind.Boolean z h = absurd h
number_fits kind.Text z h = absurd h
number_fits kind.Enum z h = absurd h
number_fits kind.Timestamp z h = absurd h
number_fits kind.List z h = absurd h
number_fits kind.Map z h = absurd h
number_fits kind.Structure z h = absurd h
number_fits kind.Union z h = absurd h
number_fits kind.LeftOut z h = absurd h

writable : (format : Format) (ms : ℤ) → has_text format ms ≡ true → IsWritable format ms
writable DateTime ms h = tt
writable HttpDate ms h = date_writable ms h
writable EpochSeconds ms h = tt

pass_by : (test : TextTest) (x : Simple) (k : ShapeKind) (v : Val) → IsOfKind k v → has_written_text x v ≡ true
    → value_passes test v ≡ true → passes test (text_written x v) ≡ true
pass_by test the.Boolean k (bool_val b) of has h = plain_passes test (truth_text b) (truth_plain b)
pass_by test (the.Number bits) k (int_val z) of has h = plain_passes test (signed_decimal z) (number_plain z (number_fits k z of))
pass_by test the.Text k (text_val u) of has h = h
pass_by test (the.Time format) k (time_val ms) of has h =
    plain_passes test (written_stamp format ms)
    (stamp_plain format ms ((stamp_decides ms).0 (and_first (is_stamp ms) (has_text format ms) has))
    (writable format ms (and_second (is_stamp ms) (has_text format ms) has)))
pass_by test x k v of has h = absurd cc

pass_at : (test : TextTest) (o : Option Simple) (k : ShapeKind) (v : Val) → IsOfKind k v → (has_text_by o v && value_passes test v) ≡ true
    → passes test (text_by o v) ≡ true
pass_at test None k v of h = absurd cc
pass_at test (Some x) k v of h =
    pass_by test x k v of (and_first (has_written_text x v) (value_passes test v) h) (and_second (has_written_text x v) (value_passes test v) h)

pub carried_pass : CarriedTextsPass
carried_pass test t p v of h = pass_at test (simple_at (usual_in test) t p) (kind_of t p) v of h
