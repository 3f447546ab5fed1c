-- No comma stands in the texts of numbers, truth values and stamps, but one in an http-date.
use Rattle.std.proofs.Common.{◌≡◌, inl, inr, ℕ, zero, suc, ◌≤◌, ◌+◌, ◌-◌, ◌/◌, ◌%◌, ℤ, pos, negsuc, Bool, true, false, ◌&&◌}
use Rattle.std.proofs.Common.{List, [], ◌∷◌, ◌++◌, append_assoc, refl, sym, ap, ◌∙◌, subst, arith}
use Rattle.std.specs.Prelude.{All, not, slice_index_or, codes, FitsSigned, if◌then◌else◌}
use Rattle.std.specs.Fmt.{decimal, signed_decimal}
use Rattle.std.specs.Int.{w64}
use Rattle.std.specs.List.{list_all}
use Rattle.std.specs.Str.Parse.{AllDigits}
use Rattle.std.proofs.lemmas.Bool.{ne_eqb}
use Rattle.std.proofs.lemmas.Fmt.{decimal_is_IsNumeral}
use Rattle.std.proofs.lemmas.List.Elements.{All-cons, All-nil}
use Rattle.std.proofs.lemmas.List.Folds.{list_all-append}
use Rattle.std.proofs.lemmas.Str.Parse.{digit_from_value}
use Rattle.sm_bytes.specs.Ascii.{comma, digit_zero, space}
use Rattle.sm_http.specs.FieldLists.{is_comma}
use Rattle.sm_time.specs.declared.format.Format.{Format}
use Rattle.sm_time.specs.declared.format.Format.TheVariants.{DateTime, HttpDate, EpochSeconds}
use Rattle.sm_time.specs.declared.civil.Civil.{Civil}
use Rattle.sm_time.specs.Calendar.{weekday, day_count}
use Rattle.sm_time.specs.Civil.{date_in, two_digits, four_digits, full_date, time_of_day, clock_text, day_name, month_name, imf_fixdate}
use Rattle.sm_time.specs.TimeText.{Form, clock_form, seconds_form, IsStampForm, IsLetter, form_text}
use Rattle.sm_time.specs.TimeText.{fraction_text, zone_text, Zone, zulu, small_zulu, ahead, behind, IsStamp}
use Rattle.sm_time.specs.Written.{written_stamp, IsWritable}
use Rattle.sm_time.proofs.StampForms.{and_first, and_second}
use Rattle.sm_time.proofs.WrittenTexts.{written_is_text}
use Rattle.sm_parts.specs.Texts.{truth_text}

abbrev pub is_other : ℕ → Bool
is_other b = not (is_comma b)

abbrev pub all_other : List ℕ → Bool
all_other u = list_all is_other u

not_true : (t : Bool) → not t ≡ true → t ≡ false
not_true true h = sym h
not_true false h = refl

pub none_comma : (u : List ℕ) → all_other u ≡ true → All (λ b. is_comma b ≡ false) u
none_comma [] h = All-nil (λ b. is_comma b ≡ false)
none_comma (b ∷ u) h =
    All-cons (λ b. is_comma b ≡ false) b u (not_true (is_comma b) (and_first (is_other b) (all_other u) h))
    (none_comma u (and_second (is_other b) (all_other u) h))

pub both_other : (u v : List ℕ) → all_other u ≡ true → all_other v ≡ true → all_other (u ++ v) ≡ true
both_other u v h g = list_all-append is_other u v ∙ ap (λ t. t && all_other v) h ∙ g

large_other : (b : ℕ) → 45 ≤ b → is_other b ≡ true
large_other b h = ap not (ne_eqb b comma (λ e. omega (arith, h, e)))

-- digits
digits_other : (ds : List ℕ) → AllDigits 10 ds → all_other ds ≡ true
digits_other [] h = refl
digits_other (d ∷ ds) h =
    let digit = digit_from_value d h.0 in
    ap (λ t. t && all_other ds) (large_other d (omega (arith, digit))) ∙ digits_other ds h.1

two_other : (n : ℕ) → all_other (two_digits n) ≡ true
two_other n =
    ap (λ t. t && (is_other (digit_zero + n % 10) && true)) (large_other (digit_zero + n / 10) (omega arith))
    ∙ ap (λ t. t && true) (large_other (digit_zero + n % 10) (omega arith))

four_other : (n : ℕ) → all_other (four_digits n) ≡ true
four_other n = both_other (two_digits (n / 100)) (two_digits (n % 100)) (two_other (n / 100)) (two_other (n % 100))

pub number_other : (z : ℤ) → FitsSigned w64 z → all_other (signed_decimal z) ≡ true
number_other (pos n) h = digits_other (decimal n) (decimal_is_IsNumeral n (omega (arith, h))).0.1
number_other (negsuc n) h = digits_other (decimal (suc n)) (decimal_is_IsNumeral (suc n) (omega (arith, h))).0.1

pub truth_other : (b : Bool) → all_other (truth_text b) ≡ true
truth_other true = refl
truth_other false = refl

-- with a separator between
between : (u s v : List ℕ) → all_other s ≡ true → all_other u ≡ true → all_other v ≡ true → all_other (u ++ s ++ v) ≡ true
between u s v e h g = both_other (u ++ s) v (both_other u s h e) g

date_other : (c : Civil) → all_other (full_date c) ≡ true
date_other c =
    between (four_digits c.year ++ codes "-" ++ two_digits c.month) (codes "-") (two_digits c.day) refl
    (between (four_digits c.year) (codes "-") (two_digits c.month) refl (four_other c.year) (two_other c.month)) (two_other c.day)

day_time_other : (c : Civil) → all_other (time_of_day c) ≡ true
day_time_other c =
    between (two_digits c.hour ++ codes ":" ++ two_digits c.minute) (codes ":") (two_digits c.second) refl
    (between (two_digits c.hour) (codes ":") (two_digits c.minute) refl (two_other c.hour) (two_other c.minute)) (two_other c.second)

letter_other : (b : ℕ) → IsLetter b → is_other b ≡ true
letter_other b (inl e) = subst (λ x. is_other x ≡ true) (sym e) refl
letter_other b (inr e) = subst (λ x. is_other x ≡ true) (sym e) refl

fraction_other : (ds : List ℕ) → AllDigits 10 ds → all_other (fraction_text ds) ≡ true
fraction_other [] h = refl
fraction_other (d ∷ ds) h = digits_other (d ∷ ds) h

zone_other : (z : Zone) → all_other (zone_text z) ≡ true
zone_other zulu = refl
zone_other small_zulu = refl
zone_other (ahead h m) =
    between (codes "+" ++ two_digits h) (codes ":") (two_digits m) refl (both_other (codes "+") (two_digits h) refl (two_other h)) (two_other m)
zone_other (behind h m) =
    between (codes "-" ++ two_digits h) (codes ":") (two_digits m) refl (both_other (codes "-") (two_digits h) refl (two_other h)) (two_other m)

sign_other : (b : Bool) → all_other (if b then codes "-" else []) ≡ true
sign_other true = refl
sign_other false = refl

-- date-time and epoch-seconds
abbrev HasNoComma : Format → Type 0
HasNoComma DateTime = Unit {0}
HasNoComma HttpDate = ⊥
HasNoComma EpochSeconds = Unit {0}

form_other : (format : Format) (f : Form) → HasNoComma format → IsStampForm format f → all_other (form_text f) ≡ true
form_other DateTime (clock_form b c ds z) none h =
    both_other (clock_text b c ++ fraction_text ds) (zone_text z)
    (both_other (clock_text b c) (fraction_text ds)
    (both_other (full_date c) (b ∷ time_of_day c) (date_other c)
    (ap (λ t. t && all_other (time_of_day c)) (letter_other b h.0) ∙ day_time_other c)) (fraction_other ds h.2)) (zone_other z)
form_other EpochSeconds (seconds_form b i ds) none h =
    both_other ((if b then codes "-" else []) ++ i) (fraction_text ds)
    (both_other (if b then codes "-" else []) i (sign_other b) (digits_other i h.0.0.1)) (fraction_other ds h.1)
form_other HttpDate f none h = absurd none
form_other format f none h = absurd h

pub stamp_other : (format : Format) (ms : ℤ) → HasNoComma format → IsStamp ms → IsWritable format ms
    → all_other (written_stamp format ms) ≡ true
stamp_other format ms none h w =
    let shown = written_is_text format ms h w in
    subst (λ u. all_other u ≡ true) (sym shown.1.1) (form_other format shown.0 none shown.1.0)

-- one comma, and none on its two sides
pub record HasOneComma (u : List ℕ) : Type 0 where
  pub before : List ℕ
  pub after : List ℕ
  pub all : u ≡ before ++ comma ∷ after
  pub free_before : all_other before ≡ true
  pub free_after : all_other after ≡ true

one_more : (u v : List ℕ) → HasOneComma u → all_other v ≡ true → HasOneComma (u ++ v)
one_more u v h g = record {
  before = h.before;
  after = h.after ++ v;
  all = ap (λ w. w ++ v) h.all ∙ append_assoc h.before (comma ∷ h.after) v;
  free_before = h.free_before;
  free_after = both_other h.after v h.free_after g;
}

-- an http-date
abbrev days : List (List ℕ)
days = codes "Mon" ∷ codes "Tue" ∷ codes "Wed" ∷ codes "Thu" ∷ codes "Fri" ∷ codes "Sat" ∷ codes "Sun" ∷ []

abbrev months : List (List ℕ)
months =
    codes "Jan" ∷ codes "Feb" ∷ codes "Mar" ∷ codes "Apr" ∷ codes "May" ∷ codes "Jun" ∷ codes "Jul" ∷ codes "Aug" ∷ codes "Sep"
    ∷ codes "Oct" ∷ codes "Nov" ∷ codes "Dec" ∷ []

name_other : (names : List (List ℕ)) (i : ℕ) → list_all all_other names ≡ true → all_other (slice_index_or names i []) ≡ true
name_other [] i h = refl
name_other (n ∷ ns) zero h = and_first (all_other n) (list_all all_other ns) h
name_other (n ∷ ns) (suc i) h = name_other ns i (and_second (all_other n) (list_all all_other ns) h)

pub date_comma : (c : Civil) → HasOneComma (imf_fixdate c)
date_comma c =
    let n = weekday (day_count (date_in c)) in
    let day = day_name n in
    let first : HasOneComma (day ++ codes ", ") =
    record { before = day; after = space ∷ []; all = refl; free_before = name_other days n refl; free_after = refl } in
    let two = day ++ codes ", " in
    let three = two ++ two_digits c.day in
    let four = three ++ codes " " in
    let five = four ++ month_name c.month in
    let six = five ++ codes " " in
    let seven = six ++ four_digits c.year in
    let eight = seven ++ codes " " in
    let nine = eight ++ time_of_day c in
    let to_day = one_more three (codes " ") (one_more two (two_digits c.day) first (two_other c.day)) refl in
    let to_month = one_more five (codes " ") (one_more four (month_name c.month) to_day (name_other months (c.month - 1) refl)) refl in
    let to_year = one_more seven (codes " ") (one_more six (four_digits c.year) to_month (four_other c.year)) refl in
    one_more nine (codes " GMT") (one_more eight (time_of_day c) to_year (day_time_other c)) refl
