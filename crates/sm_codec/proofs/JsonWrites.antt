-- What the conventions of JSON and of the nodes of models write can be written as JSON.
use Rattle.std.proofs.Common.{◌≡◌, ℕ, zero, suc, ℤ, ◌<◌, ◌⊎◌, inl, inr, Bool, true, false, cond, List, [], ◌∷◌, ◌++◌, length, drop, take}
use Rattle.std.proofs.Common.{refl, sym, ap, ◌∙◌, subst, arith, append-nil, append_assoc}
use Rattle.std.specs.Prelude.{pos, negsuc, neg_ℤ, int_div, IsUtf8, codes, ◌==◌, unsigned_abs, ◌%◌, ◌/◌, if◌then◌else◌}
use Rattle.std.specs.Fmt.{decimal}
use Rattle.std.specs.Int.{w64}
use Rattle.std.specs.Ordering.{int_eq}
use Rattle.std.specs.Str.Parse.{AllDigits, without_leading_sign}
use Rattle.std.proofs.lemmas.Bool.{cases_eq, ne_eqb}
use Rattle.std.proofs.lemmas.Bool.Decides.{Decides-eqb}
use Rattle.std.proofs.lemmas.Int.{ints, quot_fits}
use Rattle.std.proofs.lemmas.Str.{IsUtf8-from_is_utf8, IsUtf8-from_ascii}
use Rattle.std.proofs.lemmas.Str.Parse.{digit_from_value}
use Rattle.base64.specs.Engines.{standard}
use Rattle.base64.specs.GeneralPurpose.{encode_of}
use Rattle.base64.proofs.EngineFacts.{IsAscii-encode_of}
use Rattle.sm_tree.specs.Node.{int, number}
use Rattle.sm_tree.specs.Json.{IsJson}
use Rattle.sm_tree.specs.Numbers.{IsMinus, IsInt, IsFraction, AreDigits, IsNumber, IsInt64}
use Rattle.sm_time.specs.declared.format.Format.{Format}
use Rattle.sm_time.specs.declared.format.Format.TheVariants.{DateTime, HttpDate, EpochSeconds}
use Rattle.sm_time.specs.StampTexts.{is_stamp}
use Rattle.sm_time.specs.TimeText.{Form, clock_form, gmt_form, seconds_form, form_text, fraction_text, IsStampForm, IsIntDigits, IsStamp}
use Rattle.sm_time.specs.Written.{written_stamp, is_negative, short_digits, three_digits}
use Rattle.sm_time.proofs.AsciiTexts.{written_utf8}
use Rattle.sm_time.proofs.StampForms.{and_first, and_second, stamp_decides}
use Rattle.sm_time.proofs.WrittenTexts.{written_is_text}
use Rattle.sm_shapes.specs.Values.{Val, bool_val, int_val, text_val, blob_val, time_val}
use Rattle.sm_codec.specs.declared.simple.Simple.{Simple}
use Rattle.sm_codec.specs.declared.simple.Simple.TheVariants as the
use Rattle.sm_codec.specs.Convention.{is_of}
use Rattle.sm_codec.specs.Conventions.{json_convention, json_written, json_written_time, json_carries_leaf, node_convention, node_written}
use Rattle.sm_codec.specs.Conventions.{node_written_blob, node_carries_leaf, written_seconds, is_whole_second, has_text}
use Rattle.sm_codec.specs.WrittenLaws.{HasWidth, WritesJson}
use Rattle.sm_codec.proofs.CborWrites.{width_fits, stamp_fits}
use Rattle.sm_codec.proofs.TextLeaves.{date_writable}

-- a point stands in the text
abbrev HasPoint : List ℕ → Type 0
HasPoint [] = ⊥
HasPoint (c ∷ u) = (c ≡ 46) ⊎ HasPoint u

point_behind : (xs ys : List ℕ) → HasPoint ys → HasPoint (xs ++ ys)
point_behind [] ys h = h
point_behind (x ∷ xs) ys h = inr (point_behind xs ys h)

no_point : (ds : List ℕ) → AllDigits 10 ds → HasPoint ds → ⊥
no_point [] h p = p
no_point (c ∷ ds) h p = elim p [
  | inl e ↦ omega (arith, digit_from_value c h.0, e)
  | inr q ↦ no_point ds h.1 q
]

-- a sign is no point
point_past : (c : ℕ) (u : List ℕ) (sign : ℕ) → sign < 46 → c ≡ sign → HasPoint (c ∷ u) → HasPoint u
point_past c u sign small e p = elim p [ inl f ↦ absurd (omega (arith, small, e, f)) | inr q ↦ q ]

unsigned_by : (c : ℕ) (u : List ℕ) (minus plus : Bool) → (c == 45) ≡ minus → (c == 43) ≡ plus → HasPoint (c ∷ u)
    → HasPoint (cond minus (drop 1 (c ∷ u)) (drop (cond plus 1 0) (c ∷ u)))
unsigned_by c u true plus m p h = point_past c u 45 (omega arith) ((Decides-eqb c 45).0 m) h
unsigned_by c u false true m p h = point_past c u 43 (omega arith) ((Decides-eqb c 43).0 p) h
unsigned_by c u false false m p h = h

unsigned_point : (t : List ℕ) → HasPoint t → HasPoint (without_leading_sign t)
unsigned_point [] h = absurd h
unsigned_point (c ∷ u) h = unsigned_by c u (c == 45) (c == 43) refl refl h

-- so a number with a point is no integer
no_int64 : (t : List ℕ) → HasPoint t → IsInt64 t → ⊥
no_int64 t h i = no_point (without_leading_sign t) i.is_integer.1 (unsigned_point t h)

-- a number of seconds with a fraction has a point
some_digits : (n : ℕ) → (n == 0) ≡ false → HasPoint (fraction_text (short_digits n))
some_digits n e = by_zeros (n == 0) (n % 100 == 0) (n % 10 == 0) e
  where
    by_zeros : (none hundreds tens : Bool) → none ≡ false
        → HasPoint (fraction_text (if none then [] else (if hundreds then take 1 (three_digits n) else (if tens then take 2 (three_digits
        n) else three_digits n))))
    by_zeros true hundreds tens e = absurd cc
    by_zeros false true tens e = inl refl
    by_zeros false false true e = inl refl
    by_zeros false false false e = inl refl

-- digits in both words
digits_of_values : (ds : List ℕ) → AllDigits 10 ds → AreDigits ds
digits_of_values [] h = tt
digits_of_values (d ∷ ds) h = let here = digit_from_value d h.0 in ((omega arith, omega arith), digits_of_values ds h.1)

is_int_by : (d : ℕ) (ds : List ℕ) → AllDigits 10 (d ∷ ds) → (d ≡ 48 → length (d ∷ ds) ≡ 1) → (d ≡ 48) ⊎ (d ≡ 48 → ⊥) → IsInt (d ∷ ds)
is_int_by d [] all alone (inl e) = inl (ap (λ c. c ∷ []) e)
is_int_by d (c ∷ ds) all alone (inl e) = absurd (omega (arith, alone e))
is_int_by d ds all alone (inr other) =
    let here = digit_from_value d all.0 in inr (d, ds, refl, omega (arith, other), omega arith, digits_of_values ds all.1)

is_int : (i : List ℕ) → IsIntDigits i → IsInt i
is_int [] h = absurd (omega (arith, h.0.0))
is_int (d ∷ ds) h = is_int_by d ds h.0.1 h.1 (cases_eq d 48)

is_fraction : (ds : List ℕ) → AllDigits 10 ds → IsFraction (fraction_text ds)
is_fraction [] h = inl refl
is_fraction (d ∷ ds) h =
    let here = digit_from_value d h.0 in inr (d ∷ ds, refl, (d, ds, refl, (omega arith, omega arith), digits_of_values ds h.1))

is_minus : (b : Bool) → IsMinus (if b then codes "-" else [])
is_minus true = inr refl
is_minus false = inl refl

form_number : (f : Form) → IsStampForm EpochSeconds f → IsNumber (form_text f)
form_number (clock_form letter c ds z) h = absurd h
form_number (gmt_form c) h = absurd h
form_number (seconds_form b i ds) h = record {
  minus = if b then codes "-" else [];
  whole = i;
  fraction = fraction_text ds;
  exponent = [];
  parts = append_assoc (if b then codes "-" else []) i (fraction_text ds)
      ∙ ap (λ s. (if b then codes "-" else []) ++ (i ++ s)) (sym (append-nil (fraction_text ds)));
  is_minus = is_minus b;
  is_int = is_int i h.0;
  is_fraction = is_fraction ds h.1;
  is_exponent = inl refl;
}

seconds_number : (ms : ℤ) → IsStamp ms → IsNumber (written_stamp EpochSeconds ms)
seconds_number ms h =
    let shown = written_is_text EpochSeconds ms h tt in subst IsNumber (sym shown.1.1) (form_number shown.0 shown.1.0)

rest_left : (k : ℕ) → int_eq (neg_ℤ (pos k)) (pos 0) ≡ false → (k == 0) ≡ false
rest_left zero h = h
rest_left (suc k) h = ne_eqb (suc k) 0 (λ e. omega (arith, e))

rest_kept : (k : ℕ) → int_eq (pos k) (pos 0) ≡ false → (k == 0) ≡ false
rest_kept zero h = h
rest_kept (suc k) h = ne_eqb (suc k) 0 (λ e. omega (arith, e))

fraction_left : (ms : ℤ) → is_whole_second ms ≡ false → (unsigned_abs ms % 1000 == 0) ≡ false
fraction_left (pos n) h = rest_kept (n % 1000) h
fraction_left (negsuc n) h = rest_left (suc n % 1000) h

seconds_by : (ms : ℤ) (b : Bool) → is_whole_second ms ≡ b → IsStamp ms
    → IsJson (cond b (int (int_div ms (pos 1000))) (number (written_stamp EpochSeconds ms)))
seconds_by ms true e h = quot_fits w64 ms (pos 1000) (stamp_fits ms h) (omega (arith, ints))
seconds_by ms false e h =
    let sign = if is_negative ms then codes "-" else [] in
    let whole = decimal (unsigned_abs ms / 1000) in
    let digits = short_digits (unsigned_abs ms % 1000) in
    let point = point_behind (sign ++ whole) (fraction_text digits) (some_digits (unsigned_abs ms % 1000) (fraction_left ms e)) in
    (seconds_number ms h, no_int64 (written_stamp EpochSeconds ms) point, refl)

seconds_json : (ms : ℤ) → is_stamp ms ≡ true → IsJson (written_seconds ms)
seconds_json ms h = seconds_by ms (is_whole_second ms) refl ((stamp_decides ms).0 h)

time_json : (format : Format) (ms : ℤ) → is_stamp ms ≡ true → has_text format ms ≡ true → IsJson (json_written_time format ms)
time_json EpochSeconds ms h g = seconds_json ms h
time_json DateTime ms h g = written_utf8 DateTime ms ((stamp_decides ms).0 h) tt
time_json HttpDate ms h g = written_utf8 HttpDate ms ((stamp_decides ms).0 h) (date_writable ms g)

base64_json : (u : List ℕ) → IsUtf8 (encode_of standard u)
base64_json u = IsUtf8-from_ascii (encode_of standard u) (IsAscii-encode_of standard u)

json_leaf : (x : Simple) (v : Val) → HasWidth x → is_of x v ≡ true → json_carries_leaf x v ≡ true → IsJson (json_written x v)
json_leaf the.Blob (blob_val u) width h g = base64_json u
json_leaf the.Boolean (bool_val b) width h g = tt
json_leaf the.Text (text_val u) width h g = IsUtf8-from_is_utf8 u h
json_leaf (the.Number bits) (int_val z) width h g = width_fits bits z width h
json_leaf (the.Time format) (time_val ms) width h g = time_json format ms h g
json_leaf x v width h g = absurd cc

pub json_writes : (b : Bool) → WritesJson (json_convention b)
json_writes true = record {
  names = λ t shaped s k h. (shaped.utf8 k h).1;
  leaves = λ x v width h. json_leaf x v width (and_first (is_of x v) (json_carries_leaf x v) h) (and_second (is_of x v)
      (json_carries_leaf x v) h);
}
json_writes false = record {
  names = λ t shaped s k h. (shaped.utf8 k h).0;
  leaves = λ x v width h. json_leaf x v width (and_first (is_of x v) (json_carries_leaf x v) h) (and_second (is_of x v)
      (json_carries_leaf x v) h);
}

node_blob_json : (raw : Bool) (u : List ℕ) → node_carries_leaf raw (blob_val u) ≡ true → IsJson (node_written_blob raw u)
node_blob_json true u g = IsUtf8-from_is_utf8 u g
node_blob_json false u g = base64_json u

node_leaf : (raw : Bool) (x : Simple) (v : Val) → HasWidth x → is_of x v ≡ true → node_carries_leaf raw v ≡ true → IsJson (node_written
    raw x v)
node_leaf raw the.Blob (blob_val u) width h g = node_blob_json raw u g
node_leaf raw the.Boolean (bool_val b) width h g = tt
node_leaf raw the.Text (text_val u) width h g = IsUtf8-from_is_utf8 u h
node_leaf raw (the.Number bits) (int_val z) width h g = width_fits bits z width h
node_leaf raw (the.Time format) (time_val ms) width h g = seconds_json ms h
node_leaf raw x v width h g = absurd cc

pub node_writes : (raw : Bool) → WritesJson (node_convention raw)
node_writes raw = record {
  names = λ t shaped s k h. (shaped.utf8 k h).0;
  leaves = λ x v width h. node_leaf raw x v width (and_first (is_of x v) (node_carries_leaf raw v) h) (and_second (is_of x v)
      (node_carries_leaf raw v) h);
}
