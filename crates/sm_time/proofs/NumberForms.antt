-- The texts of epoch-seconds: a sign, digits and a fraction, which the text determines.
use Rattle.std.proofs.Common.{◌≡◌, ◌≢◌, ℕ, Bool, true, false, List, [], ◌∷◌, ◌++◌, length, refl, sym, ap, subst, ◌∙◌, arith, append_assoc}
use Rattle.std.proofs.Common.{append-nil}
use Rattle.std.specs.Prelude.{slice_index, codes, if◌then◌else◌}
use Rattle.std.specs.Char.{digit_value}
use Rattle.std.specs.Str.Parse.{AllDigits}
use Rattle.sm_time.specs.declared.format.Format.TheVariants.{EpochSeconds}
use Rattle.sm_time.specs.TimeText.{Form, clock_form, gmt_form, seconds_form, Shows, IsIntDigits, fraction_text}
use Rattle.sm_time.specs.steps.Parts.{NoDigitFirst, SplitsFraction}
use Rattle.sm_time.proofs.DigitFacts.{same_rest, one_run}

-- a minus, or nothing
abbrev pub sign_text : Bool → List ℕ
sign_text negative = if negative then codes "-" else []

-- no fraction begins with a digit
fraction_ends : (ds : List ℕ) → NoDigitFirst (fraction_text ds)
fraction_ends [] = tt
fraction_ends (d ∷ ds) = omega arith

-- digits don't begin with a minus
no_minus : (int s : List ℕ) → IsIntDigits int → slice_index (int ++ s) 0 ≢ 45
no_minus [] s h e = omega (arith, h.0)
no_minus (d ∷ int) s h e = omega (arith, h.0.1.0, ap digit_value e)

-- the sign, and what comes after it
one_sign : (a b : Bool) (s t : List ℕ) → (a ≡ false → slice_index s 0 ≢ 45) → (b ≡ false → slice_index t 0 ≢ 45)
    → sign_text a ++ s ≡ sign_text b ++ t → (a ≡ b) × (s ≡ t)
one_sign true true s t f g e = (refl, same_rest _ _ _ _ e)
one_sign true false s t f g e = absurd (g refl (ap (λ l. slice_index l 0) (sym e)))
one_sign false true s t f g e = absurd (f refl (ap (λ l. slice_index l 0) e))
one_sign false false s t f g e = (refl, e)

-- a sign, digits and a tail that begins with no digit are those of each form that the text shows
pub one_number : (text rest int tail : List ℕ) (negative : Bool) → text ≡ sign_text negative ++ rest
    → (negative ≡ false → slice_index rest 0 ≢ 45) → rest ≡ int ++ tail → AllDigits 10 int → NoDigitFirst tail → (n : Bool) (i ds : List ℕ)
    → Shows EpochSeconds text (seconds_form n i ds) → (n ≡ negative) × (i ≡ int) × (fraction_text ds ≡ tail)
one_number text rest int tail negative e f g digits ends n i ds h =
    let there : sign_text n ++ (i ++ fraction_text ds) ≡ sign_text negative ++ rest = sym (append_assoc (sign_text n) i (fraction_text ds))
    ∙ sym h.1 ∙ e in
    let sign = one_sign n negative (i ++ fraction_text ds) rest (λ _. no_minus i (fraction_text ds) h.0.0) f there in
    let run = one_run i int (fraction_text ds) tail h.0.0.0.1 digits (fraction_ends ds) ends (sign.1 ∙ g) in
    (sign.0, run.0, run.1)

-- where the digits are no whole number's, no form is shown
pub no_int : (text rest int tail : List ℕ) (negative : Bool) → text ≡ sign_text negative ++ rest
    → (negative ≡ false → slice_index rest 0 ≢ 45) → rest ≡ int ++ tail → AllDigits 10 int → NoDigitFirst tail → (IsIntDigits int → ⊥)
    → (form : Form) → Shows EpochSeconds text form → ⊥
no_int text rest int tail negative e f g digits ends none (clock_form letter c ds z) h = h.0
no_int text rest int tail negative e f g digits ends none (gmt_form c) h = h.0
no_int text rest int tail negative e f g digits ends none (seconds_form n i ds) h =
    let one = one_number text rest int tail negative e f g digits ends n i ds h in
    let P : List ℕ → Type 0 = λ l. IsIntDigits l in
    none (subst P one.1 h.0.0)

-- nor where the tail is no fraction
pub no_fraction : (text rest int tail ds left : List ℕ) (negative : Bool) → text ≡ sign_text negative ++ rest
    → (negative ≡ false → slice_index rest 0 ≢ 45) → rest ≡ int ++ tail → AllDigits 10 int → NoDigitFirst tail → SplitsFraction tail ds left
    → (left ≡ [] → ⊥) → (form : Form) → Shows EpochSeconds text form → ⊥
no_fraction text rest int tail ds left negative e f g digits ends split none (clock_form letter c es z) h = h.0
no_fraction text rest int tail ds left negative e f g digits ends split none (gmt_form c) h = h.0
no_fraction text rest int tail ds left negative e f g digits ends split none (seconds_form n i es) h =
    let one = one_number text rest int tail negative e f g digits ends n i es h in
    none (sym (split.only es [] h.0.1 tt (sym one.2 ∙ sym (append-nil (fraction_text es)))).1)

-- a text is that of one fraction
one_fraction : (ds es : List ℕ) → fraction_text ds ≡ fraction_text es → ds ≡ es
one_fraction [] [] e = refl
one_fraction [] (d ∷ es) e = absurd (omega (arith, ap length e))
one_fraction (d ∷ ds) [] e = absurd (omega (arith, ap length e))
one_fraction (d ∷ ds) (c ∷ es) e = same_rest _ _ _ _ e

-- a number has one sign, one whole part and one fraction
pub one_epoch : (text : List ℕ) (n : Bool) (i ds : List ℕ) (n' : Bool) (i' ds' : List ℕ) → Shows EpochSeconds text (seconds_form n i ds)
    → Shows EpochSeconds text (seconds_form n' i' ds') → seconds_form n i ds ≡ seconds_form n' i' ds'
one_epoch text n i ds n' i' ds' h k =
    let there : text ≡ sign_text n' ++ (i' ++ fraction_text ds') = k.1 ∙ append_assoc (sign_text n') i' (fraction_text ds') in
    let one = one_number text (i' ++ fraction_text ds') i' (fraction_text ds') n' there (λ _. no_minus i' (fraction_text ds') k.0.0) refl
    k.0.0.0.1 (fraction_ends ds') n i ds h in
    let digits = one_fraction ds ds' one.2 in
    λ j. seconds_form (one.0 j) (one.1 j) (digits j)
