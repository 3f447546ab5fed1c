-- The decimal text of an integer of 64 bits spells it.
use Rattle.std.proofs.Common.{◌≡◌, ℕ, zero, suc, ◌^◌, ◌<◌, ◌≤◌, ℤ, pos, negsuc, neg_ℤ, List, [], ◌∷◌, ◌++◌, length, get_or, inl, inr}
use Rattle.std.proofs.Common.{refl, sym, ap, ◌∙◌, subst, arith, append-nil}
use Rattle.std.specs.Fmt.{decimal, signed_decimal}
use Rattle.std.specs.Str.Parse.{AllDigits, IsNumeral, digits_value, signed_digits_value, without_leading_sign}
use Rattle.std.proofs.lemmas.Bool.{cond-false, ne_eqb}
use Rattle.std.proofs.lemmas.Fmt.{decimal_is_IsNumeral, decimal_digit, first_decimal}
use Rattle.std.proofs.lemmas.Str.Parse.{digit_from_value, without_leading_plus_none}
use mir.Syntax.{w64}
use mir.Val.{SFits}
use Rattle.sm_tree.specs.Node.{int}
use Rattle.sm_tree.specs.Numbers.{IsMinus, AreDigits, IsInt, IsNumber, NumberText}

digits_from_values : (ds : List ℕ) → AllDigits 10 ds → AreDigits ds
digits_from_values [] all = tt
digits_from_values (d ∷ ds) all = let here = digit_from_value d all.0 in ((omega arith, omega arith), digits_from_values ds all.1)

-- digits without a leading zero are a JSON integer
is_int : (ds : List ℕ) → AllDigits 10 ds → 0 < length ds → 48 < get_or ds 0 0 → IsInt ds
is_int [] all some leading = absurd (omega arith)
is_int (d ∷ ds) all some leading =
    let here = digit_from_value d all.0 in inr (d, ds, refl, omega arith, omega arith, digits_from_values ds all.1)

decimal_is_int : (n : ℕ) → n < 2 ^ 64 → IsInt (decimal n)
decimal_is_int zero small = inl (decimal_digit 0 (omega arith))
decimal_is_int (suc n) small =
    let numeral = (decimal_is_IsNumeral (suc n) small).0 in
    is_int (decimal (suc n)) numeral.1 numeral.0 (first_decimal (suc n) (omega arith) small)

-- no decimal text begins with a sign
first_digit : (ds : List ℕ) → AllDigits 10 ds → 0 < length ds → 48 ≤ get_or ds 0 0
first_digit [] all some = absurd (omega arith)
first_digit (d ∷ ds) all some = let here = digit_from_value d all.0 in omega arith

-- a text that begins with no sign is read as it is
unsigned_text : (t : List ℕ) → 48 ≤ get_or t 0 0 → without_leading_sign t ≡ t
unsigned_text t digit =
    cond-false _ _ _ (ne_eqb (get_or t 0 0) 45 (λ e. omega arith)) ∙ without_leading_plus_none t (λ e. omega arith)

unsigned_value : (t : List ℕ) → 48 ≤ get_or t 0 0 → signed_digits_value 10 t ≡ pos (digits_value 10 t)
unsigned_value t digit =
    cond-false _ _ _ (ne_eqb (get_or t 0 0) 45 (λ e. omega arith)) ∙ ap (λ u. pos (digits_value 10 u)) (unsigned_text t digit)

whole_number : (minus ds : List ℕ) → IsMinus minus → IsInt ds → IsNumber (minus ++ ds)
whole_number minus ds is_minus is_whole = record {
  minus = minus;
  whole = ds;
  fraction = [];
  exponent = [];
  parts = ap (λ l. minus ++ l) (sym (append-nil ds));
  is_minus = is_minus;
  is_int = is_whole;
  is_fraction = inl refl;
  is_exponent = inl refl;
}

pub int_spelt : (z : ℤ) → SFits w64 z → NumberText (int z) (signed_decimal z)
int_spelt (pos n) fits =
    let small : n < 2 ^ 64 = omega (arith, fits) in
    let numeral = decimal_is_IsNumeral n small in
    let digit = first_digit (decimal n) numeral.0.1 numeral.0.0 in
    let value : signed_digits_value 10 (decimal n) ≡ pos n = unsigned_value (decimal n) digit ∙ ap pos numeral.1 in (
      whole_number [] (decimal n) (inl refl) (decimal_is_int n small),
      record {
        is_integer = subst (IsNumeral 10) (sym (unsigned_text (decimal n) digit)) numeral.0;
        in_range =
            subst (SFits w64) (sym value) fits;
      },
      value,
    )
int_spelt (negsuc n) fits =
    let small : suc n < 2 ^ 64 = omega (arith, fits) in
    let numeral = decimal_is_IsNumeral (suc n) small in
    let value : signed_digits_value 10 (45 ∷ decimal (suc n)) ≡ negsuc n = ap (λ m. neg_ℤ (pos m)) numeral.1 in (
      whole_number (45 ∷ []) (decimal (suc n)) (inr refl) (decimal_is_int (suc n) small),
      record { is_integer = numeral.0; in_range = subst (SFits w64) (sym value) fits },
      value,
    )
