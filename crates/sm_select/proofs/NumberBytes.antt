-- Numbers by their bytes.
use Rattle.std.proofs.Common.{◌≡◌, ◌⊎◌, inl, inr, ℕ, ◌≤◌, Bool, true, ◌||◌, ◌==◌, List, [], ◌∷◌, ◌++◌, refl, sym, ap, ◌∙◌, subst, arith}
use Rattle.std.specs.Char.{is_ascii_digit}
use Rattle.std.specs.List.{list_all}
use Rattle.std.proofs.lemmas.Bool.Decides.{nat_tests}
use Rattle.std.proofs.lemmas.List.Folds.{list_all-append}
use Rattle.sm_bytes.specs.Ascii.{plus, minus, full_stop, small_e, capital_e}
use Rattle.sm_tree.specs.Numbers.{IsNumber, IsDigit, AreDigits, IsMinus, IsInt, IsDigits, IsFraction, IsSign, IsExponent}
use Rattle.sm_ids.proofs.Cutting.{and_also}

abbrev pub is_number_byte : ℕ → Bool
is_number_byte c =
    is_ascii_digit c || ((c == full_stop) || ((c == plus) || ((c == minus) || ((c == small_e) || (c == capital_e)))))

abbrev pub begins_number : ℕ → Bool
begins_number c = is_ascii_digit c || (c == minus)

digit_is : (c : ℕ) → IsDigit c → is_ascii_digit c ≡ true
digit_is c h = let low = h.0 in let high = h.1 in grind (arith, nat_tests)

one_to_nine : (c : ℕ) → 49 ≤ c → c ≤ 57 → IsDigit c
one_to_nine c h k = (omega arith, k)

digit_byte : (c : ℕ) → IsDigit c → is_number_byte c ≡ true
digit_byte c h = let low = h.0 in let high = h.1 in grind (arith, nat_tests)

digit_begins : (c : ℕ) → IsDigit c → begins_number c ≡ true
digit_begins c h = let low = h.0 in let high = h.1 in grind (arith, nat_tests)

digits_all : (ds : List ℕ) → AreDigits ds → list_all is_number_byte ds ≡ true
digits_all [] h = refl
digits_all (c ∷ cs) h = and_also (is_number_byte c) (list_all is_number_byte cs) (digit_byte c h.0) (digits_all cs h.1)

some_all : (ds : List ℕ) → IsDigits ds → list_all is_number_byte ds ≡ true
some_all ds (c, cs, e, h, k) = subst (λ x. list_all is_number_byte x ≡ true) (sym e)
    (and_also (is_number_byte c) (list_all is_number_byte cs) (digit_byte c h) (digits_all cs k))

joined : (xs ys : List ℕ) → list_all is_number_byte xs ≡ true → list_all is_number_byte ys ≡ true → list_all is_number_byte (xs ++ ys) ≡
    true
joined xs ys h k = list_all-append is_number_byte xs ys ∙ and_also (list_all is_number_byte xs) (list_all is_number_byte ys) h k

minus_all : (t : List ℕ) → IsMinus t → list_all is_number_byte t ≡ true
minus_all t (inl e) = subst (λ x. list_all is_number_byte x ≡ true) (sym e) refl
minus_all t (inr e) = subst (λ x. list_all is_number_byte x ≡ true) (sym e) refl

int_all : (t : List ℕ) → IsInt t → list_all is_number_byte t ≡ true
int_all t (inl e) = subst (λ x. list_all is_number_byte x ≡ true) (sym e) refl
int_all t (inr (c, ds, e, low, high, k)) = some_all t (c, ds, e, one_to_nine c low high, k)

fraction_all : (t : List ℕ) → IsFraction t → list_all is_number_byte t ≡ true
fraction_all t (inl e) = subst (λ x. list_all is_number_byte x ≡ true) (sym e) refl
fraction_all t (inr (ds, e, h)) =
    subst (λ x. list_all is_number_byte x ≡ true) (sym e) (and_also (is_number_byte 46) (list_all is_number_byte ds) refl (some_all ds h))

sign_all : (t : List ℕ) → IsSign t → list_all is_number_byte t ≡ true
sign_all t (inl e) = subst (λ x. list_all is_number_byte x ≡ true) (sym e) refl
sign_all t (inr (inl e)) = subst (λ x. list_all is_number_byte x ≡ true) (sym e) refl
sign_all t (inr (inr e)) = subst (λ x. list_all is_number_byte x ≡ true) (sym e) refl

e_byte : (c : ℕ) → (c ≡ small_e) ⊎ (c ≡ capital_e) → is_number_byte c ≡ true
e_byte c (inl e) = subst (λ x. is_number_byte x ≡ true) (sym e) refl
e_byte c (inr e) = subst (λ x. is_number_byte x ≡ true) (sym e) refl

exponent_all : (t : List ℕ) → IsExponent t → list_all is_number_byte t ≡ true
exponent_all t (inl e) = subst (λ x. list_all is_number_byte x ≡ true) (sym e) refl
exponent_all t (inr (c, sign, ds, e, is, h, k)) =
    subst (λ x. list_all is_number_byte x ≡ true) (sym e)
    (and_also (is_number_byte c) (list_all is_number_byte (sign ++ ds)) (e_byte c is) (joined sign ds (sign_all sign h) (some_all ds k)))

pub number_bytes : (t : List ℕ) → IsNumber t → list_all is_number_byte t ≡ true
number_bytes t n = subst (λ x. list_all is_number_byte x ≡ true) (sym n.parts)
    (joined n.minus (n.whole ++ (n.fraction ++ n.exponent)) (minus_all n.minus n.is_minus)
    (joined n.whole (n.fraction ++ n.exponent) (int_all n.whole n.is_int)
    (joined n.fraction n.exponent (fraction_all n.fraction n.is_fraction) (exponent_all n.exponent n.is_exponent))))

abbrev pub NumberHead : List ℕ → Type 0
NumberHead t = (c : ℕ) × (cs : List ℕ) × (t ≡ c ∷ cs) × (begins_number c ≡ true)

int_head : (t r : List ℕ) → IsInt t → NumberHead (t ++ r)
int_head t r (inl e) = (48, r, ap (λ x. x ++ r) e, refl)
int_head t r (inr (c, ds, e, low, high, k)) = (c, ds ++ r, ap (λ x. x ++ r) e, digit_begins c (one_to_nine c low high))

behind_minus : (m t : List ℕ) → IsMinus m → NumberHead t → NumberHead (m ++ t)
behind_minus m t (inl e) h = subst (λ x. NumberHead (x ++ t)) (sym e) h
behind_minus m t (inr e) h = (45, t, ap (λ x. x ++ t) e, refl)

pub number_head : (t : List ℕ) → IsNumber t → NumberHead t
number_head t n = subst NumberHead (sym n.parts)
    (behind_minus n.minus (n.whole ++ (n.fraction ++ n.exponent)) n.is_minus (int_head n.whole (n.fraction ++ n.exponent) n.is_int))
