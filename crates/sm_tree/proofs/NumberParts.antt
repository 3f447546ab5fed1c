-- What the first byte says of each part of a number (RFC 8259, section 6), and that each part may begin so.
use Rattle.std.proofs.Common.{◌≡◌, ℕ, ◌≤◌, ◌⊎◌, inl, inr, List, [], ◌∷◌, ◌++◌, refl, sym, ap, subst, ◌∙◌, arith}
use Rattle.sm_tree.specs.Numbers.{IsDigit, AreDigits, IsMinus, IsInt, IsDigits, IsFraction, IsSign, IsExponent, IsNumber}
use Rattle.sm_tree.specs.NumberTail.{IsExponentMark, Then}

-- two texts, the first of which may be empty: the byte belongs to the second or to the first
split_first : (P Q : List ℕ → Type 0) (c : ℕ) (u f r : List ℕ) → c ∷ u ≡ f ++ r → P f → Q r → (P [] × Q (c ∷ u)) ⊎ Then (λ s. P (c ∷ s)) Q u
split_first P Q c u [] r e p q = inl (p, subst Q (sym e) q)
split_first P Q c u (d ∷ f) r e p q =
    let same : d ≡ c = cc in
    let rest : u ≡ f ++ r = cc in
    inr (record { first = f; rest = r; parts = rest; is_first = subst (λ x. P (x ∷ f)) same p; is_rest = q })

pub then_split : (P Q : List ℕ → Type 0) (c : ℕ) (u : List ℕ) → Then P Q (c ∷ u) → (P [] × Q (c ∷ u)) ⊎ Then (λ s. P (c ∷ s)) Q u
then_split P Q c u t = split_first P Q c u t.first t.rest t.parts t.is_first t.is_rest

-- nothing, and then a text of the second kind
pub then_none : (P Q : List ℕ → Type 0) (u : List ℕ) → P [] → Q u → Then P Q u
then_none P Q u p q = record { first = []; rest = u; parts = refl; is_first = p; is_rest = q }

pub then_more : (P Q : List ℕ → Type 0) (c : ℕ) (u : List ℕ) → Then (λ s. P (c ∷ s)) Q u → Then P Q (c ∷ u)
then_more P Q c u t =
    record { first = c ∷ t.first; rest = t.rest; parts = ap (λ s. c ∷ s) t.parts; is_first = t.is_first; is_rest = t.is_rest }

pub then_first : (P R Q : List ℕ → Type 0) (u : List ℕ) → ((s : List ℕ) → P s → R s) → Then P Q u → Then R Q u
then_first P R Q u f t = record { first = t.first; rest = t.rest; parts = t.parts; is_first = f t.first t.is_first; is_rest = t.is_rest }

-- a first part that is empty
pub then_rest : (P Q : List ℕ → Type 0) (u : List ℕ) → ((s : List ℕ) → P s → s ≡ []) → Then P Q u → Q u
then_rest P Q u f t = let whole : u ≡ t.rest = t.parts ∙ ap (λ s. s ++ t.rest) (f t.first t.is_first) in subst Q (sym whole) t.is_rest

-- a number is a minus, or none, and then what a minus may be followed by
pub minus_then : (u : List ℕ) → IsNumber u → Then IsMinus (Then IsInt (Then IsFraction IsExponent)) u
minus_then u n = record {
  first = n.minus;
  rest = n.whole ++ (n.fraction ++ n.exponent);
  parts = n.parts;
  is_first = n.is_minus;
  is_rest = record {
    first = n.whole;
    rest = n.fraction ++ n.exponent;
    parts = refl;
    is_first = n.is_int;
    is_rest = record { first = n.fraction; rest = n.exponent; parts = refl; is_first = n.is_fraction; is_rest = n.is_exponent };
  };
}

pub then_minus : (u : List ℕ) → Then IsMinus (Then IsInt (Then IsFraction IsExponent)) u → IsNumber u
then_minus u t = record {
  minus = t.first;
  whole = t.is_rest.first;
  fraction = t.is_rest.is_rest.first;
  exponent = t.is_rest.is_rest.rest;
  parts = t.parts ∙ ap (λ s. t.first ++ s) (t.is_rest.parts ∙ ap (λ s. t.is_rest.first ++ s) t.is_rest.is_rest.parts);
  is_minus = t.is_first;
  is_int = t.is_rest.is_first;
  is_fraction = t.is_rest.is_rest.is_first;
  is_exponent = t.is_rest.is_rest.is_rest;
}

no_first : (c : ℕ) (u : List ℕ) → [] ≡ c ∷ u → ⊥
no_first c u e = cc

pub no_digits : IsDigits [] → ⊥
no_digits h = no_first h.0 h.1 h.2

pub no_int : IsInt [] → ⊥
no_int (inl e) = no_first 48 [] e
no_int (inr h) = no_first h.0 h.1 h.2

-- 1*DIGIT
pub digits_begin : (c : ℕ) (u : List ℕ) → IsDigits (c ∷ u) → IsDigit c × AreDigits u
digits_begin c u h =
    let same : h.0 ≡ c = cc in
    let rest : h.1 ≡ u = cc in
    (subst IsDigit same h.3, subst AreDigits rest h.4)

pub digits_more : (c : ℕ) (u : List ℕ) → IsDigit c → AreDigits u → IsDigits (c ∷ u)
digits_more c u d ds = (c, u, refl, d, ds)

-- int
pub int_begins : (c : ℕ) (u : List ℕ) → IsInt (c ∷ u) → ((c ≡ 48) × (u ≡ [])) ⊎ ((49 ≤ c) × (c ≤ 57) × AreDigits u)
int_begins c u (inl e) = inl ((cc), (cc))
int_begins c u (inr (d, ds, e, low, high, digits)) =
    let same : d ≡ c = cc in
    let rest : ds ≡ u = cc in
    inr (omega arith, omega arith, subst AreDigits rest digits)

-- frac
pub fraction_begins : (c : ℕ) (u : List ℕ) → IsFraction (c ∷ u) → (c ≡ 46) × IsDigits u
fraction_begins c u (inl e) = absurd (cc)
fraction_begins c u (inr (ds, e, digits)) =
    let rest : ds ≡ u = cc in
    ((cc), subst IsDigits rest digits)

-- exp
pub exponent_begins : (c : ℕ) (u : List ℕ) → IsExponent (c ∷ u) → IsExponentMark c × Then IsSign IsDigits u
exponent_begins c u (inl e) = absurd (cc)
exponent_begins c u (inr (d, sign, ds, e, letter, is_sign, digits)) =
    let same : d ≡ c = cc in
    let rest : u ≡ sign ++ ds = cc in
    (subst IsExponentMark same letter, record { first = sign; rest = ds; parts = rest; is_first = is_sign; is_rest = digits })

pub exponent_more : (c : ℕ) (u : List ℕ) → IsExponentMark c → Then IsSign IsDigits u → IsExponent (c ∷ u)
exponent_more c u letter t = inr (c, t.first, t.rest, ap (λ s. c ∷ s) t.parts, letter, t.is_first, t.is_rest)

-- [ minus / plus ]
pub sign_begins : (c : ℕ) (u : List ℕ) → IsSign (c ∷ u) → ((c ≡ 45) ⊎ (c ≡ 43)) × (u ≡ [])
sign_begins c u (inl e) = absurd (cc)
sign_begins c u (inr (inl e)) = (inl (cc), (cc))
sign_begins c u (inr (inr e)) = (inr (cc), (cc))

-- [ minus ]
pub minus_begins : (c : ℕ) (u : List ℕ) → IsMinus (c ∷ u) → (c ≡ 45) × (u ≡ [])
minus_begins c u (inl e) = absurd (cc)
minus_begins c u (inr e) = ((cc), (cc))
