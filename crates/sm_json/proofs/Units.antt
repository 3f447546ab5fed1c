-- The digits of code units, and the escapes that they belong to.
use Rattle.std.proofs.Common.{◌≡◌, ◌↔◌, ◌≤◌, ◌<◌, ◌+◌, ◌*◌, ℕ, suc, Some, None, List, [], ◌∷◌, inl, inr, refl, sym, ◌∙◌, subst, arith}
use Rattle.std.specs.Char.{IsScalar}
use Rattle.sm_json.specs.declared.spot.UnitDigits.{UnitDigits}
use Rattle.sm_json.specs.declared.spot.UnitDigits.TheVariants.{First, Second, Third, Fourth}
use Rattle.sm_json.specs.declared.spot.CharacterPart.TheVariants.{LowBackslash}
use Rattle.sm_json.specs.declared.spot.SpotStep.TheVariants.{Within, Refused}
use Rattle.sm_bytes.specs.Escapes.{hex_value, IsHigh}
use Rattle.sm_json.specs.Strings.{HexDigits, LowHalf}
use Rattle.sm_json.specs.steps.TextRest.{DigitsRest, UnitRest}
use Rattle.sm_json.specs.steps.TextSteps.{UnitEnd, StepsTo}
use Rattle.std.proofs.lemmas.Bool.Decides.{nat_tests}
use Rattle.sm_json.proofs.Starts.{some_same}
use lib.Utf8.{scalar_cases}

-- one digit of a code unit
pub digit_taken : (k n v x d : ℕ) (s r : List ℕ) → hex_value x ≡ Some d → HexDigits (suc k) n v (x ∷ s) r ↔ HexDigits k (n * 16 + d) v s r
digit_taken k n v x d s r e =
    (λ h. subst (λ m. HexDigits k (n * 16 + m) v s r) (some_same h.0 d (sym h.1 ∙ e)) h.2, λ h. (d, e, h))

pub digit_refused : (k n v x : ℕ) (s r : List ℕ) → hex_value x ≡ None → HexDigits (suc k) n v (x ∷ s) r → ⊥
digit_refused k n v x s r e h = let f : Some h.0 ≡ None = sym h.1 ∙ e in cc

-- a digit's value
pub hex_small : (x d : ℕ) → hex_value x ≡ Some d → d < 16
hex_small x d e = grind (arith, nat_tests)

-- the number that digits make lies among those that begin as they do
pub digits_range_1 : (n v : ℕ) (s r : List ℕ) → HexDigits 1 n v s r → (n * 16 ≤ v) × (v < n * 16 + 16)
digits_range_1 n v [] r h = absurd h
digits_range_1 n v (x ∷ s) r h = let small = hex_small x h.0 h.1 in (omega (arith, h.2.0), omega (arith, h.2.0))

pub digits_range_2 : (n v : ℕ) (s r : List ℕ) → HexDigits 2 n v s r → (n * 256 ≤ v) × (v < n * 256 + 256)
digits_range_2 n v [] r h = absurd h
digits_range_2 n v (x ∷ s) r h =
    let small = hex_small x h.0 h.1 in
    let rest = digits_range_1 _ v s r h.2 in
    (omega arith, omega arith)

pub digits_range_3 : (n v : ℕ) (s r : List ℕ) → HexDigits 3 n v s r → (n * 4096 ≤ v) × (v < n * 4096 + 4096)
digits_range_3 n v [] r h = absurd h
digits_range_3 n v (x ∷ s) r h =
    let small = hex_small x h.0 h.1 in
    let rest = digits_range_2 _ v s r h.2 in
    (omega arith, omega arith)

-- a scalar value is no surrogate
pub no_surrogate : (c : ℕ) → IsScalar c → 0xD800 ≤ c → c < 0xE000 → ⊥
no_surrogate c k low high = elim (scalar_cases c k) [ inl h ↦ omega arith | inr h ↦ omega arith ]

-- the digits of a unit go on
abbrev pub SameRest : UnitDigits → ℕ → UnitDigits → Type 0
SameRest old x new = (v : ℕ) (s r : List ℕ) → DigitsRest old v (x ∷ s) r ↔ DigitsRest new v s r

abbrev pub LastDigit : UnitDigits → ℕ → ℕ → Type 0
LastDigit old x u = (v : ℕ) (s r : List ℕ) → DigitsRest old v (x ∷ s) r ↔ ((v ≡ u) × (s ≡ r))

pub unit_goes : (old new : UnitDigits) (x : ℕ) → SameRest old x new → (c : ℕ) (s r : List ℕ) → UnitRest old c (x ∷ s) r ↔ UnitRest new c s r
unit_goes old new x same c s r = (
  λ h. elim h [ inl y ↦ inl ((same c s r).0 y) | inr y ↦ inr (y.0, y.1, (same y.0 s y.1).0 y.2, y.3, y.4) ],
  λ h. elim h [ inl y ↦ inl ((same c s r).1 y) | inr y ↦ inr (y.0, y.1, (same y.0 s y.1).1 y.2, y.3, y.4) ],
)

unit_ends_there : (old : UnitDigits) (x u : ℕ) → LastDigit old x u → (c : ℕ) (s r : List ℕ) → UnitRest old c (x ∷ s) r → UnitEnd u c s r
unit_ends_there old x u same c s r (inl y) = inl ((same c s r).0 y)
unit_ends_there old x u same c s r (inr y) =
    let e = (same y.0 s y.1).0 y.2 in
    inr (subst IsHigh e.0 y.3, subst (λ l. LowHalf u c l r) (sym e.1) (subst (λ n. LowHalf n c y.1 r) e.0 y.4))

pub unit_ends : (old : UnitDigits) (x u : ℕ) → LastDigit old x u → (c : ℕ) (s r : List ℕ) → UnitRest old c (x ∷ s) r ↔ UnitEnd u c s r
unit_ends old x u same c s r = (
  unit_ends_there old x u same c s r,
  λ h. elim h [ inl y ↦ inl ((same c s r).1 y) | inr y ↦ inr (u, s, (same u s s).1 (refl, refl), y.0, y.1) ],
)

-- a whole unit
pub end_high : (u : ℕ) → IsHigh u → StepsTo (UnitEnd u) (Within (LowBackslash u))
end_high u high =
    (high, λ c s r k. (λ h. elim h [ inl y ↦ absurd (no_surrogate c k (omega arith) (omega arith)) | inr y ↦ y.1 ], λ h. inr (high, h)))

pub end_refused : (u : ℕ) → (IsHigh u → ⊥) → (IsScalar u → ⊥) → StepsTo (UnitEnd u) Refused
end_refused u not_high no_scalar = λ c s r k h. elim h [ inl y ↦ no_scalar (subst IsScalar y.0 k) | inr y ↦ not_high y.0 ]

-- each digit in its place
pub first_digit : (x d : ℕ) → hex_value x ≡ Some d → SameRest First x (Second d)
first_digit x d e v s r =
    let same : 0 * 16 + d ≡ d = omega arith in (
      λ h. subst (λ n. HexDigits 3 n v s r) same ((digit_taken 3 0 v x d s r e).0 h),
      λ h. (digit_taken 3 0 v x d s r e).1
          (subst (λ n. HexDigits 3 n v s r) (sym same) h),
    )

pub second_digit : (n x d : ℕ) → hex_value x ≡ Some d → SameRest (Second n) x (Third (n * 16 + d))
second_digit n x d e v s r = digit_taken 2 n v x d s r e

pub fourth_digit : (n x d : ℕ) → hex_value x ≡ Some d → LastDigit (Fourth n) x (n * 16 + d)
fourth_digit n x d e v s r = digit_taken 0 n v x d s r e

pub no_digit : (old : UnitDigits) (x : ℕ) → hex_value x ≡ None → (v : ℕ) (s r : List ℕ) → DigitsRest old v (x ∷ s) r → ⊥
no_digit First x e v s r = digit_refused 3 0 v x s r e
no_digit (Second n) x e v s r = digit_refused 2 n v x s r e
no_digit (Third n) x e v s r = digit_refused 1 n v x s r e
no_digit (Fourth n) x e v s r = digit_refused 0 n v x s r e
