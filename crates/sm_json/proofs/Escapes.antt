-- What a byte makes of a place behind a backslash or a high surrogate.
use Rattle.std.proofs.Common.{◌≡◌, ◌↔◌, ℕ, Some, None, List, ◌∷◌, inl, inr, refl, ap, ◌∙◌, subst, arith}
use Rattle.std.specs.Char.{IsScalar}
use Rattle.sm_json.specs.declared.spot.UnitDigits.{UnitDigits}
use Rattle.sm_json.specs.declared.spot.UnitDigits.TheVariants.{First, Second, Third, Fourth}
use Rattle.sm_json.specs.declared.spot.CharacterPart.TheVariants.{Escape as BehindBackslash, Unit as InUnit, LowBackslash, LowLetter}
use Rattle.sm_json.specs.declared.spot.CharacterPart.TheVariants.{LowUnit}
use Rattle.sm_json.specs.declared.spot.SpotStep.TheVariants.{Within, Refused}
use Rattle.sm_bytes.specs.Escapes.{short_escape, IsHigh, IsLow, joined}
use Rattle.sm_json.specs.Strings.{HexDigits, CodeUnit, Escape}
use Rattle.sm_json.specs.steps.TextRest.{DigitsRest, UnitRest, PartRest}
use Rattle.sm_json.specs.steps.TextSteps.{IsLowBegun, CodeEnd, StepsTo, PartSteps}
use Rattle.sm_json.proofs.Units.{SameRest, LastDigit, digits_range_1, digits_range_2, digits_range_3}

-- behind a backslash: the letter of a code unit
letter_there : (c : ℕ) (s r : List ℕ) → Escape c (117 ∷ s) r → UnitRest First c s r
letter_there c s r (inl h) = let f : None ≡ Some c = ap short_escape (let g : 117 ≡ h.0 = cc in g) ∙ h.2 in absurd (cc)
letter_there c s r (inr (inl h)) = inl (subst (λ l. HexDigits 4 0 c l r) (let g : h.0 ≡ s = cc in g) h.2)
letter_there c s r (inr (inr h)) =
    inr (h.0, h.1, subst (λ l. HexDigits 4 0 h.0 l h.1) (let g : h.2.0 ≡ s = (let e = h.2.1 in cc) in g) h.2.2, h.3, h.4)

pub letter_taken : PartSteps BehindBackslash 117 (Within (InUnit First))
letter_taken = (
  tt,
  λ c s r k. (
    letter_there c s r,
    λ h. elim h [ inl y ↦ inr (inl (s, refl, y)) | inr y ↦ inr (inr (y.0, y.1, (s, refl, y.2), y.3, y.4)) ],
  ),
)

-- behind a high surrogate: the backslash and the letter of the low one
pub low_backslash_taken : (high : ℕ) → IsHigh high → PartSteps (LowBackslash high) 92 (Within (LowLetter high))
low_backslash_taken high is_high = (
  is_high,
  λ c s r k. (
    λ h. (h.0, subst (λ l. CodeUnit h.0 l r) (let g : h.1 ≡ s = (let e = h.2 in cc) in g) h.3, h.4, h.5),
    λ h. (h.0, s, refl, h.1, h.2, h.3),
  ),
)

pub low_letter_taken : (high : ℕ) → IsHigh high → PartSteps (LowLetter high) 117 (Within (LowUnit high First))
low_letter_taken high is_high = (
  (is_high, tt),
  λ c s r k. (
    λ h. (h.0, subst (λ l. HexDigits 4 0 h.0 l r) (let g : h.1.0 ≡ s = (let e = h.1.1 in cc) in g) h.1.2, h.2, h.3),
    λ h. (h.0, (s, refl, h.1), h.2, h.3),
  ),
)

-- the digits of a low surrogate
pub low_same : (high : ℕ) (old new : UnitDigits) (x : ℕ) → SameRest old x new → (c : ℕ) (s r : List ℕ) → IsScalar c
    → PartRest (LowUnit high old) c (x ∷ s) r ↔ PartRest (LowUnit high new) c s r
low_same high old new x same c s r k = (
  λ h. (h.0, (same h.0 s r).0 h.1, h.2, h.3),
  λ h. (h.0, (same h.0 s r).1 h.1, h.2, h.3),
)

low_ends_there : (high : ℕ) (old : UnitDigits) (x u : ℕ) → LastDigit old x u → (c : ℕ) (s r : List ℕ)
    → PartRest (LowUnit high old) c (x ∷ s) r
    → CodeEnd (joined high u) c s r
low_ends_there high old x u same c s r h =
    let e = (same h.0 s r).0 h.1 in
    (h.3 ∙ ap (joined high) e.0, e.1)

pub low_ends : (high : ℕ) (old : UnitDigits) (x u : ℕ) → IsLow u → LastDigit old x u → (c : ℕ) (s r : List ℕ) → IsScalar c
    → PartRest (LowUnit high old) c (x ∷ s) r ↔ CodeEnd (joined high u) c s r
low_ends high old x u low same c s r k = (low_ends_there high old x u same c s r, λ h. (u, (same u s r).1 (refl, h.1), low, h.0))

-- digits that begin no low surrogate
low_begun : (d : UnitDigits) (v : ℕ) (s r : List ℕ) → DigitsRest d v s r → IsLow v → IsLowBegun d
low_begun First v s r h low = tt
low_begun (Second n) v s r h low = let range = digits_range_3 n v s r h in (omega arith, omega arith)
low_begun (Third n) v s r h low = let range = digits_range_2 n v s r h in (omega arith, omega arith)
low_begun (Fourth n) v s r h low = let range = digits_range_1 n v s r h in (omega arith, omega arith)

pub low_refused : (high : ℕ) (d : UnitDigits) → (IsLowBegun d → ⊥) → StepsTo (PartRest (LowUnit high d)) Refused
low_refused high d not_begun c s r k h = not_begun (low_begun d h.0 s r h.1 h.2)
