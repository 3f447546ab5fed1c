-- What a byte makes of a place within the digits of a code unit, for each number of digits so far.
use Rattle.std.proofs.Common.{◌≡◌, ◌<◌, ◌+◌, ◌*◌, ℕ, Some, ◌∷◌, sym, subst, arith}
use Rattle.sm_json.specs.declared.spot.UnitDigits.{UnitDigits}
use Rattle.sm_json.specs.declared.spot.UnitDigits.TheVariants.{First, Second, Third, Fourth}
use Rattle.sm_json.specs.declared.spot.CharacterPart.TheVariants.{Unit as InUnit, LowUnit}
use Rattle.sm_json.specs.declared.spot.SpotStep.{SpotStep}
use Rattle.sm_json.specs.declared.spot.SpotStep.TheVariants.{Within}
use Rattle.sm_bytes.specs.Escapes.{hex_value, IsLow, joined}
use Rattle.sm_json.specs.steps.TextRest.{PartRest}
use Rattle.sm_json.specs.steps.TextSteps.{IsLowBegun, UnitEnd, CodeEnd, StepsTo, PartSteps}
use Rattle.sm_json.proofs.Steps.{steps_along}
use Rattle.sm_json.proofs.Units.{hex_small, first_digit, second_digit, fourth_digit, unit_goes, unit_ends}
use Rattle.sm_json.proofs.Escapes.{low_same, low_ends}

-- a unit that stands first
pub unit_first : (old : UnitDigits) (x d : ℕ) → old ≡ First → hex_value x ≡ Some d → PartSteps (InUnit old) x (Within (InUnit (Second d)))
unit_first old x d is hex =
    subst (λ q. PartSteps (InUnit q) x (Within (InUnit (Second d)))) (sym is)
    (hex_small x d hex, λ c s r k. unit_goes First (Second d) x (first_digit x d hex) c s r)

pub unit_second : (old : UnitDigits) (x n d : ℕ) (step : SpotStep) → old ≡ Second n → hex_value x ≡ Some d
    → StepsTo (PartRest (InUnit (Third (n * 16 + d)))) step → PartSteps (InUnit old) x step
unit_second old x n d step is hex h =
    subst (λ q. PartSteps (InUnit q) x step) (sym is)
    (steps_along (λ c s r. PartRest (InUnit (Second n)) c (x ∷ s) r) (PartRest (InUnit (Third (n * 16 + d)))) step
    (λ c s r k. unit_goes (Second n) (Third (n * 16 + d)) x (second_digit n x d hex) c s r) h)

pub unit_fourth : (old : UnitDigits) (x n d : ℕ) (step : SpotStep) → old ≡ Fourth n → hex_value x ≡ Some d
    → StepsTo (UnitEnd (n * 16 + d)) step
    → PartSteps (InUnit old) x step
unit_fourth old x n d step is hex h =
    subst (λ q. PartSteps (InUnit q) x step) (sym is)
    (steps_along (λ c s r. PartRest (InUnit (Fourth n)) c (x ∷ s) r) (UnitEnd (n * 16 + d)) step
    (λ c s r k. unit_ends (Fourth n) x (n * 16 + d) (fourth_digit n x d hex) c s r) h)

-- a low surrogate
pub low_first : (high : ℕ) (old : UnitDigits) (x d : ℕ) (step : SpotStep) → old ≡ First → hex_value x ≡ Some d
    → StepsTo (PartRest (LowUnit high (Second d))) step → PartSteps (LowUnit high old) x step
low_first high old x d step is hex h =
    subst (λ q. PartSteps (LowUnit high q) x step) (sym is)
    (steps_along (λ c s r. PartRest (LowUnit high First) c (x ∷ s) r) (PartRest (LowUnit high (Second d))) step
    (low_same high First (Second d) x (first_digit x d hex)) h)

pub low_second : (high : ℕ) (old : UnitDigits) (x n d : ℕ) (step : SpotStep) → old ≡ Second n → hex_value x ≡ Some d
    → StepsTo (PartRest (LowUnit high (Third (n * 16 + d)))) step → PartSteps (LowUnit high old) x step
low_second high old x n d step is hex h =
    subst (λ q. PartSteps (LowUnit high q) x step) (sym is)
    (steps_along (λ c s r. PartRest (LowUnit high (Second n)) c (x ∷ s) r) (PartRest (LowUnit high (Third (n * 16 + d)))) step
    (low_same high (Second n) (Third (n * 16 + d)) x (second_digit n x d hex)) h)

-- the last digit of a low surrogate makes one
last_low : (n d : ℕ) → IsLowBegun (Fourth n) → d < 16 → IsLow (n * 16 + d)
last_low n d begun small = (omega arith, omega arith)

pub low_fourth : (high : ℕ) (old : UnitDigits) (x n d : ℕ) (step : SpotStep) → old ≡ Fourth n → hex_value x ≡ Some d → IsLowBegun old
    → StepsTo (CodeEnd (joined high (n * 16 + d))) step → PartSteps (LowUnit high old) x step
low_fourth high old x n d step is hex begun h =
    subst (λ q. PartSteps (LowUnit high q) x step) (sym is)
    (steps_along (λ c s r. PartRest (LowUnit high (Fourth n)) c (x ∷ s) r) (CodeEnd (joined high (n * 16 + d))) step
    (low_ends high (Fourth n) x (n * 16 + d) (last_low n d (subst IsLowBegun is begun) (hex_small x d hex)) (fourth_digit n x d hex)) h)
