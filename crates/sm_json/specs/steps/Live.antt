-- That a place is live is one fact, and has one proof.
use Rattle.std.specs.Coded.{Unit-prop, le_prop}
use Rattle.sm_json.specs.declared.spot.UnitDigits.{UnitDigits}
use Rattle.sm_json.specs.declared.spot.UnitDigits.TheVariants.{First, Second, Third, Fourth}
use Rattle.sm_json.specs.declared.spot.CharacterPart.{CharacterPart}
use Rattle.sm_json.specs.declared.spot.CharacterPart.TheVariants.{Escape as BehindBackslash, Unit as InUnit, LowBackslash, LowLetter}
use Rattle.sm_json.specs.declared.spot.CharacterPart.TheVariants.{LowUnit, One}
use Rattle.sm_json.specs.declared.spot.CharacterPart.TheVariants.{Two, Three}
use Rattle.sm_json.specs.declared.spot.Spot.{Spot}
use Rattle.sm_json.specs.declared.spot.Spot.TheVariants.{Plain, Inside}
use Rattle.sm_json.specs.steps.TextSteps.{IsUnitBegun, IsLowBegun, IsPartLive, IsLive}

unit-prop : (d : UnitDigits) → IsProp (IsUnitBegun d)
unit-prop First = Unit-prop
unit-prop (Second n) = hlevel le_prop
unit-prop (Third n) = hlevel le_prop
unit-prop (Fourth n) = hlevel le_prop

low-prop : (d : UnitDigits) → IsProp (IsLowBegun d)
low-prop First = Unit-prop
low-prop (Second n) = hlevel le_prop
low-prop (Third n) = hlevel le_prop
low-prop (Fourth n) = hlevel le_prop

part-prop : (p : CharacterPart) → IsProp (IsPartLive p)
part-prop BehindBackslash = Unit-prop
part-prop (InUnit d) = unit-prop d
part-prop (LowBackslash high) = hlevel le_prop
part-prop (LowLetter high) = hlevel le_prop
part-prop (LowUnit high d) = hlevel (le_prop, low-prop d)
part-prop (One x) = hlevel le_prop
part-prop (Two x y) = hlevel le_prop
part-prop (Three x y z) = hlevel le_prop

pub IsLive-prop : (spot : Spot) → IsProp (IsLive spot)
IsLive-prop Plain = Unit-prop
IsLive-prop (Inside p) = part-prop p
