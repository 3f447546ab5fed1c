-- Behind a backslash `u` opens a code unit.
use Rattle.std.proofs.Common.{sym, subst}
use Rattle.sm_json.specs.steps.TextSteps.{PartSteps}
use Rattle.sm_json.specs.declared.spot.UnitDigits.TheVariants.{First}
use Rattle.sm_json.specs.declared.spot.CharacterPart.TheVariants.{Escape as BehindBackslash, Unit as InUnit}
use Rattle.sm_json.specs.declared.spot.SpotStep.TheVariants.{Within}
use Rattle.sm_json.proofs.Escapes.{letter_taken}
use Rattle.sm_json.proofs.escape.escaped.Goals as goal

pub returns-then-byte-eq117 : goal.returns-then-byte-eq117
returns-then-byte-eq117 c = subst (λ x. PartSteps BehindBackslash x (Within (InUnit First))) (sym c.if-byte-eq117.true) letter_taken
