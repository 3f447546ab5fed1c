use Rattle.std.proofs.Common.{take}
use Rattle.sm_reference_rules.specs.steps.Finding.{IsHomeOf, Moves}
use Rattle.sm_reference_rules.proofs.finite.look_at_members.Given as goal

abbrev pub invariant-loop-member : goal.invariant-loop-member
invariant-loop-member l = Moves l.graph (IsHomeOf l.graph l.back (take l.member-index l.members)) l.initial.known l.known
