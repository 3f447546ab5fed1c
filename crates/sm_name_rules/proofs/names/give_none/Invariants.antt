use Rattle.std.proofs.Common.{ℕ, take}
use Rattle.std.specs.List.{Contains}
use Rattle.sm_name_rules.specs.steps.Naming.{GivesNone}
use Rattle.sm_name_rules.proofs.names.give_none.Given as goal

abbrev pub invariant-loop-service : goal.invariant-loop-service
invariant-loop-service l = (k : ℕ) → Contains (take l.service-index l.services) k → GivesNone l.graph k
