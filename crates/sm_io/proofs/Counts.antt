-- Counts of faults that stayed quiet.
use Rattle.std.proofs.Common.{ℕ, arith}
use Rattle.sm_io.specs.Causes.{Quiet, Rose}

-- a count that stayed quiet didn't rise
pub quiet_not_rose : (before now : ℕ) → Quiet before now → Rose before now → ⊥
quiet_not_rose before now quiet rose = omega (arith, quiet.same, quiet.below, rose)
