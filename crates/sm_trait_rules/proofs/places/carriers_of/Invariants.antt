use Rattle.std.proofs.Common.{◌≡◌, ℕ, map, take}
use Rattle.sm_trait_rules.proofs.places.carriers_of.Given as goal

abbrev pub invariant-loop-used : goal.invariant-loop-used
invariant-loop-used l = l.carriers.items ≡ map (λ (u : ℕ × ℕ). u.0) (take l.used-index l.uses)
