use Rattle.std.proofs.Common.{◌≡◌, ℕ, List, drop, map}
use Rattle.std.specs.Prelude.{◌||◌}
use Rattle.sm_bind.specs.Roles.{is_among}
use Rattle.sm_bind_read.specs.steps.Taken.{has_text}
use Rattle.sm_bind_read.proofs.taken.put_literals.Given as goal

abbrev pub invariant-loop-literal : goal.invariant-loop-literal
invariant-loop-literal l = (key : List ℕ)
    → (has_text l.keys key || is_among (map (λ p. p.0) (drop l.literal-index l.literals)) key)
    ≡ (has_text l.fn.keys key || is_among (map (λ p. p.0) l.literals) key)
