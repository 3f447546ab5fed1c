use Rattle.std.proofs.Common.{◌≡◌, ◌≤◌, drop, length, map, min}
use Rattle.sm_bind.specs.Roles.{is_among}
use Rattle.sm_bind_write.specs.steps.FreeKeys.{keys_before}
use Rattle.sm_bind_write.proofs.taken.before_literals.Given as goal

abbrev pub invariant-loop-literal : goal.invariant-loop-literal
invariant-loop-literal l = record {
  least : min l.len (keys_before (is_among (map (λ m. m.0) (drop l.literal-index l.literals))) (map (λ e. e.0) l.entries))
      ≡ keys_before (is_among (map (λ m. m.0) l.literals)) (map (λ e. e.0) l.entries);
  within : l.len ≤ length l.entries;
}
