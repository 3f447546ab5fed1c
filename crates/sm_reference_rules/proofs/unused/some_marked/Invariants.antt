use Rattle.std.proofs.Common.{◌≡◌, Bool, drop}
use Rattle.std.specs.List.{list_any}
use Rattle.sm_reference_rules.proofs.unused.some_marked.Given as goal

abbrev pub invariant-loop-mark : goal.invariant-loop-mark
invariant-loop-mark l = list_any (λ (b : Bool). b) (drop l.mark-index l.marks) ≡ list_any (λ (b : Bool). b) l.marks
