use Rattle.std.proofs.Common.{◌≡◌, ◌++◌, [], ◌∷◌}
use Rattle.sm_tree.specs.steps.Canonical.{joined, end_word}
use Rattle.sm_tree.proofs.same.put_forms.Given as goal

abbrev pub invariant-loop-one : goal.invariant-loop-one
invariant-loop-one l = l.out ++ (joined l.one-iterator ++ end_word ∷ []) ≡ l.fn.out ++ (joined l.fn.forms.keys ++ end_word ∷ [])
