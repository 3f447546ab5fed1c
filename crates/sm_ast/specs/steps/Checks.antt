-- What the checks of parts answer: that there is no fault, or the first one.
use Rattle.std.specs.Prelude.{◌≡◌, ℕ, List, Option, None, Result, Ok, Err}
use Rattle.std.specs.BTreeSet as sorted
use Rattle.std.specs.BTreeSet.{BTreeSet}
use Rattle.std.specs.Cmp.Lexicographic.{slice_cmp}
use Rattle.std.specs.Ordering.{nat_cmp}
use denote.Ref.{Bor}
use Rattle.sm_ast.specs.declared.refusal.AstRefusal.{AstRefusal}
use Rattle.sm_ast.specs.Answers.{Tells}
use Rattle.sm_ast.specs.Faults.{AstFault, stands_in}

abbrev pub Checks : {X : Type 0} → Option AstFault → Result X AstRefusal → Type 0
Checks fault (Ok x) = fault ≡ None
Checks fault (Err refusal) = Tells fault refusal

-- a set has the names that stood before, and no other
abbrev pub Remembers : BTreeSet (Bor (List ℕ)) → List (List ℕ) → Type 0
Remembers set before = (k : List ℕ) → sorted.contains_by (λ j. slice_cmp nat_cmp k j.now) set ≡ stands_in k before
