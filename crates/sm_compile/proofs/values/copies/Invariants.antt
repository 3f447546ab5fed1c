use Rattle.std.proofs.Common.{◌≡◌, take}
use Rattle.sm_compile.specs.steps.Naming.{texts_of_all}
use Rattle.sm_compile.proofs.values.copies.Given as goal

abbrev pub invariant-loop-text : goal.invariant-loop-text
invariant-loop-text l = l.all.items ≡ texts_of_all (take l.text-index l.texts)
