use Rattle.std.proofs.Common.{◌≡◌, ◌++◌, drop}
use Rattle.sm_merge.specs.Meaning.{meanings}
use Rattle.sm_merge.specs.steps.Known.{known}
use Rattle.sm_merge.proofs.stated.meant_ids.Given as goal

abbrev pub invariant-loop-reference : goal.invariant-loop-reference
invariant-loop-reference l =
    l.ids.items ++ meanings (known l.names) (drop l.reference-index l.references) ≡ meanings (known l.names) l.references
