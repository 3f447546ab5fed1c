use Rattle.std.proofs.Common.{◌≡◌, ◌++◌, drop}
use Rattle.sm_merge.specs.steps.Firsts.{firsts, targets_view, unseen}
use Rattle.sm_merge.specs.steps.Known.{has_text}
use Rattle.sm_merge.proofs.members.put_own.Given as goal

abbrev pub invariant-loop-name : goal.invariant-loop-name
invariant-loop-name l = targets_view l.members.items ++ unseen (has_text l.seen) (firsts (drop l.name-index l.own))
    ≡ targets_view l.fn.members.items ++ unseen (has_text l.fn.seen) (firsts l.own)
