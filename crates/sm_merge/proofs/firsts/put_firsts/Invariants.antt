use Rattle.std.proofs.Common.{◌≡◌, ◌++◌, ℕ, List, drop}
use Rattle.std.specs.Prelude.{◌||◌}
use Rattle.sm_merge.specs.steps.Firsts.{firsts, is_name_of, targets_view, unseen}
use Rattle.sm_merge.specs.steps.Known.{has_text}
use Rattle.sm_merge.proofs.firsts.put_firsts.Given as goal

abbrev pub invariant-loop-one : goal.invariant-loop-one
invariant-loop-one l = record {
  seen : (id : List ℕ) → (has_text l.seen id || is_name_of id (targets_view (drop l.one-index l.more)))
      ≡ (has_text l.fn.seen id || is_name_of id (targets_view l.more));
  all : targets_view l.all.items ++ unseen (has_text l.seen) (firsts (targets_view (drop l.one-index l.more)))
      ≡ targets_view l.fn.all.items ++ unseen (has_text l.fn.seen) (firsts (targets_view l.more));
}
