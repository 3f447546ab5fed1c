use Rattle.std.proofs.Common.{◌≡◌, ◌++◌, drop}
use Rattle.sm_tree.specs.View.{members_view}
use Rattle.sm_merge.specs.steps.EffectiveTables.{trait_pairs}
use Rattle.sm_merge.proofs.shape_parts.copied_traits.Given as goal

abbrev pub invariant-loop-one : goal.invariant-loop-one
invariant-loop-one l = members_view l.all.items ++ trait_pairs (drop l.one-index l.traits) ≡ trait_pairs l.traits
