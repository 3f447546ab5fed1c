use Rattle.std.proofs.Common.{◌≡◌, List, length}
use Rattle.sm_merge.specs.Stated.{Stated}
use Rattle.sm_merge.specs.steps.Contributing.{AreWalkedTables}
use Rattle.sm_merge.specs.steps.MixedIn.{AllBelow}
use Rattle.sm_merge.proofs.MixedMade.{MixedSoFar}
use Rattle.sm_merge.proofs.effective_mixins.all_mixed_in.Given as goal

abbrev pub invariant-loop-row : goal.invariant-loop-row
invariant-loop-row l = record {
  size : length l.all.items ≡ l.row-index;
  below : AllBelow (length l.rows) l.all.items;
  mixed : (ss : List Stated) → AreWalkedTables ss l.rows l.traits l.walk → MixedSoFar ss l.rows l.all.items;
}
