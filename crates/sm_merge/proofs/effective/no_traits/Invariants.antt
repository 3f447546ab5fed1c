use Rattle.std.proofs.Common.{◌≡◌, length}
use Rattle.sm_merge.specs.steps.Counting.{AreSoundEntries}
use Rattle.sm_merge.proofs.effective.no_traits.Given as goal

abbrev pub invariant-loop : goal.invariant-loop
invariant-loop l = record {
  size : length l.all.items ≡ l.counter;
  sound : AreSoundEntries l.all.items;
}
