use Rattle.std.proofs.Common.{◌≡◌, ◌≤◌, ℕ, List, drop, length}
use Rattle.std.specs.FinMap as fin
use Rattle.sm_model.specs.Graphs.{text_cmp}
use Rattle.sm_passes.specs.Firsts.{number_in}
use Rattle.sm_passes.proofs.firsts.first_numbers.Given as goal

abbrev pub decreases-loop-left : goal.decreases-loop-left
decreases-loop-left l = l.left

abbrev pub invariant-loop-left : goal.invariant-loop-left
invariant-loop-left l = record {
  left : l.left ≤ length l.rows;
  told : (key : List ℕ) → number_in l.firsts key ≡ fin.find text_cmp key (drop l.left l.rows);
}
