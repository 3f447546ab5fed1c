use Rattle.std.proofs.Common.{◌≡◌, length, take}
use Rattle.sm_model.specs.GraphView.{entries_of}
use Rattle.sm_passes.specs.Firsts.{number_in}
use Rattle.sm_name_rules.specs.steps.NameTwins.{AreEarlierIn}
use Rattle.sm_name_rules.proofs.earlier.earlier_numbers.Given as goal

abbrev pub invariant-loop-row : goal.invariant-loop-row
invariant-loop-row l = record {
  whole : length l.earlier.items ≡ length (entries_of l.graph);
  are : AreEarlierIn (number_in l.firsts) (take l.row-index l.rows) l.earlier.items;
}
