use Rattle.std.proofs.Common.{length, ap, arith}
use Rattle.sm_select.proofs.RunLists.{count_runs}
use Rattle.sm_select.proofs.neighbors.Neighbors.row.Goals as goal

pub run-requires-clause-below : goal.run-requires-clause-below
run-requires-clause-below c =
    omega (
      arith,
      c.requires,
      ap length c.self.view_is,
      ap length c.as_slice-2.ensures.value,
      count_runs c.self.inside.numbers.items 0 c.self.inside.ends.items,
    )
