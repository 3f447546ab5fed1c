use Rattle.std.proofs.Common.{drop}
use Rattle.std.specs.Prelude.{◌↔◌}
use Rattle.sm_merge.specs.steps.Placed.{bare_view}
use Rattle.sm_merge.specs.steps.ShapeTables.{AreSoundUnder, SomeDiffer, all_bare}
use Rattle.sm_merge.proofs.shapes.some_differ.Given as goal

abbrev pub invariant-loop-other : goal.invariant-loop-other
invariant-loop-other l = record {
  sound : AreSoundUnder l.first.id (drop l.other-index l.more);
  differ : SomeDiffer (bare_view l.first) (all_bare (drop l.other-index l.more)) ↔ SomeDiffer (bare_view l.first) (all_bare l.more);
}
