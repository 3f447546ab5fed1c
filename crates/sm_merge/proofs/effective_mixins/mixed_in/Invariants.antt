use Rattle.std.proofs.Common.{◌≡◌, ◌++◌, List, drop, length}
use Rattle.sm_merge.specs.Stated.{ShapeStated, Stated}
use Rattle.sm_merge.specs.steps.Contributing.{AreWalkedTables}
use Rattle.sm_merge.specs.steps.MixedIn.{AreBelow, MixIn}
use Rattle.sm_merge.specs.declared.mixins.Contributing.{Contributing}
use Rattle.sm_merge.proofs.effective_mixins.mixed_in.Given as goal

abbrev pub invariant-loop-mixin : goal.invariant-loop-mixin
invariant-loop-mixin l = record {
  below : AreBelow (length l.rows) l.found.items;
  mixed : (ss : List Stated) (s : ShapeStated) → AreWalkedTables ss l.rows l.traits l.walk → s.shape.kind ≡ l.row.kind
      → (more : List Contributing) → MixIn ss l.rows s (drop l.mixin-index l.row.mixins.items) more
      → MixIn ss l.rows s l.row.mixins.items (l.found.items ++ more);
}
