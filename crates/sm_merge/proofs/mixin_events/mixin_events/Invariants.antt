use Rattle.std.proofs.Common.{List, [], take}
use Rattle.sm_model.specs.EventView.{AreErrors}
use Rattle.sm_merge.specs.Stated.{Stated}
use Rattle.sm_merge.specs.steps.Contributing.{AreWalkedTables}
use Rattle.sm_merge.specs.steps.MixinEvents.{PutsSuch, TellsBadMixin}
use Rattle.sm_merge.specs.steps.ShapeTables.{ids_of}
use Rattle.sm_merge.proofs.mixin_events.mixin_events.Given as goal

abbrev pub invariant-loop-row : goal.invariant-loop-row
invariant-loop-row l = record {
  errors : AreErrors l.events.items;
  told : (ss : List Stated) → AreWalkedTables ss l.rows l.traits l.walk
      → PutsSuch (TellsBadMixin ss (ids_of (take l.row-index l.rows))) [] l.events.items;
}
