use Rattle.std.proofs.Common.{◌≡◌, List, take}
use Rattle.sm_merge.specs.Stated.{ShapeStated, Stated}
use Rattle.sm_merge.specs.steps.Contributing.{AreWalkedTables}
use Rattle.sm_merge.specs.steps.MixinEvents.{KeepErrors, PutsSuch, TellsBadAmong}
use Rattle.sm_merge.proofs.mixin_events.put_events_of.Given as goal

abbrev pub invariant-loop-mixin : goal.invariant-loop-mixin
invariant-loop-mixin l = record {
  errors : KeepErrors l.fn.events.items l.events.items;
  told : (ss : List Stated) (s : ShapeStated) → AreWalkedTables ss l.rows l.traits l.walk → s.shape.kind ≡ l.row.kind
      → PutsSuch (TellsBadAmong ss s l.row.id (take l.mixin-index l.row.mixins.items)) l.fn.events.items l.events.items;
}
