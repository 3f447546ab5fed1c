use Rattle.std.proofs.Common.{None}
use Rattle.sm_tree.specs.Events.{start_list}
use Rattle.sm_cbor.specs.declared.place.Level.TheVariants.{ListToBreak as AListToBreak}
use Rattle.sm_cbor.proofs.EndSteps.{opener_may}
use Rattle.sm_cbor.proofs.read.Reader.open_list_to_break.Goals as goal

pub event-requires-clause-placed : goal.event-requires-clause-placed
event-requires-clause-placed g c =
    opener_may (g.E.EventSink.stands_for c.args.to.now) c.args.self.now (AListToBreak) (start_list None) c.requires.room c.requires.reached
