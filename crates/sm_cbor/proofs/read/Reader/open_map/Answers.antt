use Rattle.std.proofs.Common.{Some}
use Rattle.sm_tree.specs.Events.{start_object}
use Rattle.sm_cbor.specs.declared.place.Level.TheVariants.{Map as AMap}
use Rattle.sm_cbor.proofs.EndSteps.{opener_may}
use Rattle.sm_cbor.proofs.read.Reader.open_map.Goals as goal

pub event-requires-clause-placed : goal.event-requires-clause-placed
event-requires-clause-placed g c =
    opener_may (g.E.EventSink.stands_for c.args.to.now) c.args.self.now (AMap c.args.count) (start_object (Some c.args.count))
    c.requires.room c.requires.reached
