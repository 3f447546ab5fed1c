use Rattle.std.proofs.Common.{Some}
use Rattle.sm_tree.specs.Events.{start_list}
use Rattle.sm_cbor.specs.declared.place.Level.TheVariants.{List as AList}
use Rattle.sm_cbor.proofs.EndSteps.{opener_may}
use Rattle.sm_cbor.proofs.read.Reader.open_list.Goals as goal

pub event-requires-clause-placed : goal.event-requires-clause-placed
event-requires-clause-placed g c =
    opener_may (g.E.EventSink.stands_for c.args.to.now) c.args.self.now (AList c.args.count) (start_list (Some c.args.count))
    c.requires.room c.requires.reached
