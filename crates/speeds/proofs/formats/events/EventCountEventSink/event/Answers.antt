use Rattle.std.proofs.Common.{arith, length-append, []}
use Rattle.std.specs.Prelude.{◌∷◌}
use Rattle.sm_tree.specs.EventView.{event_of}
use Rattle.speeds.proofs.formats.events.EventCountEventSink.event.Goals as goal

pub returns-in-Some-clause-stands : goal.returns-in-Some-clause-stands
returns-in-Some-clause-stands c es stands begins = omega (arith, length-append es (event_of c.args.event ∷ []), stands)
