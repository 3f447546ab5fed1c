use Rattle.std.proofs.Common.{arith}
use Rattle.sm_cbor.proofs.EndSteps.{argument_begins}
use Rattle.sm_cbor.proofs.read.Reader.begin_argument.Goals as goal

pub returns-clause-goes : goal.returns-clause-goes
returns-clause-goes g c =
    argument_begins (g.E.EventSink.stands_for c.args.to.now) c.args.self.now c.args.subject c.args.left c.args.value c.requires.sound
    (omega arith)
