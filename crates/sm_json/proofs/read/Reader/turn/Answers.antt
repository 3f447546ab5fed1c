use Rattle.sm_json.proofs.Turns.{refused_first}
use Rattle.sm_json.proofs.read.Reader.turn.Goals as goal

pub returns-in-Err-clause-goes : goal.returns-in-Err-clause-goes
returns-in-Err-clause-goes g c =
    refused_first c.args.self.now c.letter.new.self (g.E.EventSink.stands_for c.args.to.now) (g.E.EventSink.stands_for c.letter.new.to)
    (g.E.EventSink.takes c.letter.new.to) c.args.bytes.now c.in-Err.refusal c.requires.sound c.requires.some c.in-Err.ensures.goes
