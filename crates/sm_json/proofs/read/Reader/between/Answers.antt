use Rattle.std.proofs.Common.{sym, ◌∙◌}
use Rattle.sm_json.proofs.White.{whites_of_run}
use Rattle.sm_json.proofs.Turns.{white_run_takes, refused_first}
use Rattle.sm_json.proofs.read.Reader.between.Goals as goal

pub returns-then-has-clause-goes : goal.returns-then-has-clause-goes
returns-then-has-clause-goes g c =
    white_run_takes c.args.self.now _ _ c.args.bytes.now c.run_len.result c.requires.sound c.requires.placed c.requires.between
    c.requires.some
    c.run_len.ensures.within (sym c.has.ensures ∙ c.if-has.true) (whites_of_run _ c.run_len.result c.run_len.ensures.run)

pub returns-in-Err-clause-goes : goal.returns-in-Err-clause-goes
returns-in-Err-clause-goes g c =
    refused_first c.args.self.now c.token.new.self (g.E.EventSink.stands_for c.args.to.now) (g.E.EventSink.stands_for c.token.new.to)
    (g.E.EventSink.takes c.token.new.to) c.args.bytes.now c.in-Err.refusal c.requires.sound c.requires.some c.in-Err.ensures.goes
