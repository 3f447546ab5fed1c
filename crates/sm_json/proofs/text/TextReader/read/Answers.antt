-- A byte and a run are taken behind what came before.
use Rattle.std.proofs.Common.{get_or, subst, Ok}
use Rattle.sm_json.specs.steps.StringReading.{StringTakesByte}
use Rattle.sm_json.proofs.ReaderTurns.{turn_on}
use Rattle.sm_json.proofs.text.TextReader.read.Goals as goal

pub loop-at-preserved : goal.loop-at-preserved
loop-at-preserved c =
    let turn = turn_on c.args.self.now c.loop-at.self c.take_byte.new.self c.take_run-in-Open.new.self c.loop-at.at c.in_ok-run-in-Open.run'
    c.args.bytes.now c.loop-at-test.true c.loop-at.invariant.on
    (subst (λ o. StringTakesByte c.loop-at.self c.take_byte.new.self (get_or c.args.bytes.now c.loop-at.at 0) (Ok o)) c.in-Open.is
    c.in_ok-take_byte.ensures) c.in_ok-run-in-Open.ensures in
    record { within = turn.0; on = turn.1 }
