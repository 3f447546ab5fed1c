use Rattle.std.proofs.Common.{arith}
use Rattle.sm_json.proofs.Turns.{then_byte_goes, refused_later, fed_placed, feeds_nothing}
use Rattle.sm_json.proofs.read.Reader.number.Goals as goal

pub end_number-requires-clause-placed : goal.end_number-requires-clause-placed
end_number-requires-clause-placed g c = fed_placed c.args.self.now c.grow_number.new.self _ _ _ _ _ c.requires.placed
    (feeds_nothing c.args.self.now c.grow_number.new.self _ _ _ c.requires.placed c.in_ok-run.ensures.goes)

pub returns-in-Ok-clause-goes : goal.returns-in-Ok-clause-goes
returns-in-Ok-clause-goes g c = (
  omega arith,
  omega (arith, c.in_ok-run.ensures.inside),
  then_byte_goes c.args.self.now c.grow_number.new.self c.end_number.new.self _ _ _ c.args.bytes.now c.in_ok-run.run'.count
      (omega (arith, c.in_ok-run.ensures.inside)) c.in_ok-run.ensures.goes c.in-Ok.ensures.goes,
)

pub returns-in-Err-clause-goes : goal.returns-in-Err-clause-goes
returns-in-Err-clause-goes g c =
    rw c.moved_by.ensures (refused_later c.args.self.now c.grow_number.new.self c.end_number.new.self
    (g.E.EventSink.stands_for c.args.to.now) (g.E.EventSink.stands_for c.end_number.new.to)
    (g.E.EventSink.takes c.end_number.new.to) c.args.bytes.now
    c.in_ok-run.run'.count c.in-Err.refusal
    (omega (arith, c.in_ok-run.ensures.inside)) c.in_ok-run.ensures.goes c.in-Err.ensures.goes)
