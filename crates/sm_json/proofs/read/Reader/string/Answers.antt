use Rattle.std.proofs.Common.{arith, sym, length, subst, []}
use Rattle.std.proofs.lemmas.List.{take_all}
use Rattle.sm_json.specs.steps.Machine.{JsonGoes}
use Rattle.sm_json.proofs.Turns.{string_over, string_on, string_refused, feeds_nothing, text_may_come}
use Rattle.sm_json.proofs.read.Reader.string.Goals as goal

pub hand_text-requires-clause-placed : goal.hand_text-requires-clause-placed
hand_text-requires-clause-placed g c =
    let closed = rw c.in-Ok-Closed.field-0-is at c.in-Ok-Closed.ensures in
    text_may_come c.args.self.now c.args.role c.read.new.self _ _ _ c.requires.placed c.requires.place closed.2

pub returns-in_ok-hand_text-in-Ok-Closed-clause-goes : goal.returns-in_ok-hand_text-in-Ok-Closed-clause-goes
returns-in_ok-hand_text-in-Ok-Closed-clause-goes g c =
    let closed = rw c.in-Ok-Closed.field-0-is at c.in-Ok-Closed.ensures in (
      closed.0,
      closed.1,
      string_over c.args.self.now c.hand_text.new.self _ _ _ c.args.role c.read.new.self _ c.requires.place closed.2
          c.in_ok-hand_text-in-Ok-Closed.ensures.goes,
    )

pub returns-in-Ok-Open-clause-goes : goal.returns-in-Ok-Open-clause-goes
returns-in-Ok-Open-clause-goes g c =
    let on = rw c.in-Ok-Open.field-0-is at c.in-Ok-Open.ensures in (
      c.requires.some,
      omega arith,
      feeds_nothing c.args.self.now (record c.args.self.now { text = c.read.new.self }) _ _ _ c.requires.placed
          (subst (λ ws. JsonGoes c.args.self.now ws [] (record c.args.self.now { text = c.read.new.self }))
          (sym (take_all (length c.args.bytes.now) c.args.bytes.now (omega arith)))
          (string_on c.args.self.now c.args.role c.read.new.self c.args.bytes.now c.requires.sound c.requires.place on)),
    )

pub returns-in-Err-clause-goes : goal.returns-in-Err-clause-goes
returns-in-Err-clause-goes g c =
    rw c.refused.ensures (string_refused c.args.self.now (g.E.EventSink.stands_for c.args.to.now) (g.E.EventSink.takes c.args.to.now)
    c.args.role c.read.new.self (record c.args.self.now { text = c.read.new.self }) c.args.bytes.now c.in-Err.refusal
    c.requires.sound c.requires.placed c.requires.place c.in-Err.ensures)
