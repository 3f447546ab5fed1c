use Rattle.std.proofs.lemmas.Result.{on_ok_weaker}
use Rattle.sm_tree.specs.Nested.{nested_in}
use Rattle.sm_cbor.specs.steps.Machine.{levels_of}
use Rattle.sm_cbor.specs.declared.place.Level.TheVariants.{MapToBreak}
use Rattle.sm_cbor.proofs.ByteSteps.{innermost_left, map_break_may, map_break_reached, map_break_goes}
use Rattle.sm_cbor.proofs.read.Reader.break_map.Goals as goal

pub event-requires-clause-placed : goal.event-requires-clause-placed
event-requires-clause-placed g c =
    map_break_may (g.E.EventSink.stands_for c.args.to.now) c.args.self.now (record c.args.self.now { levels = c.leave.new.self })
    c.requires.sound
    (innermost_left (levels_of c.args.self.now) (nested_in c.leave.new.self) c.leave.result MapToBreak c.leave.ensures c.requires.innermost)
    c.requires.reached

pub settle-requires-clause-reached : goal.settle-requires-clause-reached
settle-requires-clause-reached g c =
    map_break_reached (g.E.EventSink.stands_for c.args.to.now) (g.E.EventSink.stands_for c.event.new.self) c.args.self.now (record
    c.args.self.now { levels = c.leave.new.self }) c.requires.sound
    (innermost_left (levels_of c.args.self.now) (nested_in c.leave.new.self) c.leave.result MapToBreak c.leave.ensures c.requires.innermost)
    c.requires.reached c.in_ok-event.ensures.stands

pub returns-clause-goes : goal.returns-clause-goes
returns-clause-goes g c =
    on_ok_weaker c.settle.result
    (λ goes. map_break_goes (g.E.EventSink.stands_for c.args.to.now) (g.E.EventSink.stands_for c.event.new.self) (g.E.EventSink.stands_for
    c.settle.new.to) c.args.self.now (record c.args.self.now { levels = c.leave.new.self }) c.settle.new.self c.requires.sound
    (innermost_left (levels_of c.args.self.now) (nested_in c.leave.new.self) c.leave.result MapToBreak c.leave.ensures c.requires.innermost)
    c.in_ok-event.ensures.stands goes)
    c.settle.ensures.goes
