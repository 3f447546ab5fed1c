use Rattle.std.proofs.Common.{refl, ap, ◌∙◌, arith}
use Rattle.sm_cbor.specs.declared.place.Level.TheVariants.{Tag, List as AList, ListToBreak as AListToBreak, Map as AMap}
use Rattle.sm_cbor.specs.declared.place.Level.TheVariants.{MapToBreak as AMapToBreak}
use Rattle.sm_tree.specs.Nested.{nested_in}
use Rattle.sm_cbor.specs.steps.Machine.{levels_of}
use Rattle.sm_cbor.proofs.Settling.{popped, room_left, settles_first, tag_settles, list_settles, map_settles, list_end_may, map_end_may}
use Rattle.sm_cbor.proofs.Settling.{entry_settles, pair_settles, stays, all_left}
use Rattle.sm_cbor.proofs.read.Reader.settle.Goals as goal

pub loop-level-init : goal.loop-level-init
loop-level-init g c = record {
  settles = settles_first (g.E.EventSink.stands_for c.args.to.now) c.args.self.now c.requires.sound;
  takes = λ e h. h;
  alike = g.met.E.EventSink.alike_itself c.args.to.now;
}

pub loop-level-preserved-in-Tag : goal.loop-level-preserved-in-Tag
loop-level-preserved-in-Tag g c = record {
  settles = tag_settles (g.E.EventSink.stands_for c.args.to.now) (g.E.EventSink.stands_for c.loop-level.to) c.args.self.now
      c.loop-level.self _ c.loop-level.invariant.settles
      (popped (levels_of c.loop-level.self) (nested_in c.leave.new.self) c.in-Some.level Tag c.in-Some.ensures c.in-Tag.is);
  takes = c.loop-level.invariant.takes;
  alike = c.loop-level.invariant.alike;
}

pub event-requires-clause-placed : goal.event-requires-clause-placed
event-requires-clause-placed g c =
    list_end_may (g.E.EventSink.stands_for c.loop-level.to) c.args.self.now c.loop-level.self (record c.loop-level.self {
      levels =
          c.leave.new.self;
    }) (g.E.EventSink.stands_for c.args.to.now) c.requires.reached c.loop-level.invariant.settles
    (popped (levels_of c.loop-level.self) (nested_in c.leave.new.self) c.in-Some.level (AList 0) c.in-Some.ensures (c.in-List.is ∙ ap AList
    (omega arith)))

pub event-requires-in-Map-clause-placed : goal.event-requires-in-Map-clause-placed
event-requires-in-Map-clause-placed g c =
    map_end_may (g.E.EventSink.stands_for c.loop-level.to) c.args.self.now c.loop-level.self (record c.loop-level.self {
      levels =
          c.leave.new.self;
    }) (g.E.EventSink.stands_for c.args.to.now) c.requires.reached c.loop-level.invariant.settles
    (popped (levels_of c.loop-level.self) (nested_in c.leave.new.self) c.in-Some.level (AMap 0) c.in-Some.ensures (c.in-Map.is ∙ ap AMap
    (omega arith)))

pub loop-level-preserved-in-Continue-1 : goal.loop-level-preserved-in-Continue-1
loop-level-preserved-in-Continue-1 g c = record {
  settles = list_settles (g.E.EventSink.stands_for c.args.to.now) (g.E.EventSink.stands_for c.loop-level.to) (g.E.EventSink.stands_for
      c.event.new.self) c.args.self.now c.loop-level.self (record c.loop-level.self { levels = c.leave.new.self })
      c.loop-level.invariant.settles
      (popped (levels_of c.loop-level.self) (nested_in c.leave.new.self) c.in-Some.level (AList 0) c.in-Some.ensures (c.in-List.is
      ∙ ap AList (omega arith)))
      c.in_ok-event-in-List.ensures.stands;
  takes = λ e h. c.in_ok-event-in-List.ensures.takes_same e (c.loop-level.invariant.takes e h);
  alike = g.met.E.EventSink.alike_then c.args.to.now c.loop-level.to c.event.new.self c.loop-level.invariant.alike
      c.in_ok-event-in-List.ensures.kept;
}

pub loop-level-preserved : goal.loop-level-preserved
loop-level-preserved g c = record {
  settles = map_settles (g.E.EventSink.stands_for c.args.to.now) (g.E.EventSink.stands_for c.loop-level.to) (g.E.EventSink.stands_for
      c.event-in-Map.new.self) c.args.self.now c.loop-level.self (record c.loop-level.self { levels = c.leave.new.self })
      c.loop-level.invariant.settles
      (popped (levels_of c.loop-level.self) (nested_in c.leave.new.self) c.in-Some.level (AMap 0) c.in-Some.ensures (c.in-Map.is ∙ ap AMap
      (omega arith)))
      c.in_ok-event-in-Map.ensures.stands;
  takes = λ e h. c.in_ok-event-in-Map.ensures.takes_same e (c.loop-level.invariant.takes e h);
  alike = g.met.E.EventSink.alike_then c.args.to.now c.loop-level.to c.event-in-Map.new.self c.loop-level.invariant.alike
      c.in_ok-event-in-Map.ensures.kept;
}

pub enter-requires : goal.enter-requires
enter-requires g c = (
  omega arith,
  room_left (g.E.EventSink.stands_for c.args.to.now) (g.E.EventSink.stands_for c.loop-level.to) c.args.self.now c.loop-level.self (AList
      c.in-List.left) (nested_in c.leave.new.self) c.loop-level.invariant.settles
      (popped (levels_of c.loop-level.self) (nested_in c.leave.new.self) c.in-Some.level (AList c.in-List.left) c.in-Some.ensures
      c.in-List.is),
)

pub enter-requires-then-left-gt0-2 : goal.enter-requires-then-left-gt0-2
enter-requires-then-left-gt0-2 g c = (
  omega arith,
  room_left (g.E.EventSink.stands_for c.args.to.now) (g.E.EventSink.stands_for c.loop-level.to) c.args.self.now c.loop-level.self (AMap
      c.in-Map.left) (nested_in c.leave.new.self) c.loop-level.invariant.settles
      (popped (levels_of c.loop-level.self) (nested_in c.leave.new.self) c.in-Some.level (AMap c.in-Map.left) c.in-Some.ensures
      c.in-Map.is),
)

pub enter-requires-in-ListToBreak : goal.enter-requires-in-ListToBreak
enter-requires-in-ListToBreak g c = (
  omega arith,
  room_left (g.E.EventSink.stands_for c.args.to.now) (g.E.EventSink.stands_for c.loop-level.to) c.args.self.now
      c.loop-level.self AListToBreak (nested_in c.leave.new.self) c.loop-level.invariant.settles
      (popped (levels_of c.loop-level.self) (nested_in c.leave.new.self) c.in-Some.level AListToBreak c.in-Some.ensures
      c.in-ListToBreak.is),
)

pub enter-requires-in-MapToBreak : goal.enter-requires-in-MapToBreak
enter-requires-in-MapToBreak g c = (
  omega arith,
  room_left (g.E.EventSink.stands_for c.args.to.now) (g.E.EventSink.stands_for c.loop-level.to) c.args.self.now
      c.loop-level.self AMapToBreak (nested_in c.leave.new.self) c.loop-level.invariant.settles
      (popped (levels_of c.loop-level.self) (nested_in c.leave.new.self) c.in-Some.level AMapToBreak c.in-Some.ensures
      c.in-MapToBreak.is),
)

pub returns-then-left-gt0-clause-goes : goal.returns-then-left-gt0-clause-goes
returns-then-left-gt0-clause-goes g c =
    entry_settles (g.E.EventSink.stands_for c.args.to.now) (g.E.EventSink.stands_for c.loop-level.to) c.args.self.now c.loop-level.self _
    c.in-List.left (nested_in c.leave.new.self) c.loop-level.invariant.settles
    (popped (levels_of c.loop-level.self) (nested_in c.leave.new.self) c.in-Some.level (AList c.in-List.left) c.in-Some.ensures
    c.in-List.is)
    c.if-left-gt0.true refl c.enter.ensures

pub returns-then-left-gt0-2-clause-goes : goal.returns-then-left-gt0-2-clause-goes
returns-then-left-gt0-2-clause-goes g c =
    pair_settles (g.E.EventSink.stands_for c.args.to.now) (g.E.EventSink.stands_for c.loop-level.to) c.args.self.now c.loop-level.self _
    c.in-Map.left (nested_in c.leave.new.self) c.loop-level.invariant.settles
    (popped (levels_of c.loop-level.self) (nested_in c.leave.new.self) c.in-Some.level (AMap c.in-Map.left) c.in-Some.ensures c.in-Map.is)
    c.if-left-gt0-2.true refl c.enter-then-left-gt0-2.ensures

pub returns-in-ListToBreak-clause-goes : goal.returns-in-ListToBreak-clause-goes
returns-in-ListToBreak-clause-goes g c =
    stays (g.E.EventSink.stands_for c.args.to.now) (g.E.EventSink.stands_for c.loop-level.to) c.args.self.now
    c.loop-level.self _ AListToBreak (nested_in c.leave.new.self) c.loop-level.invariant.settles
    (popped (levels_of c.loop-level.self) (nested_in c.leave.new.self) c.in-Some.level AListToBreak c.in-Some.ensures c.in-ListToBreak.is)
    c.enter-in-ListToBreak.ensures tt refl

pub returns-in-MapToBreak-clause-goes : goal.returns-in-MapToBreak-clause-goes
returns-in-MapToBreak-clause-goes g c =
    stays (g.E.EventSink.stands_for c.args.to.now) (g.E.EventSink.stands_for c.loop-level.to) c.args.self.now
    c.loop-level.self _ AMapToBreak (nested_in c.leave.new.self) c.loop-level.invariant.settles
    (popped (levels_of c.loop-level.self) (nested_in c.leave.new.self) c.in-Some.level AMapToBreak c.in-Some.ensures c.in-MapToBreak.is)
    c.enter-in-MapToBreak.ensures tt refl

pub returns-clause-goes : goal.returns-clause-goes
returns-clause-goes g c =
    all_left (g.E.EventSink.stands_for c.args.to.now) (g.E.EventSink.stands_for c.loop-level.to) c.args.self.now c.loop-level.self _
    c.leave.result
    c.loop-level.invariant.settles c.leave.ensures c.in_default.is refl
