use Rattle.std.proofs.Common.{[], Some, sym, subst}
use Rattle.std.proofs.lemmas.Result.{on_ok_weaker}
use Rattle.sm_tree.specs.Events.{start_list, start_object}
use Rattle.sm_tree.specs.EventView.{event_of}
use Rattle.sm_cbor.specs.steps.Machine.{IsAt, CborGoes, cbor_state_at}
use Rattle.sm_cbor.specs.steps.Sinks.{Reached, Owed}
use Rattle.sm_cbor.specs.declared.place.Level.TheVariants.{List as AList, Map as AMap}
use Rattle.sm_cbor.specs.declared.place.CborPlace.TheVariants.{After, Argument as InArgument}
use Rattle.sm_cbor.proofs.EndSteps.{unsigned_goes, unsigned_owed, negative_goes, negative_owed, opaque_goes, opaque_owed, list_goes}
use Rattle.sm_cbor.proofs.EndSteps.{list_owed, map_goes, map_owed, opener_reached}
use Rattle.sm_cbor.proofs.read.Reader.end_argument.Goals as goal

pub leaf-requires-clause-reached : goal.leaf-requires-clause-reached
leaf-requires-clause-reached g c =
    subst (λ e. Owed (g.E.EventSink.stands_for c.args.to.now) e (cbor_state_at c.args.self.now After)) (sym
    c.in_ok-event-in-Unsigned.ensures)
    (unsigned_owed (g.E.EventSink.stands_for c.args.to.now) c.args.self.now c.args.value (subst (λ j. Reached (g.E.EventSink.stands_for
    c.args.to.now) (cbor_state_at c.args.self.now (InArgument j 0 c.args.value))) c.in-Unsigned.is c.requires.reached))

pub leaf-requires-in-Negative-clause-reached : goal.leaf-requires-in-Negative-clause-reached
leaf-requires-in-Negative-clause-reached g c =
    subst (λ e. Owed (g.E.EventSink.stands_for c.args.to.now) e (cbor_state_at c.args.self.now After)) (sym
    c.in_ok-event-in-Negative.ensures)
    (negative_owed (g.E.EventSink.stands_for c.args.to.now) c.args.self.now c.args.value (subst (λ j. Reached (g.E.EventSink.stands_for
    c.args.to.now) (cbor_state_at c.args.self.now (InArgument j 0 c.args.value))) c.in-Negative.is c.requires.reached))

pub leaf-requires-in-Opaque-clause-reached : goal.leaf-requires-in-Opaque-clause-reached
leaf-requires-in-Opaque-clause-reached g c =
    opaque_owed (g.E.EventSink.stands_for c.args.to.now) c.args.self.now c.in-Opaque.byte c.args.value (subst (λ j. IsAt c.args.self.now
    (InArgument j 0 c.args.value)) c.in-Opaque.is c.requires.sound)
    (subst (λ j. Reached (g.E.EventSink.stands_for c.args.to.now) (cbor_state_at c.args.self.now (InArgument j 0 c.args.value)))
    c.in-Opaque.is c.requires.reached)

pub open_list-requires-clause-reached : goal.open_list-requires-clause-reached
open_list-requires-clause-reached g c =
    list_owed (g.E.EventSink.stands_for c.args.to.now) c.args.self.now c.args.value (subst (λ j. Reached (g.E.EventSink.stands_for
    c.args.to.now) (cbor_state_at c.args.self.now (InArgument j 0 c.args.value))) c.in-List.is c.requires.reached)

pub settle-requires-clause-reached : goal.settle-requires-clause-reached
settle-requires-clause-reached g c =
    opener_reached (g.E.EventSink.stands_for c.args.to.now) (g.E.EventSink.stands_for c.open_list.new.to) c.args.self.now
    c.open_list.new.self (AList c.args.value) (start_list (Some c.args.value))
    (list_owed (g.E.EventSink.stands_for c.args.to.now) c.args.self.now c.args.value (subst (λ j. Reached (g.E.EventSink.stands_for
    c.args.to.now) (cbor_state_at c.args.self.now (InArgument j 0 c.args.value))) c.in-List.is c.requires.reached))
    c.in_ok-open_list-in-List.ensures.goes

pub open_map-requires-clause-reached : goal.open_map-requires-clause-reached
open_map-requires-clause-reached g c =
    map_owed (g.E.EventSink.stands_for c.args.to.now) c.args.self.now c.args.value (subst (λ j. Reached (g.E.EventSink.stands_for
    c.args.to.now) (cbor_state_at c.args.self.now (InArgument j 0 c.args.value))) c.in-Map.is c.requires.reached)

pub settle-requires-in-Map-clause-reached : goal.settle-requires-in-Map-clause-reached
settle-requires-in-Map-clause-reached g c =
    opener_reached (g.E.EventSink.stands_for c.args.to.now) (g.E.EventSink.stands_for c.open_map.new.to) c.args.self.now
    c.open_map.new.self (AMap c.args.value) (start_object (Some c.args.value))
    (map_owed (g.E.EventSink.stands_for c.args.to.now) c.args.self.now c.args.value (subst (λ j. Reached (g.E.EventSink.stands_for
    c.args.to.now) (cbor_state_at c.args.self.now (InArgument j 0 c.args.value))) c.in-Map.is c.requires.reached))
    c.in_ok-open_map-in-Map.ensures.goes

pub returns-in_ok-event-in-Unsigned-clause-goes : goal.returns-in_ok-event-in-Unsigned-clause-goes
returns-in_ok-event-in-Unsigned-clause-goes g c =
    on_ok_weaker c.leaf.result
    (λ goes. subst (λ j. CborGoes (g.E.EventSink.stands_for c.args.to.now) c.args.self.now [] (InArgument j 0 c.args.value) []
    (g.E.EventSink.stands_for c.leaf.new.to) c.leaf.new.self) (sym c.in-Unsigned.is)
    (unsigned_goes (g.E.EventSink.stands_for c.args.to.now) (g.E.EventSink.stands_for c.leaf.new.to) c.args.self.now c.leaf.new.self
    c.args.value (event_of c.in_ok-event-in-Unsigned.event)
    c.in_ok-event-in-Unsigned.ensures goes))
    c.leaf.ensures.goes

pub returns-in_ok-event-in-Negative-clause-goes : goal.returns-in_ok-event-in-Negative-clause-goes
returns-in_ok-event-in-Negative-clause-goes g c =
    on_ok_weaker c.leaf-in-Negative.result
    (λ goes. subst (λ j. CborGoes (g.E.EventSink.stands_for c.args.to.now) c.args.self.now [] (InArgument j 0 c.args.value) []
    (g.E.EventSink.stands_for c.leaf-in-Negative.new.to) c.leaf-in-Negative.new.self) (sym c.in-Negative.is)
    (negative_goes (g.E.EventSink.stands_for c.args.to.now) (g.E.EventSink.stands_for c.leaf-in-Negative.new.to) c.args.self.now
    c.leaf-in-Negative.new.self c.args.value (event_of c.in_ok-event-in-Negative.event)
    c.in_ok-event-in-Negative.ensures goes))
    c.leaf-in-Negative.ensures.goes

pub returns-in-Opaque-clause-goes : goal.returns-in-Opaque-clause-goes
returns-in-Opaque-clause-goes g c =
    on_ok_weaker c.leaf-in-Opaque.result
    (λ goes. subst (λ j. CborGoes (g.E.EventSink.stands_for c.args.to.now) c.args.self.now [] (InArgument j 0 c.args.value) []
    (g.E.EventSink.stands_for c.leaf-in-Opaque.new.to) c.leaf-in-Opaque.new.self) (sym c.in-Opaque.is)
    (opaque_goes (g.E.EventSink.stands_for c.args.to.now) (g.E.EventSink.stands_for c.leaf-in-Opaque.new.to) c.args.self.now
    c.leaf-in-Opaque.new.self c.in-Opaque.byte c.args.value
    (subst (λ j. IsAt c.args.self.now (InArgument j 0 c.args.value)) c.in-Opaque.is c.requires.sound) goes))
    c.leaf-in-Opaque.ensures.goes

pub returns-in_ok-open_list-in-List-clause-goes : goal.returns-in_ok-open_list-in-List-clause-goes
returns-in_ok-open_list-in-List-clause-goes g c =
    on_ok_weaker c.settle.result
    (λ goes. subst (λ j. CborGoes (g.E.EventSink.stands_for c.args.to.now) c.args.self.now [] (InArgument j 0 c.args.value) []
    (g.E.EventSink.stands_for c.settle.new.to) c.settle.new.self) (sym c.in-List.is)
    (list_goes (g.E.EventSink.stands_for c.args.to.now) (g.E.EventSink.stands_for c.open_list.new.to) (g.E.EventSink.stands_for
    c.settle.new.to) c.args.self.now c.open_list.new.self c.settle.new.self c.args.value
    c.in_ok-open_list-in-List.ensures.goes goes))
    c.settle.ensures.goes

pub returns-in_ok-open_map-in-Map-clause-goes : goal.returns-in_ok-open_map-in-Map-clause-goes
returns-in_ok-open_map-in-Map-clause-goes g c =
    on_ok_weaker c.settle-in-Map.result
    (λ goes. subst (λ j. CborGoes (g.E.EventSink.stands_for c.args.to.now) c.args.self.now [] (InArgument j 0 c.args.value) []
    (g.E.EventSink.stands_for c.settle-in-Map.new.to) c.settle-in-Map.new.self) (sym c.in-Map.is)
    (map_goes (g.E.EventSink.stands_for c.args.to.now) (g.E.EventSink.stands_for c.open_map.new.to) (g.E.EventSink.stands_for
    c.settle-in-Map.new.to) c.args.self.now c.open_map.new.self c.settle-in-Map.new.self c.args.value
    c.in_ok-open_map-in-Map.ensures.goes goes))
    c.settle-in-Map.ensures.goes
