use Rattle.std.proofs.Common.{[], ◌∷◌, refl, sym, subst}
use Rattle.sm_cbor.specs.steps.Machine.{CborGoes}
use Rattle.sm_cbor.specs.declared.place.CborPlace.TheVariants.{Item}
use Rattle.sm_cbor.specs.declared.read.Reader.{Reader}
use Rattle.sm_cbor.proofs.InitialSteps.{argument_goes, argument_reached, argument_deep, list_deep, map_deep, list_begins}
use Rattle.sm_cbor.proofs.InitialSteps.{list_begins_owed, map_begins, map_begins_owed, chunks_begin, null_goes, null_owed, bool_goes}
use Rattle.sm_cbor.proofs.InitialSteps.{bool_owed, item_bad}
use Rattle.sm_cbor.proofs.read.Reader.item.Goals as goal

pub returns-then-is_full-clause-goes : goal.returns-then-is_full-clause-goes
returns-then-is_full-clause-goes g c = (
  refl,
  argument_deep c.args.self.now c.args.byte c.in-Argument.left c.in-Argument.value c.in-Argument.subject c.in-Argument.ensures
      (c.if-is_level.ensures.0 refl) (c.if-is_full.ensures.0 refl),
  λ es h. h,
)

pub returns-then-is_full-2-clause-goes : goal.returns-then-is_full-2-clause-goes
returns-then-is_full-2-clause-goes g c =
    (refl, list_deep c.args.self.now c.args.byte c.in-List.ensures (c.if-is_full-2.ensures.0 refl), λ es h. h)

pub returns-then-is_full-3-clause-goes : goal.returns-then-is_full-3-clause-goes
returns-then-is_full-3-clause-goes g c =
    (refl, map_deep c.args.self.now c.args.byte c.in-Map.ensures (c.if-is_full-3.ensures.0 refl), λ es h. h)

pub returns-in-NoItem-clause-goes : goal.returns-in-NoItem-clause-goes
returns-in-NoItem-clause-goes g c =
    (refl, item_bad c.args.self.now c.args.byte c.in-NoItem.ensures, λ es h. h)

pub begin_argument-requires-clause-reached : goal.begin_argument-requires-clause-reached
begin_argument-requires-clause-reached g c =
    argument_reached (g.E.EventSink.stands_for c.args.to.now) c.args.self.now c.args.byte c.in-Argument.left c.in-Argument.value
    c.in-Argument.subject c.requires.sound c.in-Argument.ensures c.requires.reached

pub open_list_to_break-requires-clause-reached : goal.open_list_to_break-requires-clause-reached
open_list_to_break-requires-clause-reached g c =
    list_begins_owed (g.E.EventSink.stands_for c.args.to.now) c.args.self.now c.args.byte c.requires.sound c.in-List.ensures
    c.requires.reached

pub open_map_to_break-requires-clause-reached : goal.open_map_to_break-requires-clause-reached
open_map_to_break-requires-clause-reached g c =
    map_begins_owed (g.E.EventSink.stands_for c.args.to.now) c.args.self.now c.args.byte c.requires.sound c.in-Map.ensures
    c.requires.reached

pub leaf-requires-clause-reached : goal.leaf-requires-clause-reached
leaf-requires-clause-reached g c =
    null_owed (g.E.EventSink.stands_for c.args.to.now) c.args.self.now c.args.byte c.requires.sound c.in-Null.ensures c.requires.reached

pub leaf-requires-in-Bool-clause-reached : goal.leaf-requires-in-Bool-clause-reached
leaf-requires-in-Bool-clause-reached g c =
    bool_owed (g.E.EventSink.stands_for c.args.to.now) c.args.self.now c.args.byte c.in-Bool.value c.requires.sound c.in-Bool.ensures
    c.requires.reached

pub returns-in_ok-begin_argument-in-Argument-clause-goes : goal.returns-in_ok-begin_argument-in-Argument-clause-goes
returns-in_ok-begin_argument-in-Argument-clause-goes g c =
    argument_goes (g.E.EventSink.stands_for c.args.to.now) (g.E.EventSink.stands_for c.begin_argument.new.to) c.args.self.now
    c.begin_argument.new.self c.args.byte c.in-Argument.left c.in-Argument.value c.in-Argument.subject
    c.requires.sound c.in-Argument.ensures c.in_ok-begin_argument-in-Argument.ensures.goes

pub returns-in_ok-open_list_to_break-in-List-clause-goes : goal.returns-in_ok-open_list_to_break-in-List-clause-goes
returns-in_ok-open_list_to_break-in-List-clause-goes g c =
    list_begins (g.E.EventSink.stands_for c.args.to.now) (g.E.EventSink.stands_for c.open_list_to_break.new.to) c.args.self.now
    c.open_list_to_break.new.self c.args.byte c.requires.sound c.in-List.ensures
    c.in_ok-open_list_to_break-in-List.ensures.goes

pub returns-in_ok-open_map_to_break-in-Map-clause-goes : goal.returns-in_ok-open_map_to_break-in-Map-clause-goes
returns-in_ok-open_map_to_break-in-Map-clause-goes g c =
    map_begins (g.E.EventSink.stands_for c.args.to.now) (g.E.EventSink.stands_for c.open_map_to_break.new.to) c.args.self.now
    c.open_map_to_break.new.self c.args.byte c.requires.sound c.in-Map.ensures
    c.in_ok-open_map_to_break-in-Map.ensures.goes

pub returns-in-Chunks-clause-goes : goal.returns-in-Chunks-clause-goes
returns-in-Chunks-clause-goes g c =
    subst (λ (q : Reader). CborGoes (g.E.EventSink.stands_for c.args.to.now) c.args.self.now [] Item (c.args.byte ∷ [])
    (g.E.EventSink.stands_for c.args.to.now) q) (sym c.begin_chunks.ensures.others)
    (chunks_begin (g.E.EventSink.stands_for c.args.to.now) c.args.self.now c.args.byte c.in-Chunks.kind c.begin_chunks.new.self.held
    c.begin_chunks.ensures.held c.requires.sound c.in-Chunks.ensures)

pub returns-in_ok-leaf-in-Null-clause-goes : goal.returns-in_ok-leaf-in-Null-clause-goes
returns-in_ok-leaf-in-Null-clause-goes g c =
    null_goes (g.E.EventSink.stands_for c.args.to.now) (g.E.EventSink.stands_for c.leaf.new.to) c.args.self.now c.leaf.new.self c.args.byte
    c.requires.sound c.in-Null.ensures c.in_ok-leaf-in-Null.ensures.goes

pub returns-in_ok-leaf-in-Bool-clause-goes : goal.returns-in_ok-leaf-in-Bool-clause-goes
returns-in_ok-leaf-in-Bool-clause-goes g c =
    bool_goes (g.E.EventSink.stands_for c.args.to.now) (g.E.EventSink.stands_for c.leaf-in-Bool.new.to) c.args.self.now
    c.leaf-in-Bool.new.self c.args.byte c.in-Bool.value c.requires.sound c.in-Bool.ensures
    c.in_ok-leaf-in-Bool.ensures.goes
