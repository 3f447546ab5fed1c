use Rattle.std.proofs.Common.{refl, ap, sym, subst, ◌∙◌, arith, length, get_or, [], ◌∷◌}
use Rattle.sm_tree.specs.Streams.{MayTake, TakesOn}
use Rattle.sm_json.specs.steps.Rest.{literal_event}
use Rattle.sm_json.specs.declared.place.JsonPlace.TheVariants.{After}
use Rattle.sm_json.proofs.Turns.{letter_halts, keeps, letter_goes, word_over, event_may_come, feeds_event, feeds_nothing}
use Rattle.sm_json.proofs.read.Reader.letter.Goals as goal

pub returns-then-name-at-clause-goes : goal.returns-then-name-at-clause-goes
returns-then-name-at-clause-goes g c = (
  refl,
  letter_halts c.args.self.now c.args.word c.args.taken c.args.byte c.requires.place c.requires.begun
      (λ e. c.if-name-at.true (ap (λ name. get_or name c.args.taken 0) c.letters-name.ensures ∙ e)),
  keeps c.args.self.now _ _ c.requires.placed,
)

pub returns-then-at-name-clause-goes : goal.returns-then-at-name-clause-goes
returns-then-at-name-clause-goes g c = feeds_nothing c.args.self.now _ _ _ _ c.requires.placed
    (letter_goes c.args.self.now c.args.word c.args.taken c.args.byte c.requires.place
    (omega (arith, ap length c.letters-name.ensures))
    (ap (λ name. get_or name c.args.taken 0) (sym c.letters-name.ensures) ∙ c.if-name-at.false))

pub event-requires-clause-placed : goal.event-requires-clause-placed
event-requires-clause-placed g c =
    subst (MayTake (g.E.EventSink.stands_for c.args.to.now)) (sym c.leaf.ensures)
    (event_may_come c.args.self.now (record c.args.self.now { place = After }) (g.E.EventSink.stands_for c.args.to.now)
    (g.E.EventSink.takes c.args.to.now) (c.args.byte ∷ []) (literal_event c.args.word) [] c.requires.placed
    (word_over c.args.self.now c.args.word c.args.taken c.args.byte c.requires.place c.requires.begun
    (omega (arith, c.if-at-name.false, ap length c.letters-name.ensures))
    (ap (λ name. get_or name c.args.taken 0) (sym c.letters-name.ensures) ∙ c.if-name-at.false)))

pub returns-in_ok-event-clause-goes : goal.returns-in_ok-event-clause-goes
returns-in_ok-event-clause-goes g c =
    feeds_event c.args.self.now (record c.args.self.now { place = After }) (g.E.EventSink.stands_for c.args.to.now)
    (g.E.EventSink.stands_for c.event.new.self) (g.E.EventSink.takes c.event.new.self) (g.E.EventSink.takes c.args.to.now)
    (c.args.byte ∷ []) (literal_event c.args.word) c.requires.placed
    (word_over c.args.self.now c.args.word c.args.taken c.args.byte c.requires.place c.requires.begun
    (omega (arith, c.if-at-name.false, ap length c.letters-name.ensures))
    (ap (λ name. get_or name c.args.taken 0) (sym c.letters-name.ensures) ∙ c.if-name-at.false))
    (subst (λ e. TakesOn (g.E.EventSink.stands_for c.args.to.now) e (g.E.EventSink.stands_for c.event.new.self)) c.leaf.ensures
    c.in_ok-event.ensures.stands)
    c.in_ok-event.ensures.takes_same
