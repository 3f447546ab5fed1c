use Rattle.std.proofs.Common.{refl, arith}
use Rattle.sm_json.proofs.Readers.{object_goes, object_deepens}
use Rattle.sm_json.proofs.Turns.{feeds_event, keeps}
use Rattle.sm_json.proofs.MayCome.{object_may_open}
use Rattle.sm_json.proofs.read.Reader.open_object.Goals as goal

pub returns-then-depth-ge-MOST_LEVELS-clause-goes : goal.returns-then-depth-ge-MOST_LEVELS-clause-goes
returns-then-depth-ge-MOST_LEVELS-clause-goes g c = (
  refl,
  object_deepens c.args.self.now c.requires.place (omega (arith, c.depth.ensures, c.if-depth-ge-MOST_LEVELS.true)),
  keeps c.args.self.now _ _ c.requires.placed,
)

pub returns-clause-goes : goal.returns-clause-goes
returns-clause-goes g c = feeds_event c.args.self.now _ _ _ _ _ _ _ c.requires.placed
    (object_goes c.args.self.now _ c.requires.place refl c.enter.ensures)
    c.in_ok-event.ensures.stands c.in_ok-event.ensures.takes_same

pub event-requires-clause-placed : goal.event-requires-clause-placed
event-requires-clause-placed g c = object_may_open c.args.self.now _ _ c.requires.place
    (omega (arith, c.depth.ensures, c.if-depth-ge-MOST_LEVELS.false)) c.requires.placed
