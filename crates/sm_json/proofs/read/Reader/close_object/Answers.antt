use Rattle.sm_json.proofs.Readers.{object_closes}
use Rattle.sm_json.proofs.Turns.{feeds_event}
use Rattle.sm_json.proofs.MayCome.{object_end_may_come}
use Rattle.sm_json.proofs.read.Reader.close_object.Goals as goal

pub event-requires-clause-placed : goal.event-requires-clause-placed
event-requires-clause-placed g c = object_end_may_come c.args.self.now _ _ c.requires.place c.requires.inside c.requires.placed

pub returns-clause-goes : goal.returns-clause-goes
returns-clause-goes g c = feeds_event c.args.self.now c.close.new.self _ _ _ _ _ _ c.requires.placed
    (object_closes c.args.self.now c.close.new.self c.requires.place c.requires.inside c.close.ensures)
    c.in_ok-event.ensures.stands c.in_ok-event.ensures.takes_same
