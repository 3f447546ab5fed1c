use Rattle.sm_json.proofs.MayCome.{number_may_come}
use Rattle.sm_json.proofs.read.Reader.hand_number.Goals as goal

pub event-requires-clause-placed : goal.event-requires-clause-placed
event-requires-clause-placed g c = number_may_come c.args.self.now _ _ c.args.phase _ c.requires.place c.requires.placed
    c.in_ok-event.ensures
