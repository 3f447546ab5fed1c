use Rattle.sm_merge.proofs.NamesKnown.{one_more}
use Rattle.sm_merge.proofs.events_places.put_place.Goals as goal

pub returns-in-Ok : goal.returns-in-Ok
returns-in-Ok c = λ id. one_more c.args.set.now c.insert.new.self c.args.place.now c.in-Ok.ensures.updates id
