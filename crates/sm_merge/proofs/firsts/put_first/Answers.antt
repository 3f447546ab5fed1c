use Rattle.sm_merge.proofs.NamesKnown.{one_more}
use Rattle.sm_merge.proofs.firsts.put_first.Goals as goal

pub returns-in_ok-push-in-Ok-clause-seen : goal.returns-in_ok-push-in-Ok-clause-seen
returns-in_ok-push-in-Ok-clause-seen c = λ id. one_more c.args.seen.now c.insert.new.self c.args.name.now c.in-Ok.ensures.updates id
