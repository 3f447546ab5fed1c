use Rattle.sm_merge.proofs.MixinsOnce.{number_more}
use Rattle.sm_merge.proofs.mixins_once.put_unseen.Goals as goal

pub returns-in_ok-push-in-Ok-clause-seen : goal.returns-in_ok-push-in-Ok-clause-seen
returns-in_ok-push-in-Ok-clause-seen c = λ n.
    number_more c.args.seen.now c.insert.new.self c.args.mixin.now.number c.in-Ok.ensures.updates n
