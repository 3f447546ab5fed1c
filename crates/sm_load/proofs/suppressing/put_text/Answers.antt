use Rattle.sm_merge.proofs.NamesKnown.{one_more}
use Rattle.sm_load.proofs.suppressing.put_text.Goals as goal

pub returns-in-Ok : goal.returns-in-Ok
returns-in-Ok c = λ q. one_more c.args.texts.now c.insert.new.self c.args.text.now c.in-Ok.ensures.updates q
