use Rattle.sm_bind_read.proofs.KeysTaken.{one_more}
use Rattle.sm_bind_read.proofs.taken.put_key.Goals as goal

pub returns-in-Ok : goal.returns-in-Ok
returns-in-Ok c = λ key. one_more c.args.keys.now c.insert.new.self c.args.name.now c.in-Ok.ensures.updates key
