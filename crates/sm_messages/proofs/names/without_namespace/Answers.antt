use Rattle.sm_messages.proofs.ErrorsTold.{behind_sign, without_sign}
use Rattle.sm_messages.proofs.names.without_namespace.Goals as goal

pub returns-then-len-name : goal.returns-then-len-name
returns-then-len-name c = without_sign c.args.name.now c.run_len-len.result c.run_len-len.ensures.run c.if-len-name.true

pub returns : goal.returns
returns c =
    behind_sign c.args.name.now c.run_len-len.result c.run_len-len.ensures.run c.run_len-len.ensures.within c.if-len-name.false
