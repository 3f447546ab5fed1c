use Rattle.sm_idl.proofs.ReadFormed.{read_formed}
use Rattle.sm_idl.proofs.Stopped.{answer_lex}
use Rattle.sm_idl.proofs.read.read_idl.Goals as goal

pub returns-in-Ok-clause-formed : goal.returns-in-Ok-clause-formed
returns-in-Ok-clause-formed c = read_formed c.args.text.now c.statements_of.result c.utf8.text c.statements_of.ensures

pub returns-in-Err-clause-reads : goal.returns-in-Err-clause-reads
returns-in-Err-clause-reads c =
    answer_lex c.args.text.now c.in-Err.refusal c.lex_refusal.result c.lex_refusal.ensures c.in-Err.ensures.lexes
