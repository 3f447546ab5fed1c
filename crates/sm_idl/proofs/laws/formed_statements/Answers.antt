use Rattle.sm_idl.proofs.YieldFiles.{formed_statements}
use Rattle.sm_idl.proofs.laws.formed_statements.Goals as goal

pub returns : goal.returns
returns c = formed_statements
