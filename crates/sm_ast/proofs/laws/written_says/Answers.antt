use Rattle.sm_ast.proofs.WrittenTop as top
use Rattle.sm_ast.proofs.laws.written_says.Goals as goal

pub returns : goal.returns
returns c = top.written_says
