use Rattle.sm_ast.proofs.OneReading as reading
use Rattle.sm_ast.proofs.laws.one_reading.Goals as goal

pub returns : goal.returns
returns c = reading.one_reading
