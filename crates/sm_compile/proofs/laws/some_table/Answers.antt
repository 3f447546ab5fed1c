use Rattle.sm_compile.proofs.SomeTable.{some_table}
use Rattle.sm_compile.proofs.laws.some_table.Goals as goal

pub returns : goal.returns
returns c = some_table
