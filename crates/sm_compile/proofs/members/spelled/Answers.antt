use Rattle.sm_ids.specs.View.{id_of}
use Rattle.sm_compile.proofs.members.spelled.Goals as goal

pub returns : goal.returns
returns c = (id_of c.parts_of.result, c.parts_of.ensures)
