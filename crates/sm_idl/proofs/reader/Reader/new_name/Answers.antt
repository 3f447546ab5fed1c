use Rattle.sm_idl.specs.steps.FieldSteps.{NewNameSays}
use Rattle.sm_idl.proofs.Choosing.{token_stuck}
use Rattle.sm_idl.proofs.reader.Reader.new_name.Goals as goal

pub returns-in-Ok-None : goal.returns-in-Ok-None
returns-in-Ok-None c = token_stuck NewNameSays _ _ _ c.in-Some.ensures.2 (rw c.in-Ok-None.field-0-is at c.in-Ok-None.ensures)
