use Rattle.sm_idl.specs.steps.HomeView.{home_of_file}
use Rattle.sm_idl.specs.Bodies.{TextSays}
use Rattle.sm_idl.proofs.Choosing.{token_stuck}
use Rattle.sm_idl.proofs.reader.Reader.text_value.Goals as goal

pub returns-in-Ok-None : goal.returns-in-Ok-None
returns-in-Ok-None c =
    token_stuck (TextSays (home_of_file c.args.home.now)) _ _ _ c.in-Some.ensures.2 (rw c.in-Ok-None.field-0-is at c.in-Ok-None.ensures)
