use Rattle.sm_load.proofs.SomeModelLoaded as some
use Rattle.sm_load.proofs.laws.some_load.Goals as goal

pub returns-clause-files : goal.returns-clause-files
returns-clause-files c = some.some_load

pub returns-clause-events : goal.returns-clause-events
returns-clause-events c = some.some_model_events
