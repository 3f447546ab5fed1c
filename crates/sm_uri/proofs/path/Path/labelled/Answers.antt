use Rattle.sm_uri.proofs.UriHeld.{held_more}
use Rattle.sm_uri.proofs.path.Path.labelled.Goals as goal

pub returns-clause-names : goal.returns-clause-names
returns-clause-names c = λ id. held_more c.args.self.now.names c.insert.new.self c.args.name.now c.in-Ok.ensures.updates id
