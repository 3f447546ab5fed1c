use Rattle.std.proofs.Common.{ap, ◌∙◌}
use Rattle.std.specs.Prelude.{not}
use Rattle.sm_ast.proofs.SeenNames.{not_not, remembers_more}
use Rattle.sm_ast.proofs.names.stands_again.Goals as goal

pub returns-in-Ok : goal.returns-in-Ok
returns-in-Ok c = λ before remembers. (
  (ap not c.in-Ok.ensures.added ∙ not_not _ ∙ remembers c.args.name.now),
  (remembers_more c.args.seen.now c.insert.new.self c.args.name.now before c.in-Ok.ensures.updates remembers),
)
