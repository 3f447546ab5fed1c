use Rattle.sm_ast.proofs.Fields.{named_none}
use Rattle.sm_ast.proofs.layout.ShapeType.named.Goals as goal

pub returns-in-None : goal.returns-in-None
returns-in-None c = named_none c.args.name.now c.in_default.not-apply c.in-None.ensures
