use Rattle.std.proofs.lemmas.Result.{IfOk-weaker}
use Rattle.sm_tree.specs.View.{node_of}
use Rattle.sm_schema_command.proofs.schema.schema_text.Goals as goal

pub returns : goal.returns
returns g c =
    IfOk-weaker c.printed.result _ _ (λ text is. (node_of c.in_ok-tree.tree, c.in_ok-tree.ensures.schema, is)) c.printed.ensures
