use Rattle.std.proofs.Common.{◌++◌, ◌∷◌, [], ap, ◌∙◌}
use Rattle.sm_bytes.specs.Ascii.{line_feed}
use Rattle.sm_json.specs.Written.{written}
use Rattle.sm_tree.specs.View.{node_of}
use Rattle.sm_schema_command.proofs.schema.printed.Goals as goal

pub returns-in_ok-push-in-Ok : goal.returns-in_ok-push-in-Ok
returns-in_ok-push-in-Ok c =
    c.in_ok-push-in-Ok.ensures.items ∙ ap (λ xs. xs ++ line_feed ∷ []) (c.in-Ok.ensures.written
    ∙ ap (λ xs. xs ++ written (node_of c.args.tree.now)) c.new-text.ensures.items)
