use Rattle.std.proofs.Common.{◌≡◌, IfOk, subst, if◌then◌else◌}
use Rattle.sm_tree.specs.Node.{members_of}
use Rattle.sm_tree.specs.View.{members_view}
use Rattle.sm_model.specs.SaidView.{statement_view}
use Rattle.sm_tree.specs.Parts.{tree_named}
use Rattle.sm_ast.specs.Layout.{type_name}
use Rattle.sm_ast.specs.steps.Saying.{applied_said, statement_by_type, type_there}
use Rattle.sm_ast.proofs.IdTests.{parsed_passes, no_id_fails}
use Rattle.sm_ast.proofs.statements.shape.statement.Goals as goal

pub returns-in-Ok : goal.returns-in-Ok
returns-in-Ok c =
    let k = c.args.name.now in
    let ms = members_of (members_view c.args.pairs.now) in
    subst (λ b. IfOk c.typed.result (λ said. statement_view said
    ≡ (if b then statement_by_type (type_there (tree_named type_name ms)) k ms else applied_said k ms)))
    (parsed_passes k _ c.in-Ok.ensures) c.typed.ensures

pub returns-in-Err : goal.returns-in-Err
returns-in-Err c =
    let k = c.args.name.now in
    let ms = members_of (members_view c.args.pairs.now) in
    subst (λ b. IfOk c.applied.result (λ said. statement_view said
    ≡ (if b then statement_by_type (type_there (tree_named type_name ms)) k ms else applied_said k ms)))
    (no_id_fails k _ c.in-Err.ensures) c.applied.ensures
