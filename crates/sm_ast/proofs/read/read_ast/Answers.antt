use Rattle.std.proofs.Common.{sym, subst}
use Rattle.sm_tree.specs.View.{node_of}
use Rattle.sm_model.specs.Formed.{AreFormed}
use Rattle.sm_ast.specs.Ast.{Ast}
use Rattle.sm_ast.specs.Distinct.{AreOfTree}
use Rattle.sm_ast.specs.steps.Saying.{ast_said}
use Rattle.sm_ast.proofs.FormedShapes.{ast_formed}
use Rattle.sm_ast.proofs.OfTreeTop.{ast_of_tree}
use Rattle.sm_ast.proofs.SaidTop.{ast_holds}
use Rattle.sm_ast.proofs.read.read_ast.Goals as goal

pub returns-in_ok-statements_of-in-Ok : goal.returns-in_ok-statements_of-in-Ok
returns-in_ok-statements_of-in-Ok c =
    let n = node_of c.args.tree.now in
    let same = sym c.in_ok-statements_of-in-Ok.ensures in
    let says = ast_holds n c.requires c.in-Ok.ensures in
    record {
      statements = (c.in-Ok.ensures, subst (λ said. Ast said n) same says);
      formed = subst AreFormed same (ast_formed (ast_said n) n c.requires says);
      of_tree = subst AreOfTree same (ast_of_tree (ast_said n) n says);
    }
