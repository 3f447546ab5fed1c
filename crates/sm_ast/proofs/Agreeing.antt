-- The relation and the first fault agree.
use Rattle.std.proofs.Common.{◌≡◌, List, None}
use Rattle.std.specs.Prelude.{◌↔◌}
use Rattle.sm_tree.specs.Node.{Node}
use Rattle.sm_tree.specs.Json.{IsJson}
use Rattle.sm_model.specs.Said.{Said}
use Rattle.sm_ast.specs.Ast.{Ast}
use Rattle.sm_ast.specs.Faults.{ast_fault}
use Rattle.sm_ast.specs.steps.Saying.{ast_said}
use Rattle.sm_ast.proofs.SaidTop.{ast_holds}
use Rattle.sm_ast.proofs.FaultlessTop.{ast_passes}

pub says_or_fails : (n : Node) → IsJson n → (ast_fault n ≡ None) ↔ ((said : List Said) × Ast said n)
says_or_fails n json = ((λ e. (ast_said n, ast_holds n json e)), (λ found. ast_passes found.0 n found.1))
