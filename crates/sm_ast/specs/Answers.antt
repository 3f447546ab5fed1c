-- What `read_ast` answers for a tree.
use Rattle.std.specs.Prelude.{◌≡◌, Option, Some, None, Result, Ok, Err, Vec}
use Rattle.std.specs.declared.alloc.Global.{Global}
use Rattle.sm_tree.specs.Node.{Node}
use Rattle.sm_model.specs.SaidView.{statements_view}
use Rattle.sm_model.specs.declared.statement.Statement.{Statement}
use Rattle.sm_ast.specs.declared.refusal.AstRefusal.{AstRefusal}
use Rattle.sm_ast.specs.declared.refusal.AstRefusal.TheVariants.{Version, Field, WrongType, BadId, NoMemory}
use Rattle.sm_ast.specs.Ast.{Ast}
use Rattle.sm_ast.specs.Faults.{AstFault, version, field, wrong_type, bad_id, ast_fault}

-- the refusal tells the first fault, or that memory is short
abbrev pub Tells : Option AstFault → AstRefusal → Type 0
Tells found Version = found ≡ Some version
Tells found (Field path) = found ≡ Some (field path)
Tells found (WrongType path) = found ≡ Some (wrong_type path)
Tells found (BadId path) = found ≡ Some (bad_id path)
Tells found NoMemory = Unit {0}

abbrev pub ReadsAst : Node → Result (Vec Statement Global) AstRefusal → Type 0
ReadsAst n (Ok statements) = (ast_fault n ≡ None) × Ast (statements_view statements.items) n
ReadsAst n (Err refusal) = Tells (ast_fault n) refusal
