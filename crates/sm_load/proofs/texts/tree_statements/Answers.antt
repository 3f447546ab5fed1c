use Rattle.std.proofs.Common.{Ok, Err, refl, subst}
use Rattle.sm_tree.specs.View.{node_of}
use Rattle.sm_load.specs.ModelFiles.{file_given}
use Rattle.sm_load.specs.ModelFiles.HasStatements.{in_ast}
use Rattle.sm_load.specs.steps.Stages.{ReadsTree}
use Rattle.sm_load.proofs.texts.tree_statements.Goals as goal

pub returns-in-Err : goal.returns-in-Err
returns-in-Err c = λ name named.
    subst (λ bytes. ReadsTree (file_given name bytes) c.args.number (Err c.in-Err.refusal)) c.deref.ensures.value
    (c.in-Err.ensures.reads name named)

pub returns-in-Ok-read_ast : goal.returns-in-Ok-read_ast
returns-in-Ok-read_ast c = λ name named.
    let text = subst (λ bytes. ReadsTree (file_given name bytes) c.args.number (Ok c.in-Ok.tree)) c.deref.ensures.value
    (c.in-Ok.ensures.reads name named) in (
      in_ast (record { is_json = named; tree = node_of c.in-Ok.tree; is_text = text; says = c.in-Ok-read_ast.ensures.statements.1 }),
      c.in-Ok-read_ast.ensures.formed,
    )

pub returns : goal.returns
returns c = λ name named.
    let text = subst (λ bytes. ReadsTree (file_given name bytes) c.args.number (Ok c.in-Ok.tree)) c.deref.ensures.value
    (c.in-Ok.ensures.reads name named) in (
      refl,
      (
        named,
        record {
          tree = node_of c.in-Ok.tree;
          is_text = text;
          tells = c.in-Err-read_ast.ensures.statements;
          is_told = c.in_default.not-NoMemory;
        },
      ),
    )
