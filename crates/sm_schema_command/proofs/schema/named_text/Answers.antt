use Rattle.std.proofs.Common.{subst}
use Rattle.std.specs.Prelude.{IfOk}
use Rattle.sm_model.specs.GraphView.{maps_of}
use Rattle.sm_shapes.specs.TableView.{table_data}
use Rattle.sm_compile.proofs.LookedUp.{stands_is}
use Rattle.sm_schema_command.specs.steps.SchemaSteps.{IsNotedText}
use Rattle.sm_schema_command.proofs.schema.named_text.Goals as goal

pub returns-in-Some : goal.returns-in-Some
returns-in-Some g c =
    subst (λ id. IfOk c.noted_text.result (λ text. IsNotedText (maps_of c.args.graph.now) id (table_data c.args.one.now.table)
    c.args.json_names c.args.one.now.shape text.items))
    (stands_is c.args.graph.now c.in-Some.root c.in-Some.root c.args.shape.now c.in-Some.ensures).1 c.noted_text.ensures
