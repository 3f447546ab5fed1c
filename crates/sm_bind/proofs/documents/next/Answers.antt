use Rattle.std.proofs.lemmas.Result.{IfOk-weaker}
use Rattle.sm_shapes.specs.TableView.{table_data}
use Rattle.sm_bind.specs.BindingsView.{bound_side}
use Rattle.sm_bind.proofs.GrowingBodies.{grows_more}
use Rattle.sm_bind.proofs.documents.next.Goals as goal

pub body_on-requires-clause-grown : goal.body_on-requires-clause-grown
body_on-requires-clause-grown c = c.requires.growing.1.grown

pub returns-in-Ok : goal.returns-in-Ok
returns-in-Ok c =
    IfOk-weaker c.with_body.result _ _
    (λ g h. grows_more (table_data c.args.table.now) (bound_side c.args.side) c.requires.growing.0 c.args.shape c.args.growing g c.in-Ok.body
    c.requires.growing.1 c.in-Ok.ensures h) c.with_body.ensures
