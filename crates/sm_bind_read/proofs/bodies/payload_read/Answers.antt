use Rattle.std.proofs.Common.{◌≡◌, sym, subst}
use Rattle.std.specs.Prelude.{Ok}
use Rattle.sm_shapes.specs.TableView.{table_data}
use Rattle.sm_shapes.specs.ValueView.{val_of}
use Rattle.sm_part_values.specs.Joins.{JoinsTo}
use Rattle.sm_bind_read.specs.steps.Bodies.{GivesReading}
use Rattle.sm_bind_read.proofs.bodies.payload_read.Goals as goal

pub returns-in-Ok : goal.returns-in-Ok
returns-in-Ok c = λ reading h.
    let t = table_data c.args.table.now in
    let is : reading ≡ Ok (val_of c.in-Ok.value) = subst (JoinsTo reading) c.in-Ok.is h in
    subst (λ r. GivesReading t c.args.members.now c.args.at c.args.member r c.payload_field.result) (sym is) (c.payload_field.ensures t)
