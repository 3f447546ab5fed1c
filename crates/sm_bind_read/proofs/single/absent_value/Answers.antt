use Rattle.std.proofs.Common.{sym, ap, subst, ◌∙◌}
use Rattle.std.specs.Prelude.{None}
use Rattle.std.specs.Option.{option_map}
use Rattle.sm_shapes.specs.TableData.{default_in, required_at}
use Rattle.sm_shapes.specs.TableView.{table_data}
use Rattle.sm_shapes.specs.ValueView.{val_of}
use Rattle.sm_codec.specs.Readings.{absent_reading, absent_with}
use Rattle.sm_part_values.specs.Joins.{MemberJoins}
use Rattle.sm_bind_read.proofs.single.absent_value.Goals as goal

pub returns-in-Some : goal.returns-in-Some
returns-in-Some c =
    let required = required_at (table_data c.args.table.now) c.args.member in
    let default = ap default_in c.member.ensures ∙ ap (option_map val_of) c.in-Some.is in
    subst (λ r. MemberJoins r c.copied.result) (sym (ap (λ o. absent_reading (absent_with o required)) default)) c.copied.ensures

pub returns-in-None : goal.returns-in-None
returns-in-None c =
    let required = required_at (table_data c.args.table.now) c.args.member in
    let default = ap default_in c.member.ensures ∙ ap (option_map val_of) c.in-None.is in
    subst (λ r. MemberJoins r c.without_value.result)
    (ap (λ q. absent_reading (absent_with None q)) c.required.ensures ∙ sym (ap (λ o. absent_reading (absent_with o required)) default))
    c.without_value.ensures
