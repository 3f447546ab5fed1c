use Rattle.std.proofs.Common.{ap, ◌∙◌}
use Rattle.sm_shapes.specs.TableView.{table_data}
use Rattle.sm_rest.specs.bind.BoundView.{bound_of}
use Rattle.sm_rest.specs.RestGoals.{type_by}
use Rattle.sm_rest_write.proofs.BodyParts.{part_same}
use Rattle.sm_rest_write.proofs.types.body_type.Goals as goal

pub returns : goal.returns
returns c =
    let t = table_data c.args.place.now.table.now in
    c.type_by.ensures ∙ ap (type_by t) (c.body_part.ensures ∙ part_same (bound_of c.args.place.now))
