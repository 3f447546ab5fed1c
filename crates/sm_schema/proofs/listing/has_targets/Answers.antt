use Rattle.sm_shapes.specs.TableView.{member_data, shape_data, table_data}
use Rattle.sm_schema.proofs.TargetsValues.{row_numbers, row_texts, values_at}
use Rattle.sm_schema.proofs.listing.has_targets.Goals as goal

pub same_constraints-requires : goal.same_constraints-requires
same_constraints-requires c = λ known.
    let t = table_data c.args.table.now in
    let m = member_data c.member-row.result.now in
    let s = shape_data c.shape.result.now in
    let has = values_at t.shapes t.members (c.requires.known known) c.args.member m c.member-row.ensures in
    (row_texts t.shapes m s has c.shape.ensures, row_numbers t.shapes m s has c.shape.ensures)
