use Rattle.sm_compile.proofs.RowSearch.{found_row, missed_row}
use Rattle.sm_compile.proofs.parts.row_at.Goals as goal

pub unreachable-requires : goal.unreachable-requires
unreachable-requires c =
    missed_row c.args.shapes.now c.args.number c.in-Err.field-0 c.requires.rise c.in-Err.ensures.position c.requires.there

pub returns : goal.returns
returns c = found_row c.args.shapes.now c.args.number c.in-Ok.row c.in-Ok.ensures.bound (c.in-Ok.ensures.position 0)
