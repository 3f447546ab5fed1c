use Rattle.std.proofs.Common.{◌≡◌, length, map, arith}
use Rattle.std.proofs.lemmas.List.{length-map}
use Rattle.sm_model.specs.GraphView.{maps_of}
use Rattle.sm_shapes.specs.TableView.{member_data}
use Rattle.sm_compile.specs.steps.Carrying.{texts_in}
use Rattle.sm_compile.specs.steps.Numbered.{count_of_shape, numbering}
use Rattle.sm_compile.proofs.ReadyRows.{ready_shape}
use Rattle.sm_compile.proofs.RowsPut.{count_is}
use Rattle.sm_compile.proofs.ShapeRows.{rows_within}
use Rattle.sm_compile.proofs.shapes.count_of.Goals as goal

pub value_members-requires : goal.value_members-requires
value_members-requires c =
    (ready_shape c.args.parts.now.graph.now c.args.parts.now.shapes.now (texts_in c.args.parts.now.carried.now) c.requires.parts.ready
    c.args.row
    c.requires.row).number

pub returns-clause-count : goal.returns-clause-count
returns-clause-count c =
    count_is c.args.parts.now.graph.now c.args.parts.now.shapes.now c.args.parts.now.patterns.now c.args.row c.requires.row
    c.value_members.result.now c.value_members.ensures.ids

pub returns-clause-within : goal.returns-clause-within
returns-clause-within c =
    let g = c.args.parts.now.graph.now in
    let shapes = c.args.parts.now.shapes.now in
    let count : length c.value_members.result.now ≡ count_of_shape (maps_of g) (numbering g shapes).shapes c.args.row =
    count_is g shapes c.args.parts.now.patterns.now c.args.row c.requires.row c.value_members.result.now c.value_members.ensures.ids in
    let within = rows_within g shapes (texts_in c.args.parts.now.carried.now) c.requires.parts.ready c.args.parts.now.patterns.now
    (map member_data c.args.members.now) c.requires.rows c.args.row c.requires.row in
    let long = length-map c.args.members.now member_data in
    omega (arith, count, within, long)
