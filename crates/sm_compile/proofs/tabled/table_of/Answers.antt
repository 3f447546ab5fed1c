use Rattle.std.proofs.Common.{length, map, subst, ◌∙◌}
use Rattle.std.proofs.lemmas.List.{length-map}
use Rattle.sm_model.specs.GraphView.{maps_of}
use Rattle.sm_shapes.specs.TableView.{member_data, shape_data, table_data}
use Rattle.sm_compile.specs.steps.Numbered.{AreMemberRows, EachAt, IsShapeRow, numbering}
use Rattle.sm_compile.specs.steps.Carrying.{texts_in}
use Rattle.sm_compile.proofs.MarkedTables.{made_from}
use Rattle.sm_compile.proofs.ValuesShared.{ready_numbers}
use Rattle.sm_compile.proofs.tabled.table_of.Goals as goal

pub member_rows-requires-clause-few : goal.member_rows-requires-clause-few
member_rows-requires-clause-few c = c.requires.ready.few

pub values_of_shapes-requires : goal.values_of_shapes-requires
values_of_shapes-requires c = ready_numbers c.args.graph.now c.args.shapes.now (texts_in c.args.carried.now) c.requires.ready

pub returns : goal.returns
returns c =
    let g = c.args.graph.now in
    let ks = c.args.shapes.now in
    let n = numbering g ks in
    let members = c.in_ok-members.members.items in
    let rows = c.in_ok-rows.rows.items in
    made_from g ks c.args.patterns.items (table_data c.table_from.result) (map shape_data rows) (map member_data members)
    c.table_from.ensures.shapes c.table_from.ensures.members c.table_from.ensures.patterns
    (length-map rows shape_data ∙ c.in_ok-rows.ensures.long)
    (subst (λ ms. EachAt (IsShapeRow (maps_of g) c.args.patterns.items n (map member_data ms)) (map shape_data rows))
    c.as_slice-3.ensures.value
    (subst (λ ps. EachAt (IsShapeRow (maps_of g) ps n (map member_data c.as_slice-3.result.now)) (map shape_data rows))
    c.as_slice.ensures.value
    c.in_ok-rows.ensures.rows))
    (subst (λ ps. AreMemberRows (maps_of g) ps n (length ks) (map member_data members)) c.as_slice.ensures.value
    c.in_ok-members.ensures.rows)
