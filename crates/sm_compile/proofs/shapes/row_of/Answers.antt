use Rattle.std.proofs.Common.{get_or, map, refl, subst, sym, arith}
use Rattle.std.proofs.lemmas.List.{length-map}
use Rattle.sm_model.specs.GraphView.{maps_of}
use Rattle.sm_shapes.specs.Names.{AllDiffer}
use Rattle.sm_shapes.specs.TableData.{json_name_at, name_at}
use Rattle.sm_shapes.specs.TableView.{member_data}
use Rattle.sm_compile.specs.steps.Carrying.{texts_in}
use Rattle.sm_compile.specs.steps.Numbered.{AreOrders, count_of_shape, first_of_shape, numbering, only_members, run}
use Rattle.sm_compile.proofs.ReadyRows.{ready_shape, shape_kind}
use Rattle.sm_compile.proofs.ShapeRows.{own_among, row_json_names_differ, row_names_differ, rows_within, shape_row_told}
use Rattle.sm_compile.proofs.ValuesShared.{in_row}
use Rattle.sm_compile.proofs.shapes.row_of.Goals as goal

pub kind_at-kind-requires-clause-number : goal.kind_at-kind-requires-clause-number
kind_at-kind-requires-clause-number c =
    (ready_shape c.args.parts.now.graph.now c.args.parts.now.shapes.now (texts_in c.args.parts.now.carried.now) c.requires.parts.ready
    c.args.row
    c.requires.row).number

pub kind_at-kind-requires-clause-shape : goal.kind_at-kind-requires-clause-shape
kind_at-kind-requires-clause-shape c =
    let g = c.args.parts.now.graph.now in
    let shapes = c.args.parts.now.shapes.now in
    let texts = texts_in c.args.parts.now.carried.now in
    shape_kind g shapes texts _ (ready_shape g shapes texts c.requires.parts.ready c.args.row c.requires.row)

pub pattern_at-pattern-requires-clause-own : goal.pattern_at-pattern-requires-clause-own
pattern_at-pattern-requires-clause-own c =
    (ready_shape c.args.parts.now.graph.now c.args.parts.now.shapes.now (texts_in c.args.parts.now.carried.now) c.requires.parts.ready
    c.args.row
    c.requires.row).number

pub pattern_at-pattern-requires-clause-among : goal.pattern_at-pattern-requires-clause-among
pattern_at-pattern-requires-clause-among c u seen =
    own_among c.args.parts.now.graph.now c.args.parts.now.shapes.now (texts_in c.args.parts.now.carried.now) c.requires.parts.ready
    c.args.parts.now.patterns.now (map member_data c.args.members.now) c.requires.rows c.args.row c.requires.row c.kind_at-kind.result u
    c.kind_at-kind.ensures seen

pub orders-requires-clause-few : goal.orders-requires-clause-few
orders-requires-clause-few c =
    let within = rows_within c.args.parts.now.graph.now c.args.parts.now.shapes.now (texts_in c.args.parts.now.carried.now)
    c.requires.parts.ready
    c.args.parts.now.patterns.now (map member_data c.args.members.now) c.requires.rows c.args.row c.requires.row in
    let long = length-map c.args.members.now member_data in
    omega (arith, within, long, c.requires.few, c.requires.first, c.requires.count)

pub orders-requires-clause-names : goal.orders-requires-clause-names
orders-requires-clause-names c =
    let name = name_at (only_members (map member_data c.args.members.now)) in
    let first = first_of_shape (maps_of c.args.parts.now.graph.now) (numbering c.args.parts.now.graph.now
    c.args.parts.now.shapes.now).shapes c.args.row in
    subst (λ f. AllDiffer (map name (run f c.args.count))) (sym c.requires.first)
    (subst (λ n. AllDiffer (map name (run first n))) (sym c.requires.count)
    (row_names_differ c.args.parts.now.graph.now c.args.parts.now.shapes.now (texts_in c.args.parts.now.carried.now) c.requires.parts.ready
    c.args.parts.now.patterns.now (map member_data c.args.members.now) c.requires.rows c.args.row c.requires.row))

pub orders-requires-clause-json_names : goal.orders-requires-clause-json_names
orders-requires-clause-json_names c =
    let name = json_name_at (only_members (map member_data c.args.members.now)) in
    let first = first_of_shape (maps_of c.args.parts.now.graph.now) (numbering c.args.parts.now.graph.now
    c.args.parts.now.shapes.now).shapes c.args.row in
    subst (λ f. AllDiffer (map name (run f c.args.count))) (sym c.requires.first)
    (subst (λ n. AllDiffer (map name (run first n))) (sym c.requires.count)
    (row_json_names_differ c.args.parts.now.graph.now c.args.parts.now.shapes.now (texts_in c.args.parts.now.carried.now)
    c.requires.parts.ready c.args.parts.now.patterns.now (map member_data c.args.members.now) c.requires.rows c.args.row c.requires.row))

pub shape_row-requires-clause-values : goal.shape_row-requires-clause-values
shape_row-requires-clause-values c =
    in_row c.args.parts.now.graph.now c.args.parts.now.shapes.now c.args.parts.now.values.now c.args.row
    (get_or c.args.parts.now.shapes.now c.args.row 0) c.kind_at-kind.result c.values_in-values.result.now c.requires.values
    c.values_in-values.ensures refl c.kind_at-kind.ensures

pub shape_row-requires-clause-shape : goal.shape_row-requires-clause-shape
shape_row-requires-clause-shape c =
    (ready_shape c.args.parts.now.graph.now c.args.parts.now.shapes.now (texts_in c.args.parts.now.carried.now) c.requires.parts.ready
    c.args.row
    c.requires.row).number

pub returns : goal.returns
returns c =
    let g = c.args.parts.now.graph.now in
    let shapes = c.args.parts.now.shapes.now in
    let rows = map member_data c.args.members.now in
    let o = c.in_ok-ordered.ordered in
    let ordered = subst (λ f. AreOrders rows f (count_of_shape (maps_of g) (numbering g shapes).shapes c.args.row) o.members.items
    o.by_name.items
    o.by_json_name.items o.needed.items) c.requires.first
    (subst (λ n. AreOrders rows c.args.first n o.members.items o.by_name.items o.by_json_name.items o.needed.items) c.requires.count
    c.in_ok-ordered.ensures) in
    let made = c.in_ok-made.ensures in
    shape_row_told g shapes (texts_in c.args.parts.now.carried.now) c.requires.parts.ready c.args.parts.now.patterns.now rows
    c.requires.rows
    c.args.row c.requires.row c.kind_at-kind.result c.in_ok-made.made o c.pattern_at-pattern.result c.kind_at-kind.ensures made.told
    made.numbers
    made.pattern c.pattern_at-pattern.ensures ordered
