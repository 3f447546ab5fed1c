use Rattle.std.proofs.Common.{sym, ◌∙◌}
use Rattle.sm_shapes.specs.TableView.{table_data}
use Rattle.sm_tree.specs.View.{node_of}
use Rattle.sm_schema.specs.NotesView.{notes_data}
use Rattle.sm_schema.proofs.PlainTrees.{plain_json}
use Rattle.sm_schema.proofs.WithNotes.{is_noted_schema, plain_of, plain_schema}
use Rattle.sm_schema.proofs.describing.schema_described.Goals as goal

pub returns-clause-schema : goal.returns-clause-schema
returns-clause-schema g c =
    is_noted_schema (table_data c.args.table.now) c.args.json_names (notes_data c.args.notes.now) c.args.shape
    (node_of c.in_ok-made.made.tree) c.in_ok-made.ensures

pub returns-clause-json : goal.returns-clause-json
returns-clause-json g c = plain_json (node_of c.in_ok-made.made.tree) c.in_ok-made.made.plain

pub returns-clause-spelled : goal.returns-clause-spelled
returns-clause-spelled g c = λ n pass document none.
    let t = table_data c.args.table.now in
    let b = c.args.json_names in
    let notes = notes_data c.args.notes.now in
    let s = c.args.shape in
    let tree = node_of c.in_ok-made.made.tree in
    let plain = plain_of t b notes s tree c.in_ok-made.ensures in
    let is = plain_schema t b notes s tree c.in_ok-made.ensures in
    c.notes_dont_count.ensures t b notes g.P.Patterns.test s plain tree n is.0 (is_noted_schema t b notes s tree c.in_ok-made.ensures)
    ∙ c.spelled_is_valid.ensures t b g.P.Patterns.test s plain n c.requires.shaped pass c.requires.shape is.0 is.1 document none

pub returns-clause-valid : goal.returns-clause-valid
returns-clause-valid g c = λ n told document none valid.
    let t = table_data c.args.table.now in
    let b = c.args.json_names in
    let notes = notes_data c.args.notes.now in
    let s = c.args.shape in
    let tree = node_of c.in_ok-made.made.tree in
    let plain = plain_of t b notes s tree c.in_ok-made.ensures in
    let is = plain_schema t b notes s tree c.in_ok-made.ensures in
    c.valid_is_spelled.ensures t b g.P.Patterns.test s plain n c.requires.shaped c.requires.shape is.0 is.1 told document none
    (sym (c.notes_dont_count.ensures t b notes g.P.Patterns.test s plain tree n is.0
    (is_noted_schema t b notes s tree c.in_ok-made.ensures)) ∙ valid)

pub schema_of-requires-clause-known : goal.schema_of-requires-clause-known
schema_of-requires-clause-known g c = λ known. c.requires.values
