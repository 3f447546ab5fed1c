use Rattle.std.proofs.Common.{cond, subst}
use Rattle.sm_shapes.specs.TableView.{table_data}
use Rattle.sm_tree.specs.View.{node_of}
use Rattle.sm_schema.proofs.PlainTrees.{plain_json}
use Rattle.sm_schema.proofs.WithNotes.{is_schema}
use Rattle.sm_schema.proofs.describing.schema.Goals as goal

pub returns-clause-schema : goal.returns-clause-schema
returns-clause-schema g c =
    (is_schema (table_data c.args.table.now) c.args.json_names c.args.shape (node_of c.in_ok-made.made.tree) c.in_ok-made.ensures).0

pub returns-clause-json : goal.returns-clause-json
returns-clause-json g c = plain_json (node_of c.in_ok-made.made.tree) c.in_ok-made.made.plain

pub returns-clause-spelled : goal.returns-clause-spelled
returns-clause-spelled g c = λ n pass document none.
    let is = is_schema (table_data c.args.table.now) c.args.json_names c.args.shape (node_of c.in_ok-made.made.tree) c.in_ok-made.ensures in
    c.spelled_is_valid.ensures (table_data c.args.table.now) c.args.json_names g.P.Patterns.test c.args.shape (node_of c.in_ok-made.made.tree) n
    c.requires.shaped pass c.requires.shape is.0 is.1 document none

pub returns-clause-valid : goal.returns-clause-valid
returns-clause-valid g c = λ n told document none valid.
    let is = is_schema (table_data c.args.table.now) c.args.json_names c.args.shape (node_of c.in_ok-made.made.tree) c.in_ok-made.ensures in
    c.valid_is_spelled.ensures (table_data c.args.table.now) c.args.json_names g.P.Patterns.test c.args.shape (node_of c.in_ok-made.made.tree) n
    c.requires.shaped c.requires.shape is.0 is.1 told document none valid

pub schema_of-requires-clause-known : goal.schema_of-requires-clause-known
schema_of-requires-clause-known g c = λ known. absurd (subst (λ b. cond b ⊥ (Unit {0})) known tt)
