use Rattle.std.proofs.Common.{not, ap, sym, ◌∙◌}
use Rattle.sm_shapes.specs.Places.{member_place}
use Rattle.sm_shapes.specs.TableView.{table_data}
use Rattle.sm_schema.specs.Definitions.{reference}
use Rattle.sm_schema.specs.Described.{nullable, nullable_if}
use Rattle.sm_schema.specs.steps.Numbered.{listing_of, schema_for}
use Rattle.sm_schema.proofs.OkParts.{if_ok}
use Rattle.sm_schema.proofs.aggregates.member_schema.Goals as goal

pub returns-then-choice : goal.returns-then-choice
returns-then-choice c =
    if_ok c.nullable.result (λ made says json_names. says ∙ ap nullable (c.in_ok-tree.ensures json_names)
    ∙ ap (λ b. schema_for (listing_of (table_data c.args.table.now) json_names c.args.all.now) b c.args.member) (sym c.if-choice.true))
    c.nullable.ensures

pub returns-else-choice : goal.returns-else-choice
returns-else-choice c =
    if_ok c.nullable_if.result (λ made says json_names.
    let d = listing_of (table_data c.args.table.now) json_names c.args.all.now in
    says ∙ ap (nullable_if (not c.must_stand.result)) (c.in_ok-tree.ensures json_names)
    ∙ ap (λ b. nullable_if (not b) (reference d (member_place c.args.member))) c.must_stand.ensures
    ∙ ap (λ b. schema_for d b c.args.member) (sym c.if-choice.false))
    c.nullable_if.ensures
