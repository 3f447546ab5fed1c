use Rattle.sm_shapes.specs.TableView.{table_data}
use Rattle.sm_bind.specs.BindingsView.{bound_side}
use Rattle.sm_bind.proofs.GrowingBodies.{no_structure}
use Rattle.sm_bind.proofs.documents.body_on.Goals as goal
use Rattle.std.proofs.Common.{refl, sym, ◌∙◌}
use Rattle.std.proofs.lemmas.Bool.{true≢false}

pub structure_body-requires-clause-kind : goal.structure_body-requires-clause-kind
structure_body-requires-clause-kind c = sym c.kind.ensures ∙ c.is_structure.ensures.0 c.if-is_structure.true

pub returns-else-is_structure : goal.returns-else-is_structure
returns-else-is_structure c =
    no_structure (table_data c.args.table.now) (bound_side c.args.side) (table_data c.args.documents) c.args.shape _ c.requires.grown refl
    (λ kind. true≢false (sym (c.is_structure.ensures.1 (c.kind.ensures ∙ kind)) ∙ c.if-is_structure.false))
