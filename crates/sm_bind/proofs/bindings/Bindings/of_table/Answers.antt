use Rattle.std.proofs.Common.{subst, sym}
use Rattle.sm_shapes.specs.TableView.{table_data}
use Rattle.sm_bind.specs.steps.Growing.{IsGrown}
use Rattle.sm_bind.proofs.GrowingBodies.{grown_itself}
use Rattle.sm_bind.proofs.SideBodies.{bindings_made}
use Rattle.sm_bind.proofs.bindings.Bindings.of_table.Goals as goal

pub documents_on-requires-clause-grown : goal.documents_on-requires-clause-grown
documents_on-requires-clause-grown c =
    subst (IsGrown (table_data c.args.table.now)) (sym c.in_ok-documents.ensures) (grown_itself (table_data c.args.table.now) c.requires)

pub documents_on-requires-2-clause-grown : goal.documents_on-requires-2-clause-grown
documents_on-requires-2-clause-grown c = c.in_ok-inputs.ensures.grown

pub documents_on-requires-3-clause-grown : goal.documents_on-requires-3-clause-grown
documents_on-requires-3-clause-grown c = c.in_ok-outputs.ensures.grown

pub returns : goal.returns
returns c =
    bindings_made (table_data c.args.table.now) (table_data c.in_ok-documents.documents) c.in_ok-inputs.inputs c.in_ok-outputs.outputs
    c.in_ok-errors.errors c.in_ok-inputs.ensures c.in_ok-outputs.ensures c.in_ok-errors.ensures
