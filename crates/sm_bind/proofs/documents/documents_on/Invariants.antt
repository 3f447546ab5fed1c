use Rattle.sm_shapes.specs.TableView.{table_data}
use Rattle.sm_bind.specs.BindingsView.{bound_side}
use Rattle.sm_bind.specs.steps.Growing.{Grows}
use Rattle.sm_bind.proofs.documents.documents_on.Given as goal

abbrev pub invariant-loop-shape : goal.invariant-loop-shape
invariant-loop-shape l = Grows (table_data l.table) (bound_side l.side) (table_data l.fn.documents) l.shape l.growing
