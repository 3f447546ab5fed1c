-- The bodies of shapes on the three sides.
use Rattle.std.proofs.Common.{◌≡◌, ℕ, ◌<◌, length, sym, subst}
use Rattle.sm_rules.specs.Bindings.{BoundSide, an_error, an_input, an_output}
use Rattle.sm_shapes.specs.TableData.{TableData, kind_at, shape_count}
use Rattle.sm_shapes.specs.TableView.{table_data}
use Rattle.sm_shapes.specs.declared.kinds.ShapeKind.TheVariants.{Structure}
use Rattle.sm_excerpts.proofs.Extending.{extends_then}
use Rattle.sm_bind.specs.BindingsView.{AreBindingsOf, BindingsData, body_at}
use Rattle.sm_bind.specs.Documents.{IsBodyShape}
use Rattle.sm_bind.specs.Roles.{bound_on}
use Rattle.sm_bind.specs.declared.documents.Growing.{Growing}
use Rattle.sm_bind.specs.steps.Growing.{AreBodies, Grows}
use Rattle.sm_bind.proofs.GrowingBodies.{bodies_kept}

module _ (t : TableData) (b : BindingsData) where
  side_bodies : AreBodies t b.documents an_input b.inputs → length b.inputs ≡ shape_count t → AreBodies t b.documents an_output b.outputs
      → length b.outputs ≡ shape_count t → AreBodies t b.documents an_error b.errors → length b.errors ≡ shape_count t
      → (side : BoundSide) (n : ℕ) → n < shape_count t → kind_at t n ≡ Structure → IsBodyShape b.documents (bound_on t side n) (body_at b side n)
  side_bodies inputs i outputs o errors e an_input n lt kind = inputs n (subst (λ (m : ℕ). n < m) (sym i) lt) kind
  side_bodies inputs i outputs o errors e an_output n lt kind = outputs n (subst (λ (m : ℕ). n < m) (sym o) lt) kind
  side_bodies inputs i outputs o errors e an_error n lt kind = errors n (subst (λ (m : ℕ). n < m) (sym e) lt) kind

-- the three sides, one after the other
pub bindings_made : (t d : TableData) (i o e : Growing) → Grows t an_input d (shape_count t) i
    → Grows t an_output (table_data i.table) (shape_count t) o → Grows t an_error (table_data o.table) (shape_count t) e
    → AreBindingsOf t (record {
      documents = table_data e.table;
      inputs = i.bodies.items;
      outputs = o.bodies.items;
      errors = e.bodies.items;
    })
bindings_made t d i o e inputs outputs errors =
    let b : BindingsData = record {
      documents = table_data e.table;
      inputs = i.bodies.items;
      outputs = o.bodies.items;
      errors = e.bodies.items;
    } in
    let whole = extends_then (table_data e.table) (table_data o.table) (table_data i.table) errors.extends outputs.extends in
    record {
      extends = errors.grown.extends;
      shaped = errors.grown.shaped;
      built = errors.grown.built;
      each = side_bodies t b
          (bodies_kept t an_input (table_data i.table) (table_data e.table) whole inputs.grown.shaped i.bodies.items inputs.bodies) inputs.long
          (bodies_kept t an_output (table_data o.table) (table_data e.table) errors.extends outputs.grown.shaped o.bodies.items outputs.bodies)
          outputs.long errors.bodies errors.long;
    }
