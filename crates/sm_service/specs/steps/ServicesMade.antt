-- A service while it is made: its name and its operations, over a table that is made.
use Rattle.std.specs.Prelude.{◌≡◌, ℕ, List}
use Rattle.sm_ids.specs.TextParts.{name_part}
use Rattle.sm_model.specs.Graphs.{ShapeEntry}
use Rattle.sm_model.specs.GraphView.{maps_of}
use Rattle.sm_model.specs.declared.graph.Graph.{Graph}
use Rattle.sm_shapes.specs.declared.tables.Table.{Table}
use Rattle.sm_compile.specs.steps.Numbered.{numbering}
use Rattle.sm_rules.specs.Words.{IsOwnShape}
use Rattle.sm_service.specs.Compiled.{AreOperationsOf}
use Rattle.sm_service.specs.ServiceView.{operations_view}
use Rattle.sm_service.specs.declared.service.Service.{Service}

-- the service over the table of these shapes
pub record IsServiceFrom (g : Graph) (id : List ℕ) (shapes : List ℕ) (table : Table) (made : Service) : Type 0 where
  pub table_is : Path Table made.table table
  pub name : made.name ≡ name_part id
  pub operations : (s : ShapeEntry) → IsOwnShape (maps_of g) id s
      → AreOperationsOf (maps_of g) id (numbering g shapes) s (operations_view made.operations)
