-- All tables that a graph is made from, and what they tell of the statements.
use Rattle.std.specs.Prelude.{◌≡◌, List}
use Rattle.std.specs.List.{flat_map}
use Rattle.sm_merge.specs.Places.{metadata_by}
use Rattle.sm_merge.specs.Stated.{Stated}
use Rattle.sm_merge.specs.steps.Placed.{applied_by}
use Rattle.sm_merge.specs.steps.ShapeTables.{IsShapeTable}
use Rattle.sm_merge.specs.steps.Tables.{AreTraitsOf, AreValuesOf}
use Rattle.sm_merge.specs.declared.tables.Tables.{Tables}

pub record AreTablesOf (ss : List Stated) (t : Tables) : Type 0 where
  pub traits : AreTraitsOf ss t.traits.items
  pub metadata : AreValuesOf (flat_map metadata_by ss) t.metadata.items
  pub shapes : IsShapeTable ss t.shapes
  pub applied : t.applied.items ≡ flat_map applied_by ss
