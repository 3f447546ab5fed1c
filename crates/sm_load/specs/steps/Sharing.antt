-- What several rules look up in a graph.
use Rattle.sm_model.specs.declared.graph.Graph.{Graph}
use Rattle.sm_select.specs.Ways.{AreWays}
use Rattle.sm_http_rules.specs.Sides.{AreSides}
use Rattle.sm_value_rules.specs.Marking.{AreValueMarks}
use Rattle.sm_load.specs.declared.shared.Shared.{Shared}

pub record AreShared (g : Graph) (shared : Shared) : Type 0 where
  pub are_ways : AreWays g shared.ways
  pub are_sides : AreSides g shared.sides
  pub are_marks : AreValueMarks g shared.marks
