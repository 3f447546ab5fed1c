-- What is looked up once for the rules on values, as marks.
use Rattle.std.specs.Prelude.{Bool, List, length}
use Rattle.sm_model.specs.GraphView.{entries_of, maps_of}
use Rattle.sm_model.specs.Reaching.{AreMarks, id_of_number}
use Rattle.sm_model.specs.declared.graph.Graph.{Graph}
use Rattle.sm_rules.specs.NodeChecks.{IsChecked}
use Rattle.sm_value_rules.specs.Used.{AreUsed}
use Rattle.sm_value_rules.specs.declared.value_marks.ValueMarks.{ValueMarks}

-- exactly the shapes for which nodes are checked are marked
abbrev pub AreCheckedMarks : Graph → List Bool → Type 0
AreCheckedMarks g marks = AreMarks (length (entries_of g)) (λ k. IsChecked (maps_of g) (id_of_number g k)) marks

-- and exactly what stands as a trait somewhere
pub record AreValueMarks (g : Graph) (marks : ValueMarks) : Type 0 where
  pub are_checked : AreCheckedMarks g marks.checked.items
  pub are_used : AreUsed g marks.used.items
