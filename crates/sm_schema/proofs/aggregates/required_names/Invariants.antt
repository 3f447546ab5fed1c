use Rattle.std.proofs.Common.{◌≡◌, ℕ, List, drop}
use Rattle.sm_shapes.specs.TableView.{table_data}
use Rattle.sm_shapes.specs.Places.{Place}
use Rattle.sm_tree.specs.View.{nodes_view}
use Rattle.sm_schema.specs.Described.{required_names}
use Rattle.sm_schema.specs.steps.Joined.{entries_joined}
use Rattle.sm_schema.specs.steps.Numbered.{AllMembers, listing}
use Rattle.sm_schema.proofs.aggregates.required_names.Given as goal

abbrev pub invariant-loop-member : goal.invariant-loop-member
invariant-loop-member l = record {
  members : AllMembers (table_data l.table) (drop l.member-index l.members);
  built : (s : ℕ) (ps : List Place) → entries_joined (nodes_view l.entries.entries.items)
      (required_names (listing (table_data l.table) l.json_names ps) s (drop l.member-index l.members))
      ≡ required_names (listing (table_data l.table) l.json_names ps) s l.members;
}
