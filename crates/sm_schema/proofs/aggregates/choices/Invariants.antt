use Rattle.std.proofs.Common.{◌≡◌, ℕ, drop}
use Rattle.sm_shapes.specs.TableView.{table_data}
use Rattle.sm_tree.specs.View.{nodes_view}
use Rattle.sm_schema.specs.Described.{choices}
use Rattle.sm_schema.specs.steps.Joined.{entries_joined}
use Rattle.sm_schema.specs.steps.Numbered.{AllMembers, listing_of}
use Rattle.sm_schema.proofs.aggregates.choices.Given as goal

abbrev pub invariant-loop-member : goal.invariant-loop-member
invariant-loop-member l = record {
  members : AllMembers (table_data l.table) (drop l.member-index l.members);
  built : (s : ℕ) → entries_joined (nodes_view l.entries.entries.items)
      (choices (listing_of (table_data l.table) l.json_names l.all) s (drop l.member-index l.members))
      ≡ choices (listing_of (table_data l.table) l.json_names l.all) s l.members;
}
