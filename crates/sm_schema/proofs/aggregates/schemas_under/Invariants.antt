use Rattle.std.proofs.Common.{◌≡◌, ℕ, drop}
use Rattle.sm_shapes.specs.TableView.{table_data}
use Rattle.sm_tree.specs.View.{members_view}
use Rattle.sm_schema.specs.Described.{schemas_under}
use Rattle.sm_schema.specs.steps.Joined.{joined}
use Rattle.sm_schema.specs.steps.Numbered.{AllMembers, listing_of}
use Rattle.sm_schema.specs.steps.WithNotes.{notes_seen, schema_with}
use Rattle.sm_schema.proofs.aggregates.schemas_under.Given as goal

abbrev pub invariant-loop-member : goal.invariant-loop-member
invariant-loop-member l = record {
  members : AllMembers (table_data l.table) (drop l.member-index l.members);
  built : (s : ℕ) → joined (members_view l.pairs.pairs.items)
      (schemas_under (listing_of (table_data l.table) l.json_names l.all) s
      (schema_with (notes_seen l.notes) (listing_of (table_data l.table) l.json_names l.all) l.choice) (drop l.member-index l.members))
      ≡ schemas_under (listing_of (table_data l.table) l.json_names l.all) s
      (schema_with (notes_seen l.notes) (listing_of (table_data l.table) l.json_names l.all) l.choice) l.members;
}
