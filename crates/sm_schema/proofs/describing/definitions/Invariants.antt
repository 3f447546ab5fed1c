use Rattle.std.proofs.Common.{◌≡◌, drop}
use Rattle.sm_shapes.specs.TableView.{table_data}
use Rattle.sm_tree.specs.View.{members_view}
use Rattle.sm_schema.specs.steps.Joined.{joined}
use Rattle.sm_schema.specs.steps.Numbered.{listing_of, places_in}
use Rattle.sm_schema.specs.steps.WithNotes.{definitions_for, notes_seen}
use Rattle.sm_schema.proofs.describing.definitions.Given as goal

abbrev pub invariant-loop-number : goal.invariant-loop-number
invariant-loop-number l =
    joined (members_view l.pairs.pairs.items)
    (definitions_for (notes_seen l.notes) (listing_of (table_data l.table) l.json_names l.all) l.number-counter (drop l.number-counter (places_in l.all)))
    ≡ definitions_for (notes_seen l.notes) (listing_of (table_data l.table) l.json_names l.all) 0 (places_in l.all)
