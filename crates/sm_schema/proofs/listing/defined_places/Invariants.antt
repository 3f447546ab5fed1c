use Rattle.std.proofs.Common.{◌≤◌, ℕ, List, length}
use Rattle.sm_shapes.specs.Places.{Place}
use Rattle.sm_shapes.specs.TableView.{table_data}
use Rattle.sm_schema.specs.Definitions.{Listed}
use Rattle.sm_schema.specs.steps.Numbered.{AreListed, AreNumbered, places_in}
use Rattle.sm_schema.proofs.listing.defined_places.Given as goal

abbrev pub invariant-loop-turn : goal.invariant-loop-turn
invariant-loop-turn l = record {
  numbered : AreNumbered (table_data l.table) l.all;
  within : l.turn ≤ length (places_in l.all);
  listed : (n : ℕ) (ps : List Place) → Listed (table_data l.table) n (places_in l.all) l.turn ps
      → AreListed (table_data l.table) l.shape ps;
}
