use Rattle.std.proofs.Common.{◌≡◌, drop}
use Rattle.sm_shapes.specs.TableView.{table_data}
use Rattle.sm_schema.specs.Definitions.{with_members}
use Rattle.sm_schema.specs.steps.Numbered.{AllMembers, AreNumbered, places_in}
use Rattle.sm_schema.proofs.listing.DefinedPlaces.put_members.Given as goal

abbrev pub invariant-loop-member : goal.invariant-loop-member
invariant-loop-member l = record {
  numbered : AreNumbered (table_data l.table) l.self;
  members : AllMembers (table_data l.table) (drop l.member-index l.members);
  places : with_members (table_data l.table) (places_in l.self) (drop l.member-index l.members)
      ≡ with_members (table_data l.table) (places_in l.initial.self) l.members;
}
