use Rattle.std.proofs.Common.{◌≡◌, true, drop}
use Rattle.sm_groups.specs.Groups.{groups_view}
use Rattle.sm_shapes.specs.TableView.{table_data}
use Rattle.sm_shapes.specs.ValueView.{each_entry_view}
use Rattle.sm_codec.specs.Codec.{codec_of}
use Rattle.sm_codec.specs.Conventions.{json_convention}
use Rattle.sm_codec.specs.PlaceView.{place_of}
use Rattle.sm_part_values.specs.FormView.{form_of}
use Rattle.sm_part_values.proofs.GroupsJoined.{GroupsSoFar}
use Rattle.sm_part_values.proofs.maps.each_entry.Given as goal

abbrev pub invariant-loop-index : goal.invariant-loop-index
invariant-loop-index g l = record {
  so_far : GroupsSoFar (form_of l.form) (codec_of (table_data l.table) (json_convention true) g.P.Patterns.test) (place_of l.place)
      l.lists (groups_view l.groups) (groups_view (drop l.index l.groups)) (each_entry_view l.entries.items);
  added : g.P.Patterns.added l.patterns ≡ g.P.Patterns.added l.fn.patterns;
  refused : g.P.Patterns.refused l.patterns ≡ g.P.Patterns.refused l.fn.patterns;
  refusals : g.P.Patterns.refusals l.patterns ≡ g.P.Patterns.refusals l.fn.patterns;
}
