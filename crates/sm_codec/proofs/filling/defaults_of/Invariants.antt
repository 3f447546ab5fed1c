use Rattle.std.proofs.Common.{◌≡◌, ◌++◌, drop}
use Rattle.sm_shapes.specs.DefaultPuts.{defaults_view}
use Rattle.sm_shapes.specs.TableView.{table_data}
use Rattle.sm_codec.specs.Defaults.{node_codec}
use Rattle.sm_codec.specs.steps.Filling.{counted_defaults}
use Rattle.sm_codec.proofs.filling.defaults_of.Given as goal

abbrev pub invariant-loop-number : goal.invariant-loop-number
invariant-loop-number g l = record {
  defaults : defaults_view l.defaults.items
      ++ counted_defaults (node_codec (table_data l.table) g.P.Patterns.test) l.number (drop l.number (table_data l.table).members)
      ≡ counted_defaults (node_codec (table_data l.table) g.P.Patterns.test) 0 (table_data l.table).members;
  added : g.P.Patterns.added l.patterns ≡ g.P.Patterns.added l.fn.patterns;
  refused : g.P.Patterns.refused l.patterns ≡ g.P.Patterns.refused l.fn.patterns;
  refusals : g.P.Patterns.refusals l.patterns ≡ g.P.Patterns.refusals l.fn.patterns;
}
