use Rattle.std.proofs.Common.{◌≡◌, ◌-◌, ◌≤◌, length, take}
use Rattle.sm_shapes.specs.TableView.{table_data}
use Rattle.sm_codec.specs.Codec.{codec_of}
use Rattle.sm_bodies.specs.Fed.{BodyFed}
use Rattle.sm_bodies.proofs.reading.value_by.Given as goal

abbrev pub invariant-loop-at : goal.invariant-loop-at
invariant-loop-at g l = record {
  inside : l.at ≤ length l.bytes;
  fed : BodyFed g.S.EventSource.source (codec_of (table_data l.table) (g.L.Leaves.convention l.leaves) g.P.Patterns.test) l.shape
      l.body.reader l.body.decoder (take l.at l.bytes);
  added : g.P.Patterns.added l.patterns ≡ g.P.Patterns.added l.fn.patterns;
  refused : g.P.Patterns.refused l.patterns ≡ g.P.Patterns.refused l.fn.patterns;
  refusals : g.P.Patterns.refusals l.patterns ≡ g.P.Patterns.refusals l.fn.patterns;
}

abbrev pub decreases-loop-at : goal.decreases-loop-at
decreases-loop-at g l = length l.bytes - l.at
