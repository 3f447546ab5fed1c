use Rattle.std.proofs.Common.{◌≡◌, ◌+◌, ◌≤◌, length, drop}
use Rattle.sm_shapes.specs.TableData.{texts_numbered}
use Rattle.codec_bodies.proofs.order.count_of.Given as goal

abbrev pub invariant-loop-pattern : goal.invariant-loop-pattern
invariant-loop-pattern l = record {
  count : l.count + length (texts_numbered l.number (drop l.pattern-index l.patterns)) ≡ length (texts_numbered l.number l.patterns);
  few : l.count ≤ l.pattern-index;
}
