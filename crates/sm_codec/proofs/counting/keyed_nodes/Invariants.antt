use Rattle.std.proofs.Common.{◌≡◌, ◌+◌, ◌-◌, ◌^◌, ◌≤◌}
use Rattle.sm_bytes.specs.Lengths.{length_word}
use Rattle.sm_shapes.specs.Values.{entries_nodes, entries_of}
use Rattle.sm_codec.specs.MapView.{held_entries}
use Rattle.sm_codec.proofs.counting.keyed_nodes.Given as goal

abbrev pub invariant-loop-key : goal.invariant-loop-key
invariant-loop-key l = record {
  count : length_word (l.count + entries_nodes (entries_of (held_entries l._key-iterator)))
      ≡ length_word (entries_nodes (entries_of (held_entries l.keys.entries)));
  fits : l.count ≤ 2 ^ 64 - 1;
}
