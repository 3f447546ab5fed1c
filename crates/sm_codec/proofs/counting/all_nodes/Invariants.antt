use Rattle.std.proofs.Common.{◌≡◌, ◌+◌, ◌-◌, ◌^◌, ◌≤◌, map, drop}
use Rattle.sm_bytes.specs.Lengths.{length_word}
use Rattle.sm_codec.specs.Bound.{total, frame_nodes}
use Rattle.sm_codec.specs.StackView.{frame_of}
use Rattle.sm_codec.proofs.counting.all_nodes.Given as goal

abbrev pub invariant-loop-frame : goal.invariant-loop-frame
invariant-loop-frame l = record {
  count : length_word (l.count + total frame_nodes (map frame_of (drop l.frame-index l.frames)))
      ≡ length_word (total frame_nodes (map frame_of l.frames));
  fits : l.count ≤ 2 ^ 64 - 1;
}
