-- What a decoder holds is bounded, whatever events it stands for.
use Rattle.std.proofs.Common.{◌≤◌, List, [], length, ap, arith}
use Rattle.sm_tree.specs.Events.{NodeEvent}
use Rattle.sm_tree.specs.Building.{Building, nothing, whole, within}
use Rattle.sm_shapes.specs.Places.{root_place}
use Rattle.sm_codec.specs.Bound.{known_trees, IsBounded, KeptIsBounded}
use Rattle.sm_codec.specs.Codec.{Codec, InTable}
use Rattle.sm_codec.specs.CodecLaws.{IsCodec}
use Rattle.sm_codec.specs.Decoding.{Decoding}
use Rattle.sm_codec.specs.Kept.{Holds}
use Rattle.sm_codec.specs.Walk.{levels_open}
use Rattle.sm_codec.proofs.EventCounts.{trees_told, as_many_events}
use Rattle.sm_codec.proofs.FrameCounts.{kept_fewer, open_nodes, open_frames, whole_nodes}

bounded : (c : Codec) (es : List NodeEvent) (b : Building) (d : Decoding) → IsCodec c → InTable c.table (root_place d.shape)
    → known_trees c d.shape b ≤ length es → Holds c b d → IsBounded c es b d
bounded c es (nothing ts) d laws inside told h = record {
  nodes = open_nodes c ts [] d laws inside h;
  trees = told;
  frames = (open_frames c ts [] d h).0;
  levels = (open_frames c ts [] d h).1;
  around = omega arith;
}
bounded c es (whole n) d laws inside told h = record {
  nodes = whole_nodes c n d laws inside h;
  trees = told;
  frames = omega (arith, ap length h.0);
  levels = omega arith;
  around = omega arith;
}
bounded c es (within ts i outer) d laws inside told h = record {
  nodes = open_nodes c ts (levels_open (within ts i outer)) d laws inside h;
  trees = told;
  frames = (open_frames c ts (levels_open (within ts i outer)) d h).0;
  levels = (open_frames c ts (levels_open (within ts i outer)) d h).1;
  around = kept_fewer c d.shape ts (levels_open (within ts i outer));
}

pub kept_is_bounded : KeptIsBounded
kept_is_bounded d c es laws kept =
    let told : known_trees c d.shape kept.building ≤ length es
    = omega (arith, trees_told c d.shape kept.building, ap length kept.taken, as_many_events es) in
    bounded c es kept.building d laws kept.in_table told kept.holds
