use Rattle.std.proofs.Common.{◌≡◌, ◌+◌, ◌*◌, ◌≤◌, drop}
use Rattle.sm_tree.specs.Node.{nodes_of, members_of}
use Rattle.sm_tree.specs.View.{node_of, nodes_view, members_view}
use Rattle.sm_tree.specs.steps.Weight.{weight, nodes_weight, members_weight}
use Rattle.sm_shapes.specs.TableView.{table_data}
use Rattle.sm_codec.specs.Codec.{codec_of}
use Rattle.sm_codec.specs.DecodingView.{decoding_of}
use Rattle.sm_codec.specs.steps.WalkSteps.{next_place, ListSoFar, PairsSoFar}
use Rattle.sm_codec.proofs.decoder.Decoder.+walk.Given as goal

abbrev pub decreases-walk : goal.decreases-walk
decreases-walk g l = 2 * weight (node_of l.tree.now)

abbrev pub decreases-walk_list : goal.decreases-walk_list
decreases-walk_list g l = 2 * nodes_weight (nodes_of (nodes_view l.items.now)) + 1

abbrev pub decreases-walk_object : goal.decreases-walk_object
decreases-walk_object g l = 2 * members_weight (members_of (members_view l.pairs.now)) + 1

abbrev pub decreases-walk_pair : goal.decreases-walk_pair
decreases-walk_pair g l = 2 * weight (node_of l.tree.now) + 1

abbrev pub invariant-walk_list-loop-item : goal.invariant-walk_list-loop-item
invariant-walk_list-loop-item g l = record {
  sofar : ListSoFar (codec_of (table_data l.table) (g.L.Leaves.convention l.leaves) g.P.Patterns.test)
      (next_place (table_data l.table) (decoding_of l.fn.self)) (decoding_of l.fn.self).frames (nodes_view l.items) (nodes_view (drop
      l.item-index l.items)) (decoding_of l.self);
  shape : (decoding_of l.self).shape ≡ (decoding_of l.fn.self).shape;
  added : g.P.Patterns.added l.patterns ≡ g.P.Patterns.added l.fn.patterns;
  refused : g.P.Patterns.refused l.patterns ≡ g.P.Patterns.refused l.fn.patterns;
  refusals : g.P.Patterns.refusals l.patterns ≡ g.P.Patterns.refusals l.fn.patterns;
  weight : nodes_weight (nodes_of (nodes_view (drop l.item-index l.items))) ≤ nodes_weight (nodes_of (nodes_view l.items));
}

abbrev pub invariant-walk_object-loop-pair : goal.invariant-walk_object-loop-pair
invariant-walk_object-loop-pair g l = record {
  sofar : PairsSoFar (codec_of (table_data l.table) (g.L.Leaves.convention l.leaves) g.P.Patterns.test)
      (next_place (table_data l.table) (decoding_of l.fn.self)) (decoding_of l.fn.self).frames (members_view l.pairs) (members_view (drop
      l.pair-index l.pairs)) (decoding_of l.self);
  shape : (decoding_of l.self).shape ≡ (decoding_of l.fn.self).shape;
  added : g.P.Patterns.added l.patterns ≡ g.P.Patterns.added l.fn.patterns;
  refused : g.P.Patterns.refused l.patterns ≡ g.P.Patterns.refused l.fn.patterns;
  refusals : g.P.Patterns.refusals l.patterns ≡ g.P.Patterns.refusals l.fn.patterns;
  weight : members_weight (members_of (members_view (drop l.pair-index l.pairs))) ≤ members_weight (members_of (members_view l.pairs));
}
