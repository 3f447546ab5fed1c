use Rattle.std.proofs.Common.{◌≡◌, ◌≤◌, ◌++◌, drop}
use Rattle.sm_tree.specs.View.{nodes_view, members_view}
use Rattle.sm_model.specs.Raw.{raws_of, raw_members_of}
use Rattle.sm_model.specs.RawView.{raw_view, raws_view, raw_members_view}
use Rattle.sm_model.proofs.RawWeight.{raw_weight, raws_weight, raw_members_weight}
use Rattle.sm_merge.specs.steps.Known.{known}
use Rattle.sm_merge.specs.steps.Meant.{entries_meant, pairs_meant}
use Rattle.sm_merge.proofs.node.+meant.Given as goal

abbrev pub decreases-meant_node : goal.decreases-meant_node
decreases-meant_node l = raw_weight (raw_view l.node.now)

abbrev pub decreases-meant_entries : goal.decreases-meant_entries
decreases-meant_entries l = raws_weight (raws_of (raws_view l.items.now))

abbrev pub decreases-meant_pairs : goal.decreases-meant_pairs
decreases-meant_pairs l = raw_members_weight (raw_members_of (raw_members_view l.pairs.now))

abbrev pub invariant-meant_entries-loop-item : goal.invariant-meant_entries-loop-item
invariant-meant_entries-loop-item l = record {
  meant : nodes_view l.entries.items ++ entries_meant (known l.names) (raws_view (drop l.item-index l.items))
      ≡ entries_meant (known l.names) (raws_view l.items);
  weight : raws_weight (raws_of (raws_view (drop l.item-index l.items))) ≤ raws_weight (raws_of (raws_view l.items));
}

abbrev pub invariant-meant_pairs-loop-pair : goal.invariant-meant_pairs-loop-pair
invariant-meant_pairs-loop-pair l = record {
  meant : members_view l.members.items ++ pairs_meant (known l.names) (raw_members_view (drop l.pair-index l.pairs))
      ≡ pairs_meant (known l.names) (raw_members_view l.pairs);
  weight : raw_members_weight (raw_members_of (raw_members_view (drop l.pair-index l.pairs)))
      ≤ raw_members_weight (raw_members_of (raw_members_view l.pairs));
}
