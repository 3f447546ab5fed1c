use Rattle.std.proofs.Common.{◌≤◌, drop}
use Rattle.sm_model.specs.Raw.{raws_of, raw_members_of}
use Rattle.sm_model.specs.RawView.{raw_view, raws_view, raw_members_view}
use Rattle.sm_model.proofs.RawWeight.{raw_weight, raws_weight, raw_members_weight}
use Rattle.model_rows.proofs.node.+show.Given as goal

abbrev pub decreases-show_node : goal.decreases-show_node
decreases-show_node l = raw_weight (raw_view l.node.now)

abbrev pub decreases-show_entries : goal.decreases-show_entries
decreases-show_entries l = raws_weight (raws_of (raws_view l.items.now))

abbrev pub decreases-show_pairs : goal.decreases-show_pairs
decreases-show_pairs l = raw_members_weight (raw_members_of (raw_members_view l.pairs.now))

abbrev pub invariant-show_entries-loop-item : goal.invariant-show_entries-loop-item
invariant-show_entries-loop-item l = raws_weight (raws_of (raws_view (drop l.item-index l.items)))
    ≤ raws_weight (raws_of (raws_view l.items))

abbrev pub invariant-show_pairs-loop-pair : goal.invariant-show_pairs-loop-pair
invariant-show_pairs-loop-pair l = raw_members_weight (raw_members_of (raw_members_view (drop l.pair-index l.pairs)))
    ≤ raw_members_weight (raw_members_of (raw_members_view l.pairs))
