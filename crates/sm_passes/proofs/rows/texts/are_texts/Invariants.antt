use Rattle.std.proofs.Common.{◌≡◌, drop}
use Rattle.sm_tree.specs.Node.{nodes_of}
use Rattle.sm_tree.specs.View.{nodes_view}
use Rattle.sm_compile.specs.TraitNodes.{is_text}
use Rattle.sm_rules.specs.TraitRows.{all_nodes}
use Rattle.sm_passes.proofs.rows.texts.are_texts.Given as goal

abbrev pub invariant-loop-item : goal.invariant-loop-item
invariant-loop-item l =
    all_nodes is_text (nodes_of (nodes_view (drop l.item-index l.items))) ≡ all_nodes is_text (nodes_of (nodes_view l.items))
