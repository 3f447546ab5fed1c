use Rattle.std.proofs.Common.{◌≡◌, drop}
use Rattle.sm_tree.specs.Node.{members_of}
use Rattle.sm_tree.specs.View.{members_view}
use Rattle.sm_compile.specs.TraitNodes.{is_text}
use Rattle.sm_rules.specs.TraitRows.{all_values}
use Rattle.sm_passes.proofs.rows.texts.are_texts_in.Given as goal

abbrev pub invariant-loop-pair : goal.invariant-loop-pair
invariant-loop-pair l =
    all_values is_text (members_of (members_view (drop l.pair-index l.pairs))) ≡ all_values is_text (members_of (members_view l.pairs))
