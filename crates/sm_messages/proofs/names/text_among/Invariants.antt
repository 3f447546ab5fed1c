use Rattle.std.proofs.Common.{◌≡◌, drop}
use Rattle.sm_tree.specs.Node.{members_of}
use Rattle.sm_tree.specs.View.{members_view}
use Rattle.sm_messages.specs.Names.{text_among}
use Rattle.sm_messages.proofs.names.text_among.Given as goal

abbrev pub invariant-loop-pair : goal.invariant-loop-pair
invariant-loop-pair l =
    text_among l.name (members_of (members_view (drop l.pair-index l.pairs))) ≡ text_among l.name (members_of (members_view l.pairs))
