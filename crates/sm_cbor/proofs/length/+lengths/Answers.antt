use Rattle.std.proofs.Common.{length, arith}
use Rattle.std.proofs.lemmas.List.{at_drop_all}
use Rattle.sm_tree.specs.Node.{nodes_of, members_of}
use Rattle.sm_tree.specs.View.{nodes_view, members_view}
use Rattle.sm_cbor.specs.Written.{written_item_entries, written_item_pairs}
use Rattle.sm_cbor.proofs.length.+lengths.Goals as goal

pub entries_len-returns : goal.entries_len-returns
entries_len-returns t c =
    let none_left = at_drop_all (λ s. length (written_item_entries (nodes_of (nodes_view s)))) c.args.items.now c.loop-item.item-index
    c.loop-item-test.false in
    omega (arith, none_left, c.loop-item.invariant.length, c.loop-item.invariant.word)

pub pairs_len-returns : goal.pairs_len-returns
pairs_len-returns t c =
    let none_left = at_drop_all (λ s. length (written_item_pairs (members_of (members_view s)))) c.args.pairs.now c.loop-pair.pair-index
    c.loop-pair-test.false in
    omega (arith, none_left, c.loop-pair.invariant.length, c.loop-pair.invariant.word)
