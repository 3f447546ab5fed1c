use Rattle.std.proofs.Common.{sym, ap, subst, ◌∙◌}
use Rattle.sm_tree.specs.View.{nodes_view, members_view}
use Rattle.sm_cbor.specs.Heads.{Head}
use Rattle.sm_cbor.specs.steps.Descent.{number_of, ItemIn, PutsEntry, PutsPair}
use Rattle.sm_cbor.proofs.Descending.{unsigned_in, negative_in, entry_more, entries_end, entry_to_break_more, entries_break, pair_more}
use Rattle.sm_cbor.proofs.Descending.{pairs_end, pair_to_break_more, pairs_break, entry_levels, pair_levels}
use Rattle.sm_cbor.proofs.descent.Descent.+descent.Goals as goal

pub item-returns-in_ok-unsigned_tree-in-Unsigned : goal.item-returns-in_ok-unsigned_tree-in-Unsigned
item-returns-in_ok-unsigned_tree-in-Unsigned t c =
    let bytes = c.args.self.now.rest.now in
    let behind = c.argument.new.self.rest.now in
    let value = c.in_ok-value-in-Unsigned.value in
    subst (λ n. ItemIn c.args.levels n bytes behind) (sym c.in_ok-unsigned_tree-in-Unsigned.ensures.tree)
    (unsigned_in c.args.levels value bytes behind
    (subst (λ m. Head m value bytes behind) (c.in-Some.ensures.1 ∙ ap number_of c.in-Unsigned.is) c.in_ok-value-in-Unsigned.ensures))

pub item-returns-in_ok-negative_tree-in-Negative : goal.item-returns-in_ok-negative_tree-in-Negative
item-returns-in_ok-negative_tree-in-Negative t c =
    let bytes = c.args.self.now.rest.now in
    let behind = c.argument-in-Negative.new.self.rest.now in
    let value = c.in_ok-value-in-Negative.value in
    subst (λ n. ItemIn c.args.levels n bytes behind) (sym c.in_ok-negative_tree-in-Negative.ensures.tree)
    (negative_in c.args.levels value bytes behind
    (subst (λ m. Head m value bytes behind) (c.in-Some.ensures.1 ∙ ap number_of c.in-Negative.is) c.in_ok-value-in-Negative.ensures))

pub entries-loop-preserved : goal.entries-loop-preserved
entries-loop-preserved t c =
    let before = c.loop.self.rest.now in
    let behind = c.put_entry.new.self.rest.now in
    record {
      read = λ ns r more.
          entry_more c.args.levels c.args.count c.loop.counter c.loop.items.items c.put_entry.new.items.items ns before behind r
          c.args.self.now.rest.now
          c.in_ok-put_entry.ensures c.loop-test.true c.loop.invariant.read more;
      levels = entry_levels c.args.levels c.loop.items.items c.put_entry.new.items.items before behind c.in_ok-put_entry.ensures
          c.loop.invariant.levels;
    }

pub entries-returns : goal.entries-returns
entries-returns t c = (
  entries_end c.args.count c.loop.counter (nodes_view c.loop.items.items) c.loop.self.rest.now c.args.self.now.rest.now c.loop-test.false
      c.loop.invariant.read,
  c.loop.invariant.levels,
)

pub entries_to_break-loop-preserved : goal.entries_to_break-loop-preserved
entries_to_break-loop-preserved t c =
    let before = c.loop.self.rest.now in
    let behind = c.put_entry.new.self.rest.now in
    let puts : PutsEntry c.args.levels c.loop.items.items c.put_entry.new.items.items before behind =
    subst (λ s. PutsEntry c.args.levels c.loop.items.items c.put_entry.new.items.items s behind) (sym c.if-takes_break.ensures.0)
    c.in_ok-put_entry.ensures in
    record {
      read = λ ns r more. entry_to_break_more c.args.levels c.loop.items.items c.put_entry.new.items.items ns before behind r
          c.args.self.now.rest.now puts c.loop.invariant.read more;
      levels = entry_levels c.args.levels c.loop.items.items c.put_entry.new.items.items before behind puts c.loop.invariant.levels;
    }

pub entries_to_break-returns-then-takes_break : goal.entries_to_break-returns-then-takes_break
entries_to_break-returns-then-takes_break t c = (
  entries_break (nodes_view c.loop.items.items) c.loop.self.rest.now c.takes_break.new.self.rest.now c.args.self.now.rest.now
      c.loop.invariant.read c.if-takes_break.ensures,
  c.loop.invariant.levels,
)

pub pairs-loop-preserved : goal.pairs-loop-preserved
pairs-loop-preserved t c =
    let before = c.loop.self.rest.now in
    let behind = c.put_pair.new.self.rest.now in
    record {
      read = λ ms r more.
          pair_more c.args.levels c.args.count c.loop.counter c.loop.pairs.items c.put_pair.new.pairs.items ms before behind r
          c.args.self.now.rest.now
          c.in_ok-put_pair.ensures c.loop-test.true c.loop.invariant.read more;
      levels = pair_levels c.args.levels c.loop.pairs.items c.put_pair.new.pairs.items before behind c.in_ok-put_pair.ensures
          c.loop.invariant.levels;
    }

pub pairs-returns : goal.pairs-returns
pairs-returns t c = (
  pairs_end c.args.count c.loop.counter (members_view c.loop.pairs.items) c.loop.self.rest.now c.args.self.now.rest.now c.loop-test.false
      c.loop.invariant.read,
  c.loop.invariant.levels,
)

pub pairs_to_break-loop-preserved : goal.pairs_to_break-loop-preserved
pairs_to_break-loop-preserved t c =
    let before = c.loop.self.rest.now in
    let behind = c.put_pair.new.self.rest.now in
    let puts : PutsPair c.args.levels c.loop.pairs.items c.put_pair.new.pairs.items before behind =
    subst (λ s. PutsPair c.args.levels c.loop.pairs.items c.put_pair.new.pairs.items s behind) (sym c.if-takes_break.ensures.0)
    c.in_ok-put_pair.ensures in
    record {
      read = λ ms r more. pair_to_break_more c.args.levels c.loop.pairs.items c.put_pair.new.pairs.items ms before behind r
          c.args.self.now.rest.now puts c.loop.invariant.read more;
      levels = pair_levels c.args.levels c.loop.pairs.items c.put_pair.new.pairs.items before behind puts c.loop.invariant.levels;
    }

pub pairs_to_break-returns-then-takes_break : goal.pairs_to_break-returns-then-takes_break
pairs_to_break-returns-then-takes_break t c = (
  pairs_break (members_view c.loop.pairs.items) c.loop.self.rest.now c.takes_break.new.self.rest.now c.args.self.now.rest.now
      c.loop.invariant.read c.if-takes_break.ensures,
  c.loop.invariant.levels,
)
