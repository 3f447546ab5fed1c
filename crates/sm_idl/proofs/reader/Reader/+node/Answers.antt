use Rattle.std.proofs.Common.{◌≡◌, ◌-◌, suc, codes, sym, subst, arith, rules}
use Rattle.sm_idl.specs.steps.Names.{Remembers}
use Rattle.sm_model.specs.RawView.{raw_view, raws_view, raw_members_view}
use Rattle.sm_idl.specs.Nodes.{node, pair_names}
use Rattle.sm_idl.specs.steps.Firm.{HeadIs}
use Rattle.sm_idl.specs.steps.Classes.{AMark, NoMark, NodeStart}
use Rattle.sm_idl.specs.steps.ReaderView.{left, raw_pair}
use Rattle.sm_idl.proofs.ReadNodes.{stops_at_key, stops_at_colon, stops_at_value}
use Rattle.sm_idl.proofs.NodeRows as rows
use Rattle.sm_idl.proofs.NodeRows.{refused, none_seen}
use Rattle.sm_idl.proofs.reader.Reader.+node.Goals as goal

pub items-loop-alloc-init : goal.items-loop-alloc-init
items-loop-alloc-init g t c =
    rows.nodes_none (g.W.Words.home c.args.words.now) c.args.levels c.new-items.result.items (left c.args.self.now)
    c.new-items.ensures.items

pub items-loop-alloc-smaller : goal.items-loop-alloc-smaller
items-loop-alloc-smaller g t c =
    rows.nodes_fewer (g.W.Words.home c.args.words.now) c.args.levels (raw_view c.in-Ok.node) (left c.loop-alloc.self)
    (left c.node.new.self) c.in-Ok.ensures

pub items-loop-alloc-preserved : goal.items-loop-alloc-preserved
items-loop-alloc-preserved g t c =
    rows.nodes_more (g.W.Words.home c.args.words.now) c.args.levels c.loop-alloc.items.items c.push.new.self.items c.in-Ok.node
    (left c.args.self.now) (left c.loop-alloc.self) (left c.node.new.self) c.in-Ok-push.ensures.items c.loop-alloc.invariant c.in-Ok.ensures

pub items-returns-in-Err : goal.items-returns-in-Err
items-returns-in-Err g t c =
    rows.nodes_stop (g.W.Words.home c.args.words.now) c.args.levels (raws_view c.loop-alloc.items.items) (left c.args.self.now)
    (left c.loop-alloc.self) (left c.node.new.self) c.in-Err.stop c.loop-alloc.invariant (c.is_at_node.ensures.0 c.loop-alloc-test.true)
    c.in-Err.ensures

pub items-returns : goal.items-returns
items-returns g t c =
    rows.nodes_read (g.W.Words.home c.args.words.now) c.args.levels (raws_view c.loop-alloc.items.items) (left c.args.self.now)
    (left c.loop-alloc.self) c.loop-alloc.invariant
    (refused c.is_at_node.result (HeadIs NodeStart (left c.loop-alloc.self)) c.is_at_node.ensures c.loop-alloc-test.false)

pub list-returns-in-Err : goal.list-returns-in-Err
list-returns-in-Err g t c =
    rows.list_open (g.W.Words.home c.args.words.now) c.args.levels (left c.args.self.now) (left c.mark.new.self) c.in-Err.stop
    c.in-Err.ensures

pub list-returns-in-Err-items : goal.list-returns-in-Err-items
list-returns-in-Err-items g t c =
    rows.list_within (g.W.Words.home c.args.words.now) c.args.levels (left c.args.self.now) (left c.mark.new.self) (left c.items.new.self)
    c.in-Err-items.stop c.in-Ok.ensures c.in-Err-items.ensures

pub list-returns-in-Err-mark : goal.list-returns-in-Err-mark
list-returns-in-Err-mark g t c =
    rows.list_close (g.W.Words.home c.args.words.now) c.args.levels _ (left c.args.self.now) (left c.mark.new.self)
    (left c.items.new.self) _
    c.in-Err-mark.stop c.in-Ok.ensures c.in-Ok-items.ensures c.in-Err-mark.ensures

pub node-returns-then-levels-eq0 : goal.node-returns-then-levels-eq0
node-returns-then-levels-eq0 g t c =
    rows.flat_at (g.W.Words.home c.args.words.now) c.args.levels c.if-levels-eq0.true (left c.args.self.now) (left c.leaf.new.self)
    c.leaf.result c.leaf.ensures

pub node-returns-then-is_at_mark : goal.node-returns-then-is_at_mark
node-returns-then-is_at_mark g t c =
    let more : c.args.levels ≡ suc (c.args.levels - 1) = omega arith in
    rows.object_at (g.W.Words.home c.args.words.now) c.args.levels (c.args.levels - 1) more (left c.args.self.now) (left c.object.new.self)
    c.object.result (c.is_at_mark.ensures.0 c.if-is_at_mark.true) c.object.ensures

pub node-returns-then-is_at_mark-2 : goal.node-returns-then-is_at_mark-2
node-returns-then-is_at_mark-2 g t c =
    let more : c.args.levels ≡ suc (c.args.levels - 1) = omega arith in
    rows.list_at (g.W.Words.home c.args.words.now) c.args.levels (c.args.levels - 1) more (left c.args.self.now) (left c.list.new.self)
    c.list.result (c.is_at_mark-2.ensures.0 c.if-is_at_mark-2.true) c.list.ensures

pub node-returns : goal.node-returns
node-returns g t c =
    let more : c.args.levels ≡ suc (c.args.levels - 1) = omega arith in
    rows.leaf_at (g.W.Words.home c.args.words.now) c.args.levels (c.args.levels - 1) more (left c.args.self.now) _ _
    (refused c.is_at_mark.result (HeadIs (AMark (codes "{")) (left c.args.self.now)) c.is_at_mark.ensures c.if-is_at_mark.false)
    (refused c.is_at_mark-2.result (HeadIs (AMark (codes "[")) (left c.args.self.now)) c.is_at_mark-2.ensures c.if-is_at_mark-2.false)
    (search rules)

pub object-returns-in-Err : goal.object-returns-in-Err
object-returns-in-Err g t c =
    rows.object_open (g.W.Words.home c.args.words.now) c.args.levels (left c.args.self.now) (left c.mark.new.self) c.in-Err.stop
    c.in-Err.ensures

pub object-returns-in-Err-pairs : goal.object-returns-in-Err-pairs
object-returns-in-Err-pairs g t c =
    rows.object_within (g.W.Words.home c.args.words.now) c.args.levels (left c.args.self.now) (left c.mark.new.self) (left c.pairs.new.self)
    c.in-Err-pairs.stop c.in-Ok.ensures c.in-Err-pairs.ensures

pub object-returns-in-Err-mark : goal.object-returns-in-Err-mark
object-returns-in-Err-mark g t c =
    rows.object_close (g.W.Words.home c.args.words.now) c.args.levels _ (left c.args.self.now) (left c.mark.new.self)
    (left c.pairs.new.self) _
    c.in-Err-mark.stop c.in-Ok.ensures c.in-Ok-pairs.ensures c.in-Err-mark.ensures

pub pair-returns-in-Err-clause-reads : goal.pair-returns-in-Err-clause-reads
pair-returns-in-Err-clause-reads g t c = λ before seen.
    stops_at_key (node (g.W.Words.home c.args.words.now) c.args.levels) before (left c.args.self.now) (left c.key.new.self) c.in-Err.stop
    (c.in-Err.ensures.reads (pair_names before) seen)

pub pair-returns-in-Err-mark-clause-reads : goal.pair-returns-in-Err-mark-clause-reads
pair-returns-in-Err-mark-clause-reads g t c = λ before seen.
    stops_at_colon (node (g.W.Words.home c.args.words.now) c.args.levels) before c.in-Ok.key (left c.args.self.now) (left c.key.new.self)
    (left c.mark.new.self) c.in-Err-mark.stop (c.in-Ok.ensures.reads (pair_names before) seen) c.in-Err-mark.ensures

pub pair-returns-in-Ok-node-clause-reads : goal.pair-returns-in-Ok-node-clause-reads
pair-returns-in-Ok-node-clause-reads g t c = λ before seen.
    rows.pair_read (g.W.Words.home c.args.words.now) c.args.levels before c.in-Ok.key (raw_view c.in-Ok-node.node) (left c.args.self.now)
    (left c.key.new.self) (left c.mark.new.self) (left c.node.new.self) (c.in-Ok.ensures.reads (pair_names before) seen)
    c.in-Ok-mark.ensures c.in-Ok-node.ensures

pub pair-returns-in-Err-node-clause-reads : goal.pair-returns-in-Err-node-clause-reads
pair-returns-in-Err-node-clause-reads g t c = λ before seen.
    stops_at_value (node (g.W.Words.home c.args.words.now) c.args.levels) before c.in-Ok.key (left c.args.self.now) (left c.key.new.self)
    (left c.mark.new.self) (left c.node.new.self) c.in-Err-node.stop (c.in-Ok.ensures.reads (pair_names before) seen)
    c.in-Ok-mark.ensures c.in-Err-node.ensures

pub pairs-loop-alloc-init : goal.pairs-loop-alloc-init
pairs-loop-alloc-init g t c = record {
  row = rows.pairs_none (g.W.Words.home c.args.words.now) c.args.levels c.new-pairs.result.items (left c.args.self.now)
      c.new-pairs.ensures.items;
  seen = subst (λ l. Remembers c.new-seen.result (pair_names (raw_members_view l))) (sym c.new-pairs.ensures.items)
      (none_seen c.new-seen.result (search rules));
}

pub pairs-loop-alloc-smaller : goal.pairs-loop-alloc-smaller
pairs-loop-alloc-smaller g t c =
    let before = raw_members_view c.loop-alloc.pairs.items in
    rows.pairs_fewer (g.W.Words.home c.args.words.now) c.args.levels before (raw_pair c.in-Ok.pair) (left c.loop-alloc.self)
    (left c.pair.new.self) (c.in-Ok.ensures.reads before c.loop-alloc.invariant.seen)

pub pairs-loop-alloc-preserved : goal.pairs-loop-alloc-preserved
pairs-loop-alloc-preserved g t c =
    let before = raw_members_view c.loop-alloc.pairs.items in
    record {
      row = rows.pairs_more (g.W.Words.home c.args.words.now) c.args.levels c.loop-alloc.pairs.items c.push.new.self.items c.in-Ok.pair
          (left c.args.self.now) (left c.loop-alloc.self) (left c.pair.new.self) c.in-Ok-push.ensures.items c.loop-alloc.invariant.row
          (c.in-Ok.ensures.reads before c.loop-alloc.invariant.seen);
      seen = rows.pairs_seen (g.W.Words.home c.args.words.now) c.args.levels c.pair.new.seen c.loop-alloc.pairs.items c.push.new.self.items
          c.in-Ok.pair c.in-Ok-push.ensures.items (c.in-Ok.ensures.seen before c.loop-alloc.invariant.seen);
    }

pub pairs-returns-in-Err : goal.pairs-returns-in-Err
pairs-returns-in-Err g t c =
    let before = raw_members_view c.loop-alloc.pairs.items in
    rows.pairs_stop (g.W.Words.home c.args.words.now) c.args.levels before (left c.args.self.now) (left c.loop-alloc.self)
    (left c.pair.new.self) c.in-Err.stop c.loop-alloc.invariant.row (c.is_at_leaf.ensures.0 c.loop-alloc-test.true)
    (c.in-Err.ensures.reads before c.loop-alloc.invariant.seen)

pub pairs-returns : goal.pairs-returns
pairs-returns g t c =
    rows.pairs_read (g.W.Words.home c.args.words.now) c.args.levels (raw_members_view c.loop-alloc.pairs.items) (left c.args.self.now)
    (left c.loop-alloc.self) c.loop-alloc.invariant.row
    (refused c.is_at_leaf.result (HeadIs NoMark (left c.loop-alloc.self)) c.is_at_leaf.ensures c.loop-alloc-test.false)
