use Rattle.sm_idl.specs.steps.ReaderView.{left}
use Rattle.sm_idl.specs.steps.Firm.{HeadIs}
use Rattle.sm_idl.proofs.NodeRows.{refused}
use Rattle.std.proofs.Common.{sym, subst, map, rules}
use Rattle.sm_idl.specs.steps.Names.{Remembers}
use Rattle.sm_idl.specs.Productions.{each}
use Rattle.sm_idl.specs.Nodes.{pair_names}
use Rattle.sm_idl.specs.steps.ReaderView.{raw_pair}
use Rattle.sm_idl.specs.steps.FileClasses.{Metadata}
use Rattle.sm_idl.proofs.NodeRows.{none_seen}
use Rattle.sm_idl.proofs.Passing.{read_whole}
use Rattle.sm_idl.proofs.ViewedRows.{viewed_none, viewed_more, viewed_fewer, viewed_read, viewed_stop, more_seen}
use Rattle.sm_idl.specs.Idl.{metadata}
use Rattle.sm_idl.proofs.FirmFiles.{metadata_firm}
use Rattle.sm_idl.proofs.reader.Reader.all_metadata.Goals as goal

pub loop-alloc-init : goal.loop-alloc-init
loop-alloc-init g c = record {
  row = viewed_none Metadata (metadata (g.W.Words.home c.args.words.now)) (metadata_firm (g.W.Words.home c.args.words.now)) raw_pair
      c.new-pairs.result.items (left c.args.self.now) c.new-pairs.ensures.items;
  seen = subst (λ l. Remembers c.new-seen.result (pair_names (map raw_pair l))) (sym c.new-pairs.ensures.items)
      (none_seen c.new-seen.result (search rules));
}

pub loop-alloc-smaller : goal.loop-alloc-smaller
loop-alloc-smaller g c =
    viewed_fewer Metadata (metadata (g.W.Words.home c.args.words.now)) (metadata_firm (g.W.Words.home c.args.words.now)) raw_pair
    (map raw_pair c.loop-alloc.pairs.items) c.in-Ok.pair (left c.loop-alloc.self) (left c.metadata.new.self)
    (c.in-Ok.ensures.reads (map raw_pair c.loop-alloc.pairs.items) c.loop-alloc.invariant.seen)

pub loop-alloc-preserved : goal.loop-alloc-preserved
loop-alloc-preserved g c = record {
  row = viewed_more Metadata (metadata (g.W.Words.home c.args.words.now)) (metadata_firm (g.W.Words.home c.args.words.now)) raw_pair
      c.loop-alloc.pairs.items c.push.new.self.items c.in-Ok.pair (left c.args.self.now) (left c.loop-alloc.self)
      (left c.metadata.new.self) c.in-Ok-push.ensures.items c.loop-alloc.invariant.row
      (c.in-Ok.ensures.reads (map raw_pair c.loop-alloc.pairs.items) c.loop-alloc.invariant.seen);
  seen = more_seen raw_pair pair_names c.metadata.new.seen c.loop-alloc.pairs.items c.push.new.self.items c.in-Ok.pair
      c.in-Ok-push.ensures.items (c.in-Ok.ensures.seen (map raw_pair c.loop-alloc.pairs.items) c.loop-alloc.invariant.seen);
}

pub returns-in-Err : goal.returns-in-Err
returns-in-Err g c =
    viewed_stop Metadata (metadata (g.W.Words.home c.args.words.now)) (metadata_firm (g.W.Words.home c.args.words.now)) raw_pair
    c.loop-alloc.pairs.items (left c.args.self.now) (left c.loop-alloc.self) (left c.metadata.new.self) c.in-Err.stop
    c.loop-alloc.invariant.row (c.is_at_word.ensures.0 c.loop-alloc-test.true)
    (c.in-Err.ensures.reads (map raw_pair c.loop-alloc.pairs.items) c.loop-alloc.invariant.seen)

pub returns : goal.returns
returns g c = let none : HeadIs Metadata (left c.loop-alloc.self) → ⊥ =
    (refused c.is_at_word.result (HeadIs Metadata (left c.loop-alloc.self)) c.is_at_word.ensures c.loop-alloc-test.false) in (
      read_whole (each (metadata (g.W.Words.home c.args.words.now))) (map raw_pair c.loop-alloc.pairs.items) (left c.args.self.now)
          (left c.loop-alloc.self) (viewed_read Metadata (metadata (g.W.Words.home c.args.words.now))
          (metadata_firm (g.W.Words.home c.args.words.now)) raw_pair c.loop-alloc.pairs.items (left c.args.self.now)
          (left c.loop-alloc.self)
          c.loop-alloc.invariant.row none),
      none,
    )
