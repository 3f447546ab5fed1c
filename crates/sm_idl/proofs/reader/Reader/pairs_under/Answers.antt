use Rattle.sm_idl.specs.steps.ReaderView.{left}
use Rattle.sm_idl.specs.steps.HomeView.{home_of_file}
use Rattle.sm_idl.specs.steps.Firm.{HeadIs}
use Rattle.sm_idl.proofs.NodeRows.{refused}
use Rattle.sm_idl.proofs.ViewedRows.{viewed_none, viewed_more, viewed_fewer, viewed_read, viewed_stop, more_seen}
use Rattle.std.proofs.Common.{sym, subst, map, rules}
use Rattle.sm_idl.specs.steps.Names.{Remembers}
use Rattle.sm_idl.specs.Nodes.{pair_names}
use Rattle.sm_idl.specs.steps.ReaderView.{raw_pair}
use Rattle.sm_idl.proofs.NodeRows.{none_seen}
use Rattle.sm_idl.specs.steps.Classes.{NoMark}
use Rattle.sm_idl.specs.steps.FieldSteps.{under}
use Rattle.sm_idl.proofs.ReadFields.{under_firm}
use Rattle.sm_idl.proofs.reader.Reader.pairs_under.Goals as goal

pub loop-alloc-init : goal.loop-alloc-init
loop-alloc-init c = record {
  row = viewed_none NoMark (under (home_of_file c.args.home.now) c.args.renames)
      (under_firm (home_of_file c.args.home.now) c.args.renames) raw_pair c.new-pairs.result.items (left c.args.self.now)
      c.new-pairs.ensures.items;
  seen = subst (λ l. Remembers c.new-seen.result (pair_names (map raw_pair l))) (sym c.new-pairs.ensures.items)
      (none_seen c.new-seen.result (search rules));
}

pub loop-alloc-smaller : goal.loop-alloc-smaller
loop-alloc-smaller c =
    viewed_fewer NoMark (under (home_of_file c.args.home.now) c.args.renames) (under_firm (home_of_file c.args.home.now) c.args.renames)
    raw_pair (map raw_pair c.loop-alloc.pairs.items) c.in-Ok.pair (left c.loop-alloc.self) (left c.pair_under.new.self)
    (c.in-Ok.ensures.reads (map raw_pair c.loop-alloc.pairs.items) c.loop-alloc.invariant.seen)

pub loop-alloc-preserved : goal.loop-alloc-preserved
loop-alloc-preserved c = record {
  row = viewed_more NoMark (under (home_of_file c.args.home.now) c.args.renames)
      (under_firm (home_of_file c.args.home.now) c.args.renames) raw_pair c.loop-alloc.pairs.items c.push.new.self.items c.in-Ok.pair
      (left c.args.self.now) (left c.loop-alloc.self) (left c.pair_under.new.self) c.in-Ok-push.ensures.items c.loop-alloc.invariant.row
      (c.in-Ok.ensures.reads (map raw_pair c.loop-alloc.pairs.items) c.loop-alloc.invariant.seen);
  seen = more_seen raw_pair pair_names c.pair_under.new.seen c.loop-alloc.pairs.items c.push.new.self.items c.in-Ok.pair
      c.in-Ok-push.ensures.items (c.in-Ok.ensures.seen (map raw_pair c.loop-alloc.pairs.items) c.loop-alloc.invariant.seen);
}

pub returns-in-Err : goal.returns-in-Err
returns-in-Err c =
    viewed_stop NoMark (under (home_of_file c.args.home.now) c.args.renames) (under_firm (home_of_file c.args.home.now) c.args.renames)
    raw_pair c.loop-alloc.pairs.items (left c.args.self.now) (left c.loop-alloc.self) (left c.pair_under.new.self) c.in-Err.stop
    c.loop-alloc.invariant.row (c.is_at_leaf.ensures.0 c.loop-alloc-test.true)
    (c.in-Err.ensures.reads (map raw_pair c.loop-alloc.pairs.items) c.loop-alloc.invariant.seen)

pub returns : goal.returns
returns c =
    viewed_read NoMark (under (home_of_file c.args.home.now) c.args.renames) (under_firm (home_of_file c.args.home.now) c.args.renames)
    raw_pair c.loop-alloc.pairs.items (left c.args.self.now) (left c.loop-alloc.self) c.loop-alloc.invariant.row
    (refused c.is_at_leaf.result (HeadIs NoMark (left c.loop-alloc.self)) c.is_at_leaf.ensures c.loop-alloc-test.false)
