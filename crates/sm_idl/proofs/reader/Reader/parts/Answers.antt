use Rattle.sm_idl.specs.steps.ReaderView.{left}
use Rattle.sm_idl.specs.steps.HomeView.{home_of_file}
use Rattle.sm_idl.specs.steps.Firm.{HeadIs}
use Rattle.sm_idl.proofs.NodeRows.{refused}
use Rattle.std.proofs.Common.{[], rules}
use Rattle.sm_idl.specs.steps.PartSteps.{part_view, suffixes_view}
use Rattle.sm_idl.specs.steps.Classes.{AnyWord}
use Rattle.sm_idl.proofs.NodeRows.{none_seen}
use Rattle.sm_idl.proofs.ReadParts.{parts_none, parts_more, parts_fewer, parts_read, parts_stop}
use Rattle.std.proofs.Common.{◌++◌, ◌∷◌}
use Rattle.sm_idl.proofs.reader.Reader.parts.Goals as goal

pub loop-alloc-init : goal.loop-alloc-init
loop-alloc-init c = (
  [],
  parts_none (home_of_file c.args.home.now) (suffixes_view c.args.endings.now) c.args.operation.now c.new-pairs.result.items
      c.new-defined.result.items (left c.args.self.now) c.new-pairs.ensures.items c.new-defined.ensures.items,
  none_seen c.new-seen.result
      (search rules),
)

pub loop-alloc-smaller : goal.loop-alloc-smaller
loop-alloc-smaller c =
    parts_fewer (home_of_file c.args.home.now) (suffixes_view c.args.endings.now) c.args.operation.now c.loop-alloc.invariant.0
    (part_view c.in-Ok.part) (left c.loop-alloc.self) (left c.part.new.self)
    (c.in-Ok.ensures.reads c.loop-alloc.invariant.0 c.loop-alloc.invariant.2)

pub loop-alloc-preserved : goal.loop-alloc-preserved
loop-alloc-preserved c = (
  c.loop-alloc.invariant.0 ++ part_view c.in-Ok.part ∷ [],
  parts_more (home_of_file c.args.home.now)
      (suffixes_view c.args.endings.now) c.args.operation.now c.loop-alloc.invariant.0 c.in-Ok.part c.loop-alloc.pairs.items
      c.put_part.new.pairs.items c.loop-alloc.defined.items c.put_part.new.defined.items (left c.args.self.now) (left c.loop-alloc.self)
      (left c.part.new.self) c.in-Ok-put_part.ensures.pairs c.in-Ok-put_part.ensures.defined c.loop-alloc.invariant.1
      (c.in-Ok.ensures.reads c.loop-alloc.invariant.0 c.loop-alloc.invariant.2),
  c.in-Ok.ensures.seen c.loop-alloc.invariant.0
      c.loop-alloc.invariant.2,
)

pub returns-in-Err : goal.returns-in-Err
returns-in-Err c =
    parts_stop (home_of_file c.args.home.now) (suffixes_view c.args.endings.now) c.args.operation.now c.loop-alloc.invariant.0
    c.loop-alloc.pairs.items c.loop-alloc.defined.items (left c.args.self.now) (left c.loop-alloc.self) (left c.part.new.self)
    c.in-Err.stop c.loop-alloc.invariant.1 (c.is_at_any_word.ensures.0 c.loop-alloc-test.true)
    (c.in-Err.ensures.reads c.loop-alloc.invariant.0 c.loop-alloc.invariant.2)

pub returns : goal.returns
returns c =
    parts_read (home_of_file c.args.home.now) (suffixes_view c.args.endings.now) c.args.operation.now c.loop-alloc.invariant.0
    c.loop-alloc.pairs.items c.loop-alloc.defined.items (left c.args.self.now) (left c.loop-alloc.self) c.loop-alloc.invariant.1
    (refused c.is_at_any_word.result (HeadIs AnyWord (left c.loop-alloc.self)) c.is_at_any_word.ensures c.loop-alloc-test.false)
