use Rattle.sm_idl.specs.steps.ReaderView.{left}
use Rattle.sm_idl.specs.steps.Firm.{HeadIs}
use Rattle.sm_idl.proofs.NodeRows.{refused}
use Rattle.sm_idl.specs.steps.FileClasses.{Use}
use Rattle.sm_idl.proofs.ReadBeginning.{used_word, uses_none, uses_more, uses_fewer, uses_read, uses_stopped}
use Rattle.sm_idl.proofs.reader.Reader.uses.Goals as goal

pub loop-alloc-init : goal.loop-alloc-init
loop-alloc-init c = uses_none c.new-uses.result.items (left c.args.self.now) c.new-uses.ensures.items

pub loop-alloc-smaller : goal.loop-alloc-smaller
loop-alloc-smaller c = uses_fewer c.in-Ok.word.now (left c.loop-alloc.self) (left c.used.new.self) c.in-Ok.ensures

pub loop-alloc-preserved : goal.loop-alloc-preserved
loop-alloc-preserved c =
    uses_more c.loop-alloc.uses.items c.put_used.new.uses.items c.in-Ok.word.now (left c.args.self.now) (left c.loop-alloc.self)
    (left c.used.new.self) (c.in-Ok-put_used.ensures (used_word c.in-Ok.word.now (left c.loop-alloc.self) (left c.used.new.self)
    c.in-Ok.ensures)) c.loop-alloc.invariant c.in-Ok.ensures

pub returns-in-Err : goal.returns-in-Err
returns-in-Err c =
    uses_stopped c.loop-alloc.uses.items (left c.args.self.now) (left c.loop-alloc.self) (left c.used.new.self) c.in-Err.stop
    c.loop-alloc.invariant (c.is_at_word.ensures.0 c.loop-alloc-test.true) c.in-Err.ensures

pub returns : goal.returns
returns c =
    uses_read c.loop-alloc.uses.items (left c.args.self.now) (left c.loop-alloc.self) c.loop-alloc.invariant
    (refused c.is_at_word.result (HeadIs Use (left c.loop-alloc.self)) c.is_at_word.ensures c.loop-alloc-test.false)
