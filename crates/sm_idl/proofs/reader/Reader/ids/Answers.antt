use Rattle.sm_idl.specs.steps.Firm.{HeadIs}
use Rattle.sm_idl.specs.steps.Classes.{AnyWord}
use Rattle.sm_idl.specs.steps.HomeView.{home_of_file}
use Rattle.sm_idl.specs.steps.ReaderView.{left}
use Rattle.sm_idl.proofs.NodeRows.{refused}
use Rattle.sm_idl.proofs.TraitRows.{ids_none, ids_more, ids_fewer, ids_read, ids_stop}
use Rattle.sm_idl.proofs.reader.Reader.ids.Goals as goal

pub loop-alloc-init : goal.loop-alloc-init
loop-alloc-init c = ids_none (home_of_file c.args.home.now) c.new-ids.result.items (left c.args.self.now) c.new-ids.ensures.items

pub loop-alloc-smaller : goal.loop-alloc-smaller
loop-alloc-smaller c =
    ids_fewer (home_of_file c.args.home.now) c.in-Ok.word.now (left c.loop-alloc.self) (left c.id.new.self) c.in-Ok.ensures

pub loop-alloc-preserved : goal.loop-alloc-preserved
loop-alloc-preserved c =
    ids_more (home_of_file c.args.home.now) c.loop-alloc.ids.items c.push.new.self.items c.in-Ok.word.now c.in-Ok-reference.id
    (left c.args.self.now) (left c.loop-alloc.self) (left c.id.new.self) c.in-Ok-push.ensures.items c.in-Ok-reference.ensures
    c.loop-alloc.invariant c.in-Ok.ensures

pub returns-in-Err : goal.returns-in-Err
returns-in-Err c =
    ids_stop (home_of_file c.args.home.now) c.loop-alloc.ids.items (left c.args.self.now) (left c.loop-alloc.self) (left c.id.new.self)
    c.in-Err.stop c.loop-alloc.invariant (c.is_at_any_word.ensures.0 c.loop-alloc-test.true) c.in-Err.ensures

pub returns : goal.returns
returns c =
    ids_read (home_of_file c.args.home.now) c.loop-alloc.ids.items (left c.args.self.now) (left c.loop-alloc.self) c.loop-alloc.invariant
    (refused c.is_at_any_word.result (HeadIs AnyWord (left c.loop-alloc.self)) c.is_at_any_word.ensures c.loop-alloc-test.false)
