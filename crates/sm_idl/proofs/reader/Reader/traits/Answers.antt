use Rattle.sm_model.specs.SaidView.{trait_view}
use Rattle.sm_idl.specs.steps.Firm.{HeadIs}
use Rattle.sm_idl.specs.steps.Classes.{At}
use Rattle.sm_idl.specs.steps.HomeView.{home_of_file}
use Rattle.sm_idl.specs.steps.ReaderView.{left}
use Rattle.sm_idl.proofs.NodeRows.{refused}
use Rattle.sm_idl.proofs.TraitRows.{traits_none, traits_more, traits_fewer, traits_read, traits_stop}
use Rattle.sm_idl.proofs.reader.Reader.traits.Goals as goal

pub loop-alloc-init : goal.loop-alloc-init
loop-alloc-init c = traits_none (home_of_file c.args.home.now) c.args.traits.now.items (left c.args.self.now)

pub loop-alloc-smaller : goal.loop-alloc-smaller
loop-alloc-smaller c =
    traits_fewer (home_of_file c.args.home.now) (trait_view c.in-Ok.applied) (left c.loop-alloc.self) (left c.applied.new.self)
    c.in-Ok.ensures

pub loop-alloc-preserved : goal.loop-alloc-preserved
loop-alloc-preserved c =
    traits_more (home_of_file c.args.home.now) c.args.traits.now.items c.loop-alloc.traits.items c.push.new.self.items c.in-Ok.applied
    (left c.args.self.now) (left c.loop-alloc.self) (left c.applied.new.self) c.in-Ok-push.ensures.items c.loop-alloc.invariant
    c.in-Ok.ensures

pub returns-in-Err : goal.returns-in-Err
returns-in-Err c =
    traits_stop (home_of_file c.args.home.now) c.args.traits.now.items c.loop-alloc.traits.items (left c.args.self.now)
    (left c.loop-alloc.self) (left c.applied.new.self) c.in-Err.stop c.loop-alloc.invariant
    (c.is_at_mark.ensures.0 c.loop-alloc-test.true) c.in-Err.ensures

pub returns : goal.returns
returns c =
    traits_read (home_of_file c.args.home.now) c.args.traits.now.items c.loop-alloc.traits.items (left c.args.self.now)
    (left c.loop-alloc.self) c.loop-alloc.invariant
    (refused c.is_at_mark.result (HeadIs At (left c.loop-alloc.self)) c.is_at_mark.ensures c.loop-alloc-test.false)
