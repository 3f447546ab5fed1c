use Rattle.sm_idl.specs.steps.ReaderView.{left}
use Rattle.sm_idl.specs.steps.HomeView.{home_of_file}
use Rattle.sm_idl.specs.steps.Firm.{HeadIs}
use Rattle.sm_idl.proofs.NodeRows.{refused}
use Rattle.sm_idl.proofs.ViewedRows.{viewed_none, viewed_more, viewed_fewer, viewed_read, viewed_stop}
use Rattle.std.proofs.Common.{map}
use Rattle.sm_model.specs.RawView.{raw_view}
use Rattle.sm_idl.specs.Bodies.{reference}
use Rattle.sm_idl.specs.steps.Classes.{AnyWord}
use Rattle.sm_idl.proofs.FirmBodies.{reference_firm}
use Rattle.sm_idl.proofs.reader.Reader.reference_items.Goals as goal

pub loop-alloc-init : goal.loop-alloc-init
loop-alloc-init c =
    viewed_none AnyWord (λ _. reference (home_of_file c.args.home.now)) (λ _. reference_firm (home_of_file c.args.home.now)) raw_view
    c.new-items.result.items (left c.args.self.now) c.new-items.ensures.items

pub loop-alloc-smaller : goal.loop-alloc-smaller
loop-alloc-smaller c =
    viewed_fewer AnyWord (λ _. reference (home_of_file c.args.home.now)) (λ _. reference_firm (home_of_file c.args.home.now)) raw_view
    (map raw_view c.loop-alloc.items.items) c.in-Ok.node (left c.loop-alloc.self) (left c.reference.new.self) c.in-Ok.ensures

pub loop-alloc-preserved : goal.loop-alloc-preserved
loop-alloc-preserved c =
    viewed_more AnyWord (λ _. reference (home_of_file c.args.home.now)) (λ _. reference_firm (home_of_file c.args.home.now)) raw_view
    c.loop-alloc.items.items c.push.new.self.items c.in-Ok.node (left c.args.self.now) (left c.loop-alloc.self)
    (left c.reference.new.self) c.in-Ok-push.ensures.items c.loop-alloc.invariant c.in-Ok.ensures

pub returns-in-Err : goal.returns-in-Err
returns-in-Err c =
    viewed_stop AnyWord (λ _. reference (home_of_file c.args.home.now)) (λ _. reference_firm (home_of_file c.args.home.now)) raw_view
    c.loop-alloc.items.items (left c.args.self.now) (left c.loop-alloc.self) (left c.reference.new.self) c.in-Err.stop
    c.loop-alloc.invariant (c.is_at_any_word.ensures.0 c.loop-alloc-test.true) c.in-Err.ensures

pub returns : goal.returns
returns c =
    viewed_read AnyWord (λ _. reference (home_of_file c.args.home.now)) (λ _. reference_firm (home_of_file c.args.home.now)) raw_view
    c.loop-alloc.items.items (left c.args.self.now) (left c.loop-alloc.self) c.loop-alloc.invariant
    (refused c.is_at_any_word.result (HeadIs AnyWord (left c.loop-alloc.self)) c.is_at_any_word.ensures c.loop-alloc-test.false)
