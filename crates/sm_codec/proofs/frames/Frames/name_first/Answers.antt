use Rattle.std.proofs.Common.{◌-◌, set, refl}
use Rattle.sm_shapes.specs.TableView.{table_data}
use Rattle.sm_codec.specs.StackView.{frame_of, stack_of}
use Rattle.sm_codec.specs.steps.OpeningSteps.{FrameNames, FirstNames}
use Rattle.sm_codec.proofs.FirstTakes.{named_first}
use Rattle.sm_codec.proofs.StackTop.{lent_changed}
use Rattle.sm_codec.proofs.StructureOutcome.{known_by}
use Rattle.sm_codec.proofs.frames.Frames.name_first.Goals as goal

pub returns : goal.returns
returns g c =
    let t = table_data c.args.table.now in
    let l = g.L.Leaves.convention c.args.leaves.now in
    let name = c.args.name.now in
    let fs = c.args.self.now.frames.items in
    let x = c.in-Some.frame.now in
    let y = c.name.new.self in
    let gs = set fs (c.args.self.now.frames.len - 1) y in
    let top = lent_changed fs c.args.self.now.frames.len x y c.args.self.now.frames.ok.0
    (c.in-Some.ensures.variant.0 refl) c.in-Some.ensures.value in
    known_by (λ known. FrameNames t l name known (frame_of x) (frame_of y)) (λ known. FirstNames t l name known (stack_of fs) (stack_of gs))
    c.name.result (λ known named. named_first t l name known (stack_of fs) (stack_of gs) top.0 (frame_of x) (frame_of y) top.1 top.2 named)
    c.name.ensures
