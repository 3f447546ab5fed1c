use Rattle.std.proofs.Common.{◌≡◌, map, ap, arith}
use Rattle.std.proofs.lemmas.List.{drop_all}
use Rattle.sm_codec.specs.Bound.{total, frame_nodes, frames_nodes}
use Rattle.sm_codec.specs.StackView.{frame_of, stack_of}
use Rattle.sm_codec.proofs.Sums.{total_reversed}
use Rattle.sm_codec.proofs.counting.all_nodes.Goals as goal

pub returns : goal.returns
returns c =
    let done = ap (λ xs. total frame_nodes (map frame_of xs))
    (drop_all c.loop-frame.frame-index c.args.frames.now c.loop-frame-test.false) in
    let turned : frames_nodes (stack_of c.args.frames.now) ≡ total frame_nodes (map frame_of c.args.frames.now)
    = total_reversed frame_nodes (map frame_of c.args.frames.now) in
    omega (arith, done, turned, c.loop-frame.invariant.count, c.loop-frame.invariant.fits)
