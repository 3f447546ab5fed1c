use Rattle.std.proofs.Common.{arith}
use Rattle.sm_http.proofs.PlacesSeen.{size_chunk, size_past, size_part, size_never}
use Rattle.sm_http.proofs.place.see_chunk.Goals as goal

pub returns-then-size-sum : goal.returns-then-size-sum
returns-then-size-sum c =
    size_past c.args.sum c.args.bytes.now c.in-Whole.size c.in-Whole.len c.in-Whole.ensures (omega (arith, c.if-size-sum.true, c.requires))

pub returns-else-size-sum : goal.returns-else-size-sum
returns-else-size-sum c =
    size_chunk c.args.sum c.args.bytes.now c.in-Whole.size c.in-Whole.len c.in-Whole.ensures (omega (arith, c.if-size-eq0.false))
    (omega (arith, c.if-size-sum.false, c.requires))

pub returns-in-Part : goal.returns-in-Part
returns-in-Part c = size_part c.args.sum c.args.bytes.now c.in-Part.ensures.0 c.in-Part.ensures.1

pub returns-in-Never : goal.returns-in-Never
returns-in-Never c = size_never c.args.sum c.args.bytes.now c.in-Never.ensures
