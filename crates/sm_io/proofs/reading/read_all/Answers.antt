use Rattle.std.proofs.Common.{◌++◌, ◌<◌, length, take, arith, length-append, length-take}
use Rattle.std.specs.Io.KnownBytes.{Consumes}
use Rattle.sm_io.proofs.Told.{consumes_both, longer_than_lost}
use Rattle.sm_io.proofs.reading.read_all.Goals as goal

pub returns-then-limit-len-clause-bytes : goal.returns-then-limit-len-clause-bytes
returns-then-limit-len-clause-bytes g c =
    let next = take c.in-Ok.count c.take.new.buf in
    let lost : Consumes (g.S.Source.left c.args.source.now) (g.S.Source.left c.take.new.self) (c.loop-bytes.bytes.items ++ next) =
    consumes_both _ _ _ _ _ c.loop-bytes.invariant.lost c.in-Ok.ensures.bytes.0 in
    let longer : c.args.limit < length (c.loop-bytes.bytes.items ++ next) =
    omega (arith, length-append c.loop-bytes.bytes.items next, length-take c.in-Ok.count c.take.new.buf, c.in-Ok.ensures.bound) in
    (longer_than_lost _ _ _ _ lost longer, (c.loop-bytes.bytes.items ++ next, lost))

pub returns-in-Err-extend_from_slice-clause-bytes : goal.returns-in-Err-extend_from_slice-clause-bytes
returns-in-Err-extend_from_slice-clause-bytes g c = (_, consumes_both _ _ _ _ _ c.loop-bytes.invariant.lost c.in-Ok.ensures.bytes.0)
