use Rattle.std.proofs.Common.{ap, length, take, ◌∙◌, arith}
use Rattle.sm_http.proofs.ReadingPieces.{held_gives}
use Rattle.sm_http.proofs.piece.take_data.Goals as goal

pub returns-then-count-gt0-clause-bytes : goal.returns-then-count-gt0-clause-bytes
returns-then-count-gt0-clause-bytes g c =
    let few = c.min-count.ensures in
    let room = c.min-room.ensures in
    let held = ap length c.as_slice.ensures.bytes in
    held_gives c.args.most c.min-count.result (g.S.Source.left c.args.source.now) c.args.held.now c.advance.new.self
    c.copy_from_slice.new.self _
    (omega (arith, c.if-count-gt0.true)) (omega arith) (omega arith) (omega arith) c.advance.ensures
    (c.copy_from_slice.ensures.after ∙ ap (take c.min-count.result) c.as_slice-then-count-gt0.ensures.bytes)
