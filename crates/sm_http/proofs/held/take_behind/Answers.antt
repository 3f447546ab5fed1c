use Rattle.std.proofs.Common.{◌-◌, arith}
use Rattle.sm_http.proofs.Rooms.{room_filled}
use Rattle.sm_http.proofs.held.take_behind.Goals as goal

pub returns-clause-bytes : goal.returns-clause-bytes
returns-clause-bytes g c =
    room_filled (g.S.Source.left c.args.source.now) (g.S.Source.left c.take.new.self) c.args.used
    (c.min-end.result - c.args.used) c.args.room.now c.take.new.buf
    c.take.result (omega (arith, c.requires)) c.take.ensures.bound c.take.ensures.bytes
