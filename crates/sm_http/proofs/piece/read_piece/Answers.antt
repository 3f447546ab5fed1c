use Rattle.std.specs.Io.KnownBytes.{prepend_known}
use Rattle.sm_http.proofs.ReadingPieces.{piece_ahead}
use Rattle.sm_http.proofs.piece.read_piece.Goals as goal

pub returns-in-Ok-clause-bytes : goal.returns-in-Ok-clause-bytes
returns-in-Ok-clause-bytes g c =
    piece_ahead c.args.left.now c.next_piece.new.left (prepend_known c.args.held.now (g.S.Source.left c.args.source.now))
    (prepend_known c.next_piece.new.held (g.S.Source.left c.next_piece.new.source))
    (g.S.Source.left c.next_piece.new.source) c.next_piece.new.buf c.in-Ok.count c.in-Ok.ensures.bytes

pub returns-in-Ok-clause-within : goal.returns-in-Ok-clause-within
returns-in-Ok-clause-within g c = c.in-Ok.ensures.bytes.goes.within

pub returns-in-Ok-clause-room : goal.returns-in-Ok-clause-room
returns-in-Ok-clause-room g c = c.in-Ok.ensures.bytes.room
