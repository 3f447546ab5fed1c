use Rattle.std.proofs.Common.{arith}
use Rattle.std.specs.Io.KnownBytes.{prepend_known}
use Rattle.sm_io.proofs.Told.{loses_both}
use Rattle.sm_session.proofs.BodiesRead.{reply_read}
use Rattle.sm_session.proofs.taking.read_reply.Goals as goal

pub returns-clause-bytes : goal.returns-clause-bytes
returns-clause-bytes g c =
    reply_read (g.R.Responder.reads c.args.responder.now) c.in-Ok-begin_reply.body
    (g.R.Responder.calls c.args.responder.now c.args.call) c.args.head.now c.args.begun c.read_piece.new.left
    (prepend_known c.args.held.now (g.S.Source.left c.args.source.now))
    (prepend_known c.read_piece.new.held (g.S.Source.left c.read_piece.new.source))
    (prepend_known c.feed_rest.new.held (g.S.Source.left c.feed_rest.new.source)) (g.S.Source.left c.feed_rest.new.source)
    c.read_piece.new.buf c.in-Ok.count c.feed_rest.result (omega (arith, c.read_piece.array_long)) c.in-Ok-begin_reply.ensures.reads
    c.in-Ok.ensures.bytes.1 c.in-Ok.ensures.bytes.2 c.feed_rest.ensures.bytes

pub returns-clause-taken : goal.returns-clause-taken
returns-clause-taken g c =
    loses_both (g.S.Source.left c.args.source.now) (g.S.Source.left c.read_piece.new.source) (g.S.Source.left c.feed_rest.new.source)
    c.in-Ok.ensures.taken c.feed_rest.ensures.taken

pub feed_rest-requires-clause-begun : goal.feed_rest-requires-clause-begun
feed_rest-requires-clause-begun g c = (_, _, c.in-Ok-begin_reply.ensures.reads c.requires.asked.0 c.requires.asked.1)
