use Rattle.std.proofs.Common.{◌≡◌, ap, take, arith}
use Rattle.std.specs.Io.KnownBytes.{prepend_known}
use Rattle.sm_io.proofs.Told.{loses_none, loses_both}
use Rattle.sm_session.proofs.BodiesFed.{begins_feeding, feeds_on, feeds_whole, has_read_on, refused_feeding}
use Rattle.sm_session.proofs.taking.feed_rest.Goals as goal

pub loop-count-init : goal.loop-count-init
loop-count-init g c = record {
  feeding = begins_feeding (g.R.Responder.reads c.args.responder.now c.args.body) c.args.left.now
      (prepend_known c.args.held.now (g.S.Source.left c.args.source.now)) (take c.args.first c.args.buf.now);
  within = c.requires.within;
  few = c.requires.few;
  done = c.requires.done;
  begun = c.requires.begun;
  stands = c.requires.stands;
  alike = g.met.R.Responder.alike_itself c.args.responder.now c.args.store.now;
  taken = loses_none (g.S.Source.left c.args.source.now);
  faults = omega arith;
}

pub returns-in-Err-read_piece-clause-bytes : goal.returns-in-Err-read_piece-clause-bytes
returns-in-Err-read_piece-clause-bytes g c =
    refused_feeding (g.R.Responder.reads c.args.responder.now c.args.body) (g.R.Responder.reads c.args.responder.now c.loop-count.body)
    c.args.left.now c.loop-count.left (prepend_known c.args.held.now (g.S.Source.left c.args.source.now))
    (prepend_known c.loop-count.held (g.S.Source.left c.loop-count.source)) (g.S.Source.left c.read_piece.new.source)
    (take c.args.first c.args.buf.now) (take c.loop-count.count c.loop-count.buf) c.in-Err-read_piece.refusal
    c.loop-count.invariant.feeding c.in-Err-read_piece.ensures.bytes

pub returns-in-Err-read_piece-clause-taken : goal.returns-in-Err-read_piece-clause-taken
returns-in-Err-read_piece-clause-taken g c =
    loses_both (g.S.Source.left c.args.source.now) (g.S.Source.left c.loop-count.source) (g.S.Source.left c.read_piece.new.source)
    c.loop-count.invariant.taken c.in-Err-read_piece.ensures.taken

pub loop-count-preserved : goal.loop-count-preserved
loop-count-preserved g c = record {
  feeding = feeds_on (g.R.Responder.reads c.args.responder.now c.args.body) (g.R.Responder.reads c.args.responder.now c.loop-count.body)
      (g.R.Responder.reads c.args.responder.now c.piece.new.body) c.args.left.now c.loop-count.left c.read_piece.new.left
      (prepend_known c.args.held.now (g.S.Source.left c.args.source.now))
      (prepend_known c.loop-count.held (g.S.Source.left c.loop-count.source))
      (prepend_known c.read_piece.new.held (g.S.Source.left c.read_piece.new.source)) (take c.args.first c.args.buf.now)
      (take c.loop-count.count c.loop-count.buf) c.read_piece.new.buf c.in-Ok-read_piece.count c.loop-count.invariant.feeding
      c.in-Ok.ensures.reads c.in-Ok-read_piece.ensures.bytes.2;
  within = c.in-Ok-read_piece.ensures.within;
  few = c.in-Ok-read_piece.ensures.bytes.0;
  done = c.in-Ok-read_piece.ensures.bytes.1;
  begun = has_read_on (g.R.Responder.reads c.args.responder.now c.loop-count.body)
      (g.R.Responder.reads c.args.responder.now c.piece.new.body) (take c.loop-count.count c.loop-count.buf) c.in-Ok.ensures.reads
      c.loop-count.invariant.begun;
  stands = g.met.R.Responder.alike_stands c.args.responder.now c.loop-count.store c.piece.new.store c.piece.ensures.alike
      c.loop-count.invariant.stands;
  alike = g.met.R.Responder.alike_then c.args.responder.now c.args.store.now c.loop-count.store c.piece.new.store
      c.loop-count.invariant.alike c.piece.ensures.alike;
  taken = loses_both (g.S.Source.left c.args.source.now) (g.S.Source.left c.loop-count.source) (g.S.Source.left c.read_piece.new.source)
      c.loop-count.invariant.taken c.in-Ok-read_piece.ensures.taken;
  faults = omega (arith, c.loop-count.invariant.faults, c.in-Ok-read_piece.ensures.later);
}

pub returns-clause-bytes : goal.returns-clause-bytes
returns-clause-bytes g c =
    let none : c.loop-count.count ≡ 0 = omega (arith, c.loop-count-test.false) in
    feeds_whole (g.R.Responder.reads c.args.responder.now c.args.body) (g.R.Responder.reads c.args.responder.now c.loop-count.body)
    c.args.left.now c.loop-count.left (prepend_known c.args.held.now (g.S.Source.left c.args.source.now))
    (prepend_known c.loop-count.held (g.S.Source.left c.loop-count.source)) (take c.args.first c.args.buf.now)
    (take c.loop-count.count c.loop-count.buf) c.loop-count.invariant.feeding
    (ap (λ n. take n c.loop-count.buf) none) (c.loop-count.invariant.done none)
