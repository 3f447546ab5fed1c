use Rattle.std.proofs.Common.{arith, sym, subst}
use Rattle.std.specs.Io.KnownBytes.{prepend_known}
use Rattle.sm_io.proofs.Told.{loses_none, loses_both}
use Rattle.sm_http.specs.steps.Passing.{GoesTo}
use Rattle.sm_http.proofs.ReadingPieces.{begins_empty, refused_behind, whole_body, more_body}
use Rattle.sm_http.proofs.read.read_body.Goals as goal

pub loop-count-init : goal.loop-count-init
loop-count-init g c =
    let ahead = prepend_known c.args.held.now (g.S.Source.left c.args.source.now) in
    record {
      goes = subst (λ s. GoesTo c.args.begun c.args.begun ahead ahead s) (sym c.new-body.ensures.items)
          (begins_empty c.args.begun ahead c.requires);
      taken = loses_none (g.S.Source.left c.args.source.now);
      faults = omega arith;
    }

pub next_piece-requires : goal.next_piece-requires
next_piece-requires g c = c.loop-count.invariant.goes.within

pub returns-in-Err-clause-bytes : goal.returns-in-Err-clause-bytes
returns-in-Err-clause-bytes g c =
    refused_behind c.args.begun c.loop-count.left (prepend_known c.args.held.now (g.S.Source.left c.args.source.now))
    (prepend_known c.loop-count.held (g.S.Source.left c.loop-count.source))
    (g.S.Source.left c.next_piece.new.source) c.loop-count.body.items c.in-Err.refusal c.loop-count.invariant.goes c.in-Err.ensures.bytes

pub returns-then-count-eq0-clause-bytes : goal.returns-then-count-eq0-clause-bytes
returns-then-count-eq0-clause-bytes g c =
    whole_body c.args.begun c.loop-count.left c.next_piece.new.left (prepend_known c.args.held.now (g.S.Source.left c.args.source.now))
    (prepend_known c.loop-count.held (g.S.Source.left c.loop-count.source))
    (prepend_known c.next_piece.new.held (g.S.Source.left c.next_piece.new.source)) c.loop-count.body.items c.next_piece.new.buf
    c.in-Ok.count c.if-count-eq0.true c.loop-count.invariant.goes
    c.in-Ok.ensures.bytes

pub loop-count-preserved : goal.loop-count-preserved
loop-count-preserved g c = record {
  goes = more_body c.args.begun c.loop-count.left c.next_piece.new.left
      (prepend_known c.args.held.now (g.S.Source.left c.args.source.now))
      (prepend_known c.loop-count.held (g.S.Source.left c.loop-count.source))
      (prepend_known c.next_piece.new.held (g.S.Source.left c.next_piece.new.source)) c.loop-count.body.items
      c.extend_from_slice.new.self.items c.next_piece.new.buf c.in-Ok.count
      c.in-Ok-extend_from_slice.ensures.items c.loop-count.invariant.goes c.in-Ok.ensures.bytes;
  taken = loses_both _ _ _ c.loop-count.invariant.taken c.in-Ok.ensures.taken;
  faults = omega (arith, c.loop-count.invariant.faults, c.in-Ok.ensures.later);
}

pub returns-in-Err-clause-taken : goal.returns-in-Err-clause-taken
returns-in-Err-clause-taken g c = loses_both _ _ _ c.loop-count.invariant.taken c.in-Err.ensures.taken

pub returns-then-count-eq0-clause-taken : goal.returns-then-count-eq0-clause-taken
returns-then-count-eq0-clause-taken g c = loses_both _ _ _ c.loop-count.invariant.taken c.in-Ok.ensures.taken

pub returns-in-Err-extend_from_slice-clause-taken : goal.returns-in-Err-extend_from_slice-clause-taken
returns-in-Err-extend_from_slice-clause-taken g c = loses_both _ _ _ c.loop-count.invariant.taken c.in-Ok.ensures.taken
