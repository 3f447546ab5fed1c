use Rattle.std.proofs.Common.{◌-◌, length, drop, arith, length-take, length-drop}
use Rattle.sm_io.proofs.Told.{appends_both}
use Rattle.sm_io.proofs.std_edges.write_whole.Goals as goal

pub loop-at-preserved : goal.loop-at-preserved
loop-at-preserved g c = record {
  within =
      omega (
        arith,
        c.in-Ok.ensures.bound,
        length-take (length c.args.piece.now - c.loop-at.at) (drop c.loop-at.at c.args.piece.now),
        length-drop c.loop-at.at c.args.piece.now,
      );
  written = appends_both _ _ _ c.args.piece.now c.loop-at.at c.in-Ok.count c.loop-at.invariant.written c.in-Ok.ensures.bytes;
}
