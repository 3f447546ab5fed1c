use Rattle.std.proofs.Common.{arith}
use Rattle.sm_time.proofs.Places.{kept_behind}
use Rattle.sm_time.proofs.epoch_seconds.write.Goals as goal

pub returns-clause-after : goal.returns-clause-after
returns-clause-after c =
    let first = kept_behind c.put_sign-at.result c.place_slice-at.result c.args.out.now c.put_sign-at.new.out c.place_slice-at.new.buf
    (omega (arith, c.place_slice-at.ensures.next)) c.put_sign-at.ensures.after c.place_slice-at.ensures.after in
    kept_behind c.place_slice-at.result c.put_millis.result c.args.out.now c.place_slice-at.new.buf c.put_millis.new.out
    (omega (arith, c.put_millis.ensures.next)) first c.put_millis.ensures.after
