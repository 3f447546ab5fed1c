use Rattle.std.proofs.Common.{arith}
use Rattle.sm_time.proofs.Places.{kept_behind}
use Rattle.sm_time.proofs.date_time.write.Goals as goal

pub returns-clause-after : goal.returns-clause-after
returns-clause-after c =
    let first = kept_behind c.place_slice-at.result c.put_millis-at.result c.args.out.now c.place_slice-at.new.buf c.put_millis-at.new.out
    (omega (arith, c.put_millis-at.ensures.next)) c.place_slice-at.ensures.after c.put_millis-at.ensures.after in
    kept_behind c.put_millis-at.result c.place_byte.result c.args.out.now c.put_millis-at.new.out c.place_byte.new.buf
    (omega (arith, c.place_byte.ensures.next))
    first c.place_byte.ensures.after
