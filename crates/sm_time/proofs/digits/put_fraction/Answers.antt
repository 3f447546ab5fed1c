use Rattle.std.proofs.Common.{arith}
use Rattle.sm_time.proofs.Places.{kept_behind}
use Rattle.sm_time.proofs.digits.put_fraction.Goals as goal

pub returns-clause-after : goal.returns-clause-after
returns-clause-after c =
    kept_behind c.place_byte-at.result c.place_slice.result c.args.out.now c.place_byte-at.new.buf c.place_slice.new.buf
    (omega (arith, c.place_slice.ensures.next))
    c.place_byte-at.ensures.after c.place_slice.ensures.after
