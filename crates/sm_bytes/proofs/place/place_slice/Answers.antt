use Rattle.std.proofs.Common.{arith, length, ap, ◌+◌, ◌-◌}
use Rattle.std.proofs.lemmas.Slice.{drop-put_mid}
use Rattle.sm_bytes.proofs.place.place_slice.Goals as goal

pub returns-clause-after : goal.returns-clause-after
returns-clause-after c =
    drop-put_mid c.args.at (c.args.at + length c.args.bytes.now - c.args.at) c.args.buf.now c.copy_from_slice.new.self
    (c.args.at + length c.args.bytes.now) (omega arith) (omega arith) (omega (arith, ap length c.copy_from_slice.ensures.after))
