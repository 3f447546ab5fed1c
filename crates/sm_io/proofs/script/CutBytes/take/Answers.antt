use Rattle.std.proofs.Common.{◌≡◌, length, arith, length-take}
use Rattle.sm_io.proofs.Pieces.{moved}
use Rattle.sm_io.proofs.script.CutBytes.take.Goals as goal

pub returns-clause-moved : goal.returns-clause-moved
returns-clause-moved c =
    let long : length c.copy_from_slice.new.self ≡ c.min-count.result =
    omega (
      arith,
      c.copy_from_slice.ensures.len,
      length-take c.min-count.result c.args.buf.now,
      c.cut_at.ensures.cut,
      c.min-count.ensures,
    ) in
    moved c.args.self.now.bytes.items c.copy_from_slice.new.self _ c.args.self.now.at c.min-count.result long
    (rw c.deref.ensures.value at c.copy_from_slice.ensures.after)
