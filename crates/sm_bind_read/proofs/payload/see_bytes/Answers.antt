use Rattle.sm_codec.proofs.PlainLeaves.{bytes_are}
use Rattle.sm_bind_read.proofs.payload.see_bytes.Goals as goal

pub returns : goal.returns
returns c = bytes_are c.args.bytes.now (λ i. (c.type_inv.bytes i).fits)
