use Rattle.std.proofs.Common.{length, length-append, arith}
use Rattle.sm_cbor.specs.Written.{written_head}
use Rattle.sm_cbor.proofs.length.string_len.Goals as goal

pub returns : goal.returns
returns c = λ major. let head = c.head_len.ensures major in
    omega (arith, head, length-append (written_head major (length c.args.bytes.now)) c.args.bytes.now)
