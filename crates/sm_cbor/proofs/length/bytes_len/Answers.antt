use Rattle.std.proofs.Common.{rules}
use Rattle.sm_cbor.proofs.length.bytes_len.Goals as goal

pub returns : goal.returns
returns c = let told = c.string_len.ensures 2 in search (rules, told)
