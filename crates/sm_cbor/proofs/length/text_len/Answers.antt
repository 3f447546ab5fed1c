use Rattle.std.proofs.Common.{rules}
use Rattle.sm_cbor.proofs.length.text_len.Goals as goal

pub returns : goal.returns
returns c = let told = c.string_len.ensures 3 in search (rules, told)
