use Rattle.std.proofs.Common.{◌≡◌, drop}
use Rattle.percent_encoding.specs.Iter.{decoded_bytes}
use Rattle.percent_encoding.specs.Percent.{percent_decode}
use Rattle.sm_model.specs.Graphs.{text_cmp}
use Rattle.sm_routes.proofs.stand.text_order.Given as goal

abbrev pub invariant-loop-byte : goal.invariant-loop-byte
invariant-loop-byte l = text_cmp (drop l.byte-index l.text) (decoded_bytes l.decoded) ≡ text_cmp l.text (percent_decode l.escaped)
