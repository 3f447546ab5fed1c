use Rattle.std.proofs.Common.{sym, ◌∙◌}
use Rattle.percent_encoding.specs.Iter.{decoded_bytes}
use Rattle.sm_routes.proofs.LabelsRead.{text_longer}
use Rattle.sm_routes.proofs.stand.text_order.Goals as goal

pub returns-in-None : goal.returns-in-None
returns-in-None c =
    sym (text_longer c.args.text.now (decoded_bytes c.loop-byte.decoded) c.loop-byte.byte-index 0 c.loop-byte-test.true c.in-None.ensures.steps.0)
    ∙ c.loop-byte.invariant
