use Rattle.std.proofs.Common.{string_bytes}
use Rattle.sm_shapes.proofs.KnownValues.{one_text_more}
use Rattle.sm_shapes.proofs.enums.put_text.Goals as goal

pub returns : goal.returns
returns c = one_text_more c.args.known.now c.insert.new.self (string_bytes c.in_ok-copy.copy) c.args.text.now c.in_ok-insert.ensures.updates
    c.in_ok-copy.ensures.ok
