use Rattle.sm_cbor.proofs.RunSteps.{all_bytes}
use Rattle.sm_cbor.proofs.seen.see_bytes.Goals as goal

pub returns : goal.returns
returns c = all_bytes c.args.bytes.now (λ i. (c.type_inv.bytes i).fits)
