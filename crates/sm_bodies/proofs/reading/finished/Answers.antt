use Rattle.std.proofs.Common.{subst}
use Rattle.std.specs.Prelude.{Err}
use Rattle.sm_codec.specs.DecodingView.{Finishes}
use Rattle.sm_bodies.proofs.reading.finished.Goals as goal

pub returns-in-Err-Fault : goal.returns-in-Err-Fault
returns-in-Err-Fault c = λ c' es n laws kept streams.
    subst (λ r. Finishes c' c.args.decoder.shape n (Err r)) c.in-Err-Fault.field-0-is (c.in-Err-Fault.ensures c' es n laws kept streams)

pub returns-in-Err-NoMemory : goal.returns-in-Err-NoMemory
returns-in-Err-NoMemory c = λ c' es n laws kept streams.
    subst (λ r. Finishes c' c.args.decoder.shape n (Err r)) c.in-Err-NoMemory.field-0-is
    (c.in-Err-NoMemory.ensures c' es n laws kept streams)
