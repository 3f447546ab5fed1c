use Rattle.std.proofs.Common.{subst}
use Rattle.sm_codec.specs.FrameView.{outcome_of}
use Rattle.sm_codec.specs.Kept.{IsOutcome}
use Rattle.sm_bind_read.proofs.BodyGives.{outcome_bad, outcome_good}
use Rattle.sm_bind_read.proofs.bodies.tree_payload.Goals as goal

pub returns-in-Good : goal.returns-in-Good
returns-in-Good c = λ reading h.
    c.payload_read.ensures reading (outcome_good reading c.in-Good.value (subst (λ o. IsOutcome reading (outcome_of o)) c.in-Good.is h))

pub returns-in-Bad : goal.returns-in-Bad
returns-in-Bad c = λ reading h.
    c.payload_read-in-Bad.ensures reading (outcome_bad reading c.in-Bad.fault (subst (λ o. IsOutcome reading (outcome_of o)) c.in-Bad.is h))
