use Rattle.std.proofs.Common.{subst, sym}
use Rattle.sm_ids.specs.Identifier.{IsIdentifier}
use Rattle.sm_ids.specs.steps.Ahead.{IsIdentifierFrom, in_member}
use Rattle.sm_ids.proofs.Scanning.{alone}
use Rattle.sm_ids.proofs.identifier.is_identifier.Goals as goal

pub returns-in-Ok : goal.returns-in-Ok
returns-in-Ok c = alone c.args.text.now c.in-Ok.end (subst (λ x. IsIdentifierFrom x 0 c.in-Ok.end) c.as_bytes.ensures.value c.in-Ok.ensures)

pub returns-in-Err : goal.returns-in-Err
returns-in-Err c = (λ e. cc, λ h. absurd ((c.in-Err.ensures.1 in_member).none (subst IsIdentifier (sym c.as_bytes.ensures.value) h)))
