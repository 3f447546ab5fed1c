use Rattle.std.proofs.Common.{Err, subst}
use Rattle.sm_uri.specs.UriPattern.{IsUriText}
use Rattle.sm_uri.specs.steps.UriReading.{ReadsUri}
use Rattle.sm_uri.proofs.UriStops.{breaks_before}
use Rattle.sm_uri.proofs.pattern.UriPattern.parse.Goals as goal

pub returns-in-Err-At : goal.returns-in-Err-At
returns-in-Err-At c =
    breaks_before IsUriText c.args.text.now c.in-Err-At.rest.now
    (subst (λ stop. ReadsUri c.args.text.now (Err stop)) c.in-Err-At.field-0-is c.in-Err-At.ensures)
