use Rattle.std.proofs.Common.{Err, ◌∙◌, subst, sym}
use Rattle.std.proofs.lemmas.Option.{same_Some}
use Rattle.sm_uri.specs.UriPattern.{IsUriText, ParsesUri}
use Rattle.sm_service.proofs.http_rule.uri_pattern.Goals as goal

-- a text that begins no pattern isn't that of a pattern
pub unreachable-requires : goal.unreachable-requires
unreachable-requires c =
    let same = same_Some c.requires.fields.text c.in-Some.text.now (sym c.requires.fields.text_is ∙ sym c.in-Some.ensures) in
    let breaks = subst (λ r. ParsesUri c.in-Some.text.now (Err r)) c.in-Err-Bad.field-0-is c.in-Err-Bad.ensures in
    c.requires.fields.pattern (λ is. breaks.none (subst IsUriText same is))
