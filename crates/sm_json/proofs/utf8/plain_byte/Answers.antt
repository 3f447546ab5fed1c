-- Each kind of byte between two characters.
use Rattle.std.proofs.Common.{sym, ◌∙◌, subst}
use Rattle.std.proofs.lemmas.Bool.{false≢true}
use Rattle.sm_json.specs.declared.spot.CharacterPart.TheVariants.{Escape as BehindBackslash}
use Rattle.sm_json.specs.declared.spot.Spot.TheVariants.{Plain}
use Rattle.sm_json.specs.declared.spot.SpotStep.TheVariants.{Within, Closed}
use Rattle.sm_json.specs.steps.TextSteps.{StringSteps}
use Rattle.sm_json.proofs.Utf8Parts.{quote_closes, backslash_taken, ascii_whole, lead_taken, plain_refused}
use Rattle.sm_json.proofs.Utf8Tests.{ascii_said, ascii_told, lead_said, lead_told}
use Rattle.sm_json.proofs.utf8.plain_byte.Goals as goal

pub returns-then-byte-eq34 : goal.returns-then-byte-eq34
returns-then-byte-eq34 c = subst (λ x. StringSteps Plain x Closed) (sym c.if-byte-eq34.true) quote_closes

pub returns-then-byte-eq92 : goal.returns-then-byte-eq92
returns-then-byte-eq92 c = subst (λ x. StringSteps Plain x (Within BehindBackslash)) (sym c.if-byte-eq92.true) backslash_taken

pub returns-then-has : goal.returns-then-has
returns-then-has c = let p = ascii_said c.args.byte (sym c.has.ensures ∙ c.if-has.true) in ascii_whole c.args.byte p.0.0 p.1 p.0.1 p.0.2

pub returns-then-is_lead : goal.returns-then-is_lead
returns-then-is_lead c = let p = lead_said c.args.byte c.is_lead.result c.is_lead.ensures c.if-is_lead.true in
    lead_taken c.args.byte p.0 p.1

pub returns : goal.returns
returns c = plain_refused c.args.byte c.if-byte-eq34.false c.if-byte-eq92.false
    (λ a b. false≢true (sym c.if-has.false ∙ (c.has.ensures ∙ ascii_told c.args.byte (a, c.if-byte-eq34.false, c.if-byte-eq92.false) b)))
    (λ a b. false≢true (sym c.if-is_lead.false ∙ lead_told c.args.byte c.is_lead.result c.is_lead.ensures a b))
