use Rattle.std.proofs.Common.{sym, subst, ◌∙◌, true≢false}
use Rattle.sm_select.specs.steps.Taking.{IsIdentifierToken, TakenAs}
use Rattle.sm_select.proofs.TakenWords.{identifier_taken, no_identifier}
use Rattle.sm_select.proofs.parser_taken.identifier_at.Goals as goal

pub returns-then-is_identifier : goal.returns-then-is_identifier
returns-then-is_identifier c =
    let s = c.args.rest.now in
    let run = c.run_at-run.result.now in
    subst (λ t. TakenAs IsIdentifierToken t s c.behind_run.result.behind.now) (sym c.behind_run.ensures.text)
    (subst (λ b. TakenAs IsIdentifierToken run s b) (sym c.behind_run.ensures.behind)
    (identifier_taken s run c.run_at-run.ensures (c.is_identifier.ensures.0 c.if-is_identifier.true)))

pub returns-else-is_identifier : goal.returns-else-is_identifier
returns-else-is_identifier c =
    no_identifier c.args.rest.now c.run_at-run.result.now c.run_at-run.ensures
    (λ is. true≢false (sym (c.is_identifier.ensures.1 is) ∙ c.if-is_identifier.false))
