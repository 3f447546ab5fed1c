use Rattle.std.proofs.Common.{[], subst, Ok}
use Rattle.sm_select.specs.View.{step_views}
use Rattle.sm_select.specs.declared.tokens.Sign.TheVariants.{Close}
use Rattle.sm_select.specs.steps.Stack.{IsMoved, frames_onto, place_of}
use Rattle.sm_select.proofs.Boundaries.{dark_now}
use Rattle.sm_select.proofs.ReadSteps.{close_refused, moved_memory, sign_read}
use Rattle.sm_select.proofs.parser.closed.Goals as goal

pub returns-in-Ok-true-clause-read : goal.returns-in-Ok-true-clause-read
returns-in-Ok-true-clause-read c =
    let r = c.pass_sign.new.self.rest.now in
    let p = place_of c.args.stack.now in
    let q = place_of c.close.new.self in
    sign_read p q Close c.args.reading.now.rest.now r c.requires.stands
    (subst (λ b. IsMoved p Close q (Ok b)) c.in-Ok-true.field-0-test c.in-Ok-true.ensures) c.pass_sign.ensures.rest
    (dark_now r c.pass_sign.new.self.dark)

pub returns-in-Ok-false-clause-read : goal.returns-in-Ok-false-clause-read
returns-in-Ok-false-clause-read c =
    let p = place_of c.args.stack.now in
    let q = place_of c.close.new.self in
    close_refused c.args.reading.now.len (step_views c.args.stack.now.steps.items) (frames_onto c.args.stack.now.forms.items [])
    c.args.reading.now.rest.now c.refused_step.result c.requires.stands
    (subst (λ b. IsMoved p Close q (Ok b)) c.in-Ok-false.field-0-test c.in-Ok-false.ensures) c.requires.more
    (dark_now c.args.reading.now.rest.now c.args.reading.now.dark) c.refused_step.ensures

pub returns-in-Err-clause-read : goal.returns-in-Err-clause-read
returns-in-Err-clause-read c =
    moved_memory c.args.reading.now.len (place_of c.args.stack.now) (place_of c.close.new.self) Close c.args.reading.now.rest.now
    c.in-Err.refusal c.in-Err.ensures
