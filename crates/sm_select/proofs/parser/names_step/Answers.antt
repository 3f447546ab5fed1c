use Rattle.std.proofs.Common.{[], ◌∷◌, ◌++◌, subst}
use Rattle.sm_select.specs.Selectors.{along}
use Rattle.sm_select.specs.View.{step_views}
use Rattle.sm_select.specs.declared.tokens.Sign.TheVariants.{OpenNames}
use Rattle.sm_select.specs.steps.Places.{opens_names, name_wanted, stepping}
use Rattle.sm_select.specs.steps.Stack.{IsNow, frames_onto, place_of}
use Rattle.sm_select.proofs.Boundaries.{dark_now}
use Rattle.sm_select.proofs.ReadSteps.{opened_read, opened_refused}
use Rattle.sm_select.proofs.SelectorViews.{step_along}
use Rattle.sm_select.proofs.parser.names_step.Goals as goal

pub returns-in-Ok-clause-read : goal.returns-in-Ok-clause-read
returns-in-Ok-clause-read c =
    let ss = step_views c.args.stack.now.steps.items in
    let fs = frames_onto c.args.stack.now.forms.items [] in
    let r = c.pass_sign.new.self.rest.now in
    opened_read c.args.reading.now.len (stepping ss fs) (name_wanted ss fs []) (stepping (ss ++ along c.in-Ok.names ∷ []) fs) OpenNames
    c.args.reading.now.rest.now r c.names.new.reading.rest.now (place_of c.push.new.self) c.push.result c.requires opens_names
    c.pass_sign.ensures.rest (dark_now r c.pass_sign.new.self.dark) (c.in-Ok.ensures.read ss fs)
    (subst (λ x. IsNow (stepping (ss ++ x ∷ []) fs) (place_of c.push.new.self) c.push.result) (step_along c.in-Ok.names) c.push.ensures)

pub returns-in-Err-clause-read : goal.returns-in-Err-clause-read
returns-in-Err-clause-read c =
    let ss = step_views c.args.stack.now.steps.items in
    let fs = frames_onto c.args.stack.now.forms.items [] in
    let r = c.pass_sign.new.self.rest.now in
    opened_refused c.args.reading.now.len c.pass_sign.new.self.len (stepping ss fs)
    (name_wanted ss fs []) OpenNames c.args.reading.now.rest.now
    r c.in-Err.refusal c.requires opens_names c.pass_sign.ensures.rest (dark_now r c.pass_sign.new.self.dark) c.pass_sign.ensures.len
    (c.in-Err.ensures.read ss fs)
