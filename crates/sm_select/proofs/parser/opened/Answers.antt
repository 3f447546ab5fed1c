use Rattle.std.proofs.Common.{[], ◌∷◌}
use Rattle.sm_select.specs.View.{step_views}
use Rattle.sm_select.specs.steps.Places.{frame, stepping}
use Rattle.sm_select.specs.steps.Stack.{frames_onto, place_of}
use Rattle.sm_select.proofs.Boundaries.{dark_now}
use Rattle.sm_select.proofs.ReadSteps.{sign_steps}
use Rattle.sm_select.proofs.parser.opened.Goals as goal

pub returns-clause-read : goal.returns-clause-read
returns-clause-read c =
    let ss = step_views c.args.stack.now.steps.items in
    let fs = frames_onto c.args.stack.now.forms.items [] in
    let r = c.pass_sign.new.self.rest.now in
    sign_steps c.args.reading.now.len (stepping ss fs) (stepping [] (frame c.args.form ss [] ∷ fs)) c.args.sign
    c.args.reading.now.rest.now r
    (place_of c.enter.new.self) c.enter.result c.requires.stands (c.requires.moves ss fs) c.pass_sign.ensures.rest
    (dark_now r c.pass_sign.new.self.dark) c.enter.ensures
