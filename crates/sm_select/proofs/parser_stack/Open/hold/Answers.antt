use Rattle.std.proofs.Common.{[], ◌∷◌, refl, sym, subst}
use Rattle.sm_select.specs.View.{step_views}
use Rattle.sm_select.specs.steps.Places.{stepping}
use Rattle.sm_select.specs.steps.Stack.{IsThen, frame_of, frames_onto}
use Rattle.sm_select.proofs.StackPlaces.{form_held}
use Rattle.sm_select.proofs.parser_stack.Open.hold.Goals.{in-Ok, in-Err}
use Rattle.sm_select.proofs.parser_stack.Open.hold.Goals as goal

pub returns : goal.returns
returns c =
    let ss = step_views c.args.self.now.steps.items in
    let old = c.args.self.now.forms.items in
    let q = stepping ss (frame_of c.args.form ∷ frames_onto old []) in
    let now = stepping ss (frames_onto c.push.new.self.items []) in
    elim c.match-push.branch [
      | in-Ok w ↦ subst (λ r. IsThen q now r) (sym w.result-is)
          (form_held ss old c.push.new.self.items c.args.form (frame_of c.args.form) w.in-Ok.ensures.items refl)
      | in-Err w ↦ subst (λ r. IsThen q now r) (sym w.result-is) tt
    ]
