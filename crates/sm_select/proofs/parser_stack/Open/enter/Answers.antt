use Rattle.std.proofs.Common.{[], ◌∷◌, sym, ap, subst, ◌∙◌}
use Rattle.sm_select.specs.View.{step_views}
use Rattle.sm_select.specs.steps.Places.{frame, stepping}
use Rattle.sm_select.specs.steps.Stack.{IsNow, frames_onto}
use Rattle.sm_select.proofs.StackPlaces.{form_entered}
use Rattle.sm_select.proofs.parser_stack.Open.enter.Goals.{in-Ok, in-Err}
use Rattle.sm_select.proofs.parser_stack.Open.enter.Goals as goal

pub returns : goal.returns
returns c =
    let ss = step_views c.args.self.now.steps.items in
    let old = c.args.self.now.forms.items in
    let now = stepping (step_views c.replace-before.new.dest.items) (frames_onto c.push.new.self.items []) in
    let q = stepping [] (frame c.args.form ss [] ∷ frames_onto old []) in
    elim c.match-push.branch [
      | in-Ok w ↦ subst (λ r. IsNow q now r) (sym w.result-is)
          (form_entered ss c.replace-before.new.dest.items old c.push.new.self.items c.opened.result (frame c.args.form ss [])
          (ap (λ v. v.items) c.replace-before.ensures.after ∙ c.new.ensures.items) w.in-Ok.ensures.items
          (c.opened.ensures ∙ ap (λ v. frame c.args.form (step_views v.items) []) c.replace-before.ensures.value))
      | in-Err w ↦ subst (λ r. IsNow q now r) (sym w.result-is) tt
    ]
