use Rattle.std.proofs.Common.{[], ◌∷◌, ◌++◌, subst}
use Rattle.sm_select.specs.steps.Places.{stepping}
use Rattle.sm_select.specs.steps.Stack.{IsNow, frames_onto, place_of}
use Rattle.sm_select.proofs.SelectorViews.{step_named}
use Rattle.sm_select.specs.View.{step_views}
use Rattle.sm_select.proofs.Boundaries.{dark_now}
use Rattle.sm_select.proofs.ReadSteps.{kind_steps, no_word_refused}
use Rattle.sm_select.proofs.parser.type_step.Goals as goal

pub returns-in-Some-clause-read : goal.returns-in-Some-clause-read
returns-in-Some-clause-read c =
    kind_steps c.args.reading.now.len (step_views c.args.stack.now.steps.items) (frames_onto c.args.stack.now.forms.items []) c.in-Some.kind
    c.args.reading.now.rest.now c.word-word.result.now c.pass_word.new.self.rest.now
    (place_of c.push.new.self) c.push.result c.requires.none
    c.word-word.ensures c.in-Some.ensures c.pass_word.ensures.rest (dark_now c.pass_word.new.self.rest.now c.pass_word.new.self.dark)
    (subst (λ x. IsNow (stepping (step_views c.args.stack.now.steps.items ++ x ∷ []) (frames_onto c.args.stack.now.forms.items []))
    (place_of c.push.new.self) c.push.result) (step_named c.in-Some.kind) c.push.ensures)

pub returns-in-None-clause-read : goal.returns-in-None-clause-read
returns-in-None-clause-read c =
    no_word_refused c.args.reading.now.len (step_views c.args.stack.now.steps.items) (frames_onto c.args.stack.now.forms.items [])
    c.args.reading.now.rest.now c.word-word.result.now c.refused_step.result c.requires.none c.word-word.ensures c.in-None.ensures
    c.requires.more
    (dark_now c.args.reading.now.rest.now c.args.reading.now.dark) c.refused_step.ensures
