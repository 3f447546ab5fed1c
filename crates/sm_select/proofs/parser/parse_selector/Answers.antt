use Rattle.std.proofs.Common.{[], length, sym, subst, ◌∙◌}
use Rattle.sm_select.specs.View.{step_views}
use Rattle.sm_select.specs.steps.Places.{stepping}
use Rattle.sm_select.specs.steps.Reader.{Refuses}
use Rattle.sm_select.specs.steps.Standing.{Passes}
use Rattle.sm_select.specs.steps.Stack.{frames_onto, place_of}
use Rattle.sm_select.proofs.Boundaries.{dark_now}
use Rattle.sm_select.proofs.Passing.{passes_joined, passes_white}
use Rattle.sm_select.proofs.ReadSteps.{empty_text, only_whole, parse_refused}
use Rattle.sm_select.proofs.Stopped.{read_whole, refused_behind}
use Rattle.sm_select.specs.Selectors.{steps_of}
use Rattle.sm_select.specs.SelectorText.{SelectorText}
use Rattle.sm_select.proofs.parser.parse_selector.Goals as goal

pub loop-stack-init : goal.loop-stack-init
loop-stack-init c = record {
  read = subst (λ p. Passes (stepping [] []) c.args.text.now p c.new-reading.result.rest.now) (sym c.new-stack.ensures)
      (passes_white (stepping [] []) c.args.text.now c.new-reading.result.rest.now c.new-reading.ensures.white
      (dark_now c.new-reading.result.rest.now c.new-reading.result.dark));
  len = c.new-reading.ensures.len;
}

pub loop-stack-preserved : goal.loop-stack-preserved
loop-stack-preserved c = record {
  read = passes_joined (stepping [] []) (place_of c.loop-stack.stack)
      (place_of c.step.new.stack) c.args.text.now c.loop-stack.reading.rest.now
      c.step.new.reading.rest.now c.loop-stack.invariant.read c.in-Ok.ensures.read.0;
  len = c.in-Ok.ensures.len ∙ c.loop-stack.invariant.len;
}

pub returns-in-Err : goal.returns-in-Err
returns-in-Err c =
    parse_refused c.args.text.now c.in-Err.refusal
    (refused_behind (length c.args.text.now) (stepping [] [])
    (place_of c.loop-stack.stack) c.args.text.now c.loop-stack.reading.rest.now c.in-Err.refusal
    c.loop-stack.invariant.read
    (subst (λ n. Refuses n (place_of c.loop-stack.stack) c.loop-stack.reading.rest.now c.in-Err.refusal) c.loop-stack.invariant.len
    c.in-Err.ensures.read))

pub returns-then-is_whole : goal.returns-then-is_whole
returns-then-is_whole c =
    let q = place_of c.loop-stack.stack in
    let ss = step_views c.loop-stack.stack.steps.items in
    let fs = frames_onto c.loop-stack.stack.forms.items [] in
    let none = empty_text c.loop-stack.reading.rest.now c.is_empty.result c.is_empty.ensures c.if-is_empty.true in
    subst (λ x. SelectorText (steps_of x) c.args.text.now) (sym c.new.ensures)
    (read_whole q c.args.text.now (steps_of ss) (subst (λ r. Passes (stepping [] []) c.args.text.now q r) none c.loop-stack.invariant.read)
    (only_whole ss fs c.if-is_whole.ensures))
