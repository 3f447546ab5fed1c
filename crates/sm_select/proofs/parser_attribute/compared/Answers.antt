use Rattle.std.proofs.Common.{◌++◌, ◌∷◌, [], sym, subst, ◌∙◌}
use Rattle.sm_select.specs.Selectors.{compares}
use Rattle.sm_select.specs.View.{path_view}
use Rattle.sm_select.specs.steps.Places.{behind_value, value_wanted, stepping}
use Rattle.sm_select.specs.steps.Standing.{Passes}
use Rattle.sm_select.specs.steps.Reader.{behind_a_value}
use Rattle.sm_select.proofs.ListRead.{behind_passed, behind_refused, element_refused}
use Rattle.sm_select.proofs.ReadAttributes.{value_shorter}
use Rattle.sm_select.proofs.parser_attribute.compared.Goals as goal

pub returns-in-Err-clause-read : goal.returns-in-Err-clause-read
returns-in-Err-clause-read c ss fs =
    let p = path_view c.args.path in
    element_refused (value_wanted ss fs p c.args.op) (c.loop-value.invariant.read ss fs) c.args.reading.now.len c.loop-value.reading.len
    c.in-Err.refusal c.loop-value.invariant.len (c.in-Err.ensures.read ss fs p c.args.op c.loop-value.values.items)

pub loop-value-smaller : goal.loop-value-smaller
loop-value-smaller c =
    let p = path_view c.args.path in
    let vs = c.loop-value.values.items in
    let more = vs ++ c.in-Ok.value ∷ [] in
    value_shorter [] [] p c.args.op vs more c.loop-value.reading.rest.now c.value.new.reading.rest.now c.behind.new.reading.rest.now
    (c.in-Ok.ensures.read [] [] p c.args.op vs)
    (subst (λ o. Passes (behind_value [] [] p c.args.op more) c.value.new.reading.rest.now (behind_a_value [] [] p c.args.op more o)
    c.behind.new.reading.rest.now) c.in-Ok-None.field-0-is (c.in-Ok-None.ensures.read [] [] p c.args.op more))

pub loop-value-preserved : goal.loop-value-preserved
loop-value-preserved c =
    let p = path_view c.args.path in
    let op = c.args.op in
    let vs = c.loop-value.values.items in
    let more = vs ++ c.in-Ok.value ∷ [] in
    let after = c.behind.new.reading.rest.now in
    record {
      read = λ ss fs. subst (λ xs. Passes (value_wanted ss fs p op []) c.args.reading.now.rest.now (value_wanted ss fs p op xs) after)
          (sym c.in-Ok-push.ensures.items)
          (behind_passed (value_wanted ss fs p op) (c.loop-value.invariant.read ss fs) (behind_value ss fs p op) c.in-Ok.value
          (c.in-Ok.ensures.read ss fs p op vs) (value_wanted ss fs p op more) after
          (subst (λ o. Passes (behind_value ss fs p op more) c.value.new.reading.rest.now (behind_a_value ss fs p op more o) after)
          c.in-Ok-None.field-0-is (c.in-Ok-None.ensures.read ss fs p op more)));
      same = c.loop-value.invariant.same;
      len = c.in-Ok-None.ensures.len ∙ c.in-Ok.ensures.len ∙ c.loop-value.invariant.len;
    }

pub returns-in-Ok-Some-clause-read : goal.returns-in-Ok-Some-clause-read
returns-in-Ok-Some-clause-read c ss fs =
    let p = path_view c.args.path in
    let op = c.args.op in
    let more = c.loop-value.values.items ++ c.in-Ok.value ∷ [] in
    let first = c.args.reading.now.rest.now in
    let after = c.behind.new.reading.rest.now in
    subst (λ y. Passes (value_wanted ss fs p op []) first (stepping
    (ss ++ compares (path_view y) op c.new.result c.in-Ok-Some.fold ∷ []) fs) after)
    (sym c.loop-value.invariant.same)
    (subst (λ xs. Passes (value_wanted ss fs p op []) first (stepping (ss ++ compares p op xs c.in-Ok-Some.fold ∷ []) fs) after)
    (sym (c.new.ensures ∙ c.in-Ok-push.ensures.items))
    (behind_passed (value_wanted ss fs p op) (c.loop-value.invariant.read ss fs) (behind_value ss fs p op) c.in-Ok.value
    (c.in-Ok.ensures.read ss fs p op c.loop-value.values.items) (stepping (ss ++ compares p op more c.in-Ok-Some.fold ∷ []) fs) after
    (subst (λ o. Passes (behind_value ss fs p op more) c.value.new.reading.rest.now (behind_a_value ss fs p op more o) after)
    c.in-Ok-Some.field-0-is (c.in-Ok-Some.ensures.read ss fs p op more))))

pub returns-in-Err-behind-clause-read : goal.returns-in-Err-behind-clause-read
returns-in-Err-behind-clause-read c ss fs =
    let p = path_view c.args.path in
    let vs = c.loop-value.values.items in
    behind_refused (value_wanted ss fs p c.args.op) (c.loop-value.invariant.read ss fs) (behind_value ss fs p c.args.op) c.in-Ok.value
    (c.in-Ok.ensures.read ss fs p c.args.op vs) c.args.reading.now.len c.value.new.reading.len c.in-Err-behind.refusal
    (c.in-Ok.ensures.len ∙ c.loop-value.invariant.len) (c.in-Err-behind.ensures.read ss fs p c.args.op (vs ++ c.in-Ok.value ∷ []))
