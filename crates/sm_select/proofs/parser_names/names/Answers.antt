use Rattle.std.proofs.Common.{◌++◌, ◌∷◌, [], if◌then◌else◌, sym, subst, ◌∙◌}
use Rattle.sm_select.specs.Selectors.{along}
use Rattle.sm_select.specs.steps.Places.{behind_name, name_wanted, stepping}
use Rattle.sm_select.specs.steps.Standing.{Passes}
use Rattle.sm_select.proofs.ListRead.{behind_passed, behind_refused, element_refused}
use Rattle.sm_select.proofs.ReadNames.{name_shorter}
use Rattle.sm_select.proofs.parser_names.names.Goals as goal

pub returns-in-Err-clause-read : goal.returns-in-Err-clause-read
returns-in-Err-clause-read c ss fs =
    element_refused (name_wanted ss fs) (c.loop-name.invariant.read ss fs) c.args.reading.now.len c.loop-name.reading.len
    c.in-Err.refusal c.loop-name.invariant.len (c.in-Err.ensures.read ss fs c.loop-name.names.items)

pub loop-name-smaller : goal.loop-name-smaller
loop-name-smaller c =
    let ns = c.loop-name.names.items in
    let more = ns ++ c.in-Ok.name ∷ [] in
    let read = c.relation.new.reading.rest.now in
    let after = c.another.new.reading.rest.now in
    name_shorter [] [] ns more c.loop-name.reading.rest.now read after (c.in-Ok.ensures.read [] [] ns)
    (subst (λ b. Passes (behind_name [] [] more) read (if b then name_wanted [] [] more else stepping (along more ∷ []) []) after)
    c.in-Ok-true.field-0-test (c.in-Ok-true.ensures.read [] [] more))

pub loop-name-preserved : goal.loop-name-preserved
loop-name-preserved c =
    let ns = c.loop-name.names.items in
    let more = ns ++ c.in-Ok.name ∷ [] in
    let after = c.another.new.reading.rest.now in
    record {
      read = λ ss fs. subst (λ xs. Passes (name_wanted ss fs []) c.args.reading.now.rest.now (name_wanted ss fs xs) after)
          (sym c.in-Ok-push.ensures.items)
          (behind_passed (name_wanted ss fs) (c.loop-name.invariant.read ss fs) (behind_name ss fs) c.in-Ok.name
          (c.in-Ok.ensures.read ss fs ns) (name_wanted ss fs more) after
          (subst (λ b. Passes (behind_name ss fs more) c.relation.new.reading.rest.now
          (if b then name_wanted ss fs more else stepping (ss ++ along more ∷ []) fs) after)
          c.in-Ok-true.field-0-test (c.in-Ok-true.ensures.read ss fs more)));
      len = c.in-Ok-true.ensures.len ∙ c.in-Ok.ensures.len ∙ c.loop-name.invariant.len;
    }

pub returns-in-Ok-false-clause-read : goal.returns-in-Ok-false-clause-read
returns-in-Ok-false-clause-read c ss fs =
    let more = c.loop-name.names.items ++ c.in-Ok.name ∷ [] in
    let after = c.another.new.reading.rest.now in
    subst (λ xs. Passes (name_wanted ss fs []) c.args.reading.now.rest.now (stepping (ss ++ along xs ∷ []) fs) after)
    (sym (c.new.ensures ∙ c.in-Ok-push.ensures.items))
    (behind_passed (name_wanted ss fs) (c.loop-name.invariant.read ss fs) (behind_name ss fs) c.in-Ok.name
    (c.in-Ok.ensures.read ss fs c.loop-name.names.items) (stepping (ss ++ along more ∷ []) fs) after
    (subst (λ b. Passes (behind_name ss fs more) c.relation.new.reading.rest.now
    (if b then name_wanted ss fs more else stepping (ss ++ along more ∷ []) fs) after)
    c.in-Ok-false.field-0-test (c.in-Ok-false.ensures.read ss fs more)))

pub returns-in-Err-another-clause-read : goal.returns-in-Err-another-clause-read
returns-in-Err-another-clause-read c ss fs =
    let ns = c.loop-name.names.items in
    behind_refused (name_wanted ss fs) (c.loop-name.invariant.read ss fs) (behind_name ss fs) c.in-Ok.name (c.in-Ok.ensures.read ss fs ns)
    c.args.reading.now.len c.relation.new.reading.len c.in-Err-another.refusal (c.in-Ok.ensures.len ∙ c.loop-name.invariant.len)
    (c.in-Err-another.ensures.read ss fs (ns ++ c.in-Ok.name ∷ []))
