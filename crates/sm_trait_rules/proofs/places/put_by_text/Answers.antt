use Rattle.std.proofs.Common.{Err, subst}
use Rattle.sm_select.specs.Answers.{ParsesSelector}
use Rattle.sm_select.specs.Selectors.{steps_of}
use Rattle.sm_select.specs.View.{selector_view}
use Rattle.sm_select.proofs.OneAnswer.{one_answer}
use Rattle.sm_trait_rules.proofs.PlacesTold.{selector_put, unapplied}
use Rattle.sm_trait_rules.proofs.places.put_by_text.Goals as goal

pub put_by_selector-requires-clause-uses : goal.put_by_selector-requires-clause-uses
put_by_selector-requires-clause-uses c = λ u among. (c.requires.uses u among).0

pub returns-in_ok-put_by_selector-in-Ok : goal.returns-in_ok-put_by_selector-in-Ok
returns-in_ok-put_by_selector-in-Ok c =
    selector_put c.args.graph.now c.args.text.now c.args.uses.now c.requires.uses (steps_of (selector_view c.in-Ok.selector))
    c.in-Ok.ensures c.args.events.now.items c.put_by_selector.new.events.items c.in_ok-put_by_selector-in-Ok.ensures

pub returns-in-Syntax : goal.returns-in-Syntax
returns-in-Syntax c =
    let text = c.args.text.now in
    let breaks = subst (λ r. ParsesSelector text (Err r)) c.in-Syntax.is c.in-Err.ensures in
    unapplied c.args.graph.now text c.args.uses.now c.requires.uses
    (λ is. one_answer.selector_or_break text c.in-Syntax.field-0 is breaks) c.args.events.now.items

pub returns-in-OutOfProfile : goal.returns-in-OutOfProfile
returns-in-OutOfProfile c =
    let text = c.args.text.now in
    let leaves = subst (λ r. ParsesSelector text (Err r)) c.in-OutOfProfile.is c.in-Err.ensures in
    unapplied c.args.graph.now text c.args.uses.now c.requires.uses
    (λ is. one_answer.selector_or_other text c.in-OutOfProfile.field-0 is leaves) c.args.events.now.items
