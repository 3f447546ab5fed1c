use Rattle.std.proofs.Common.{ℕ, length, subst, sym, ap, ◌∙◌}
use Rattle.std.specs.List.{Contains}
use Rattle.std.proofs.lemmas.List.{length-map}
use Rattle.sm_select.specs.Answers.{ArePickedAmong}
use Rattle.sm_select.specs.Selectors.{steps_of}
use Rattle.sm_select.specs.View.{selector_view}
use Rattle.sm_trait_rules.proofs.PlacesTold.{carriers_there, unmarked_put}
use Rattle.sm_trait_rules.proofs.places.put_by_selector.Goals as goal

pub select_among-requires-clause-numbers : goal.select_among-requires-clause-numbers
select_among-requires-clause-numbers c k among =
    carriers_there c.args.graph.now c.args.uses.now c.requires.uses k
    (subst (λ ks. Contains ks k) (c.as_slice.ensures.value ∙ c.in_ok-carriers.ensures) among)

pub put_unmarked-requires-clause-count : goal.put_unmarked-requires-clause-count
put_unmarked-requires-clause-count c =
    ap length c.as_slice-2.ensures.value ∙ c.in_ok-picked.ensures.whole
    ∙ ap length (c.as_slice.ensures.value ∙ c.in_ok-carriers.ensures) ∙ length-map c.args.uses.now (λ (u : ℕ × ℕ). u.0)

pub returns : goal.returns
returns c =
    let g = c.args.graph.now in
    let steps = steps_of (selector_view c.args.selector.now) in
    let are = subst (λ ks. ArePickedAmong g steps ks c.as_slice-2.result.now) (c.as_slice.ensures.value ∙ c.in_ok-carriers.ensures)
    (subst (ArePickedAmong g steps c.as_slice.result.now) (sym c.as_slice-2.ensures.value) c.in_ok-picked.ensures) in
    unmarked_put g steps c.args.uses.now c.as_slice-2.result.now are c.args.events.now.items c.put_unmarked.new.events.items
    c.in_ok-put_unmarked.ensures
