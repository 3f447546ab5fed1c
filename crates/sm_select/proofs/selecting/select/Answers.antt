use Rattle.std.proofs.Common.{◌≡◌, subst, sym, ◌∙◌}
use Rattle.std.proofs.lemmas.Result.{IfOk-weaker}
use Rattle.sm_model.specs.GraphView.{ids, maps_of}
use Rattle.sm_select.specs.Answers.{ArePicked}
use Rattle.sm_select.specs.Selectors.{steps_of}
use Rattle.sm_select.specs.View.{selector_view}
use Rattle.sm_select.specs.steps.Imaging.{marked_ids}
use Rattle.sm_select.proofs.PickedIds.{are_picked}
use Rattle.sm_select.proofs.selecting.select.Goals as goal

pub returns : goal.returns
returns c =
    let g = c.args.graph.now in
    let steps = steps_of (selector_view c.args.selector.now) in
    IfOk-weaker c.ids_of_marked.result (λ f. f.items ≡ marked_ids c.deref.result.now (ids g)) (λ f. ArePicked (maps_of g) steps f.items)
    (λ f e. subst (ArePicked (maps_of g) steps) (sym (e ∙ (λ i. marked_ids (c.deref.ensures.value i) (ids g))))
    (are_picked g steps c.in_ok-picked.picked.items c.in_ok-picked.ensures))
    c.ids_of_marked.ensures
