use Rattle.std.proofs.Common.{IfOk, ap, get_or, length, subst, sym, ◌∙◌, ◌<◌}
use Rattle.std.proofs.lemmas.Result.{IfOk-weaker}
use Rattle.sm_model.specs.GraphView.{entries_of}
use Rattle.sm_model.specs.Reaching.{AreMarks, IsMarked}
use Rattle.sm_select.specs.Answers.{ArePickedAmong}
use Rattle.sm_select.specs.Selectors.{steps_of}
use Rattle.sm_select.specs.View.{selector_view}
use Rattle.sm_select.proofs.StillSteps.{picked_at}
use Rattle.sm_select.proofs.among.select_among.Goals as goal

pub still_among-requires-clause-stays : goal.still_among-requires-clause-stays
still_among-requires-clause-stays c = sym c.all_stay.ensures ∙ c.if-all_stay.true

pub returns-then-all_stay : goal.returns-then-all_stay
returns-then-all_stay c =
    subst (λ ss. IfOk c.still_among.result (λ m. ArePickedAmong c.args.graph.now (steps_of ss) c.args.numbers.now m.items))
    c.as_slice-steps.ensures c.still_among.ensures

pub marks_at-requires : goal.marks_at-requires
marks_at-requires c k among =
    subst (λ n. k < n) (sym (ap length c.deref.ensures.value ∙ c.in_ok-picked.ensures.whole)) (c.requires.numbers k among)

pub returns-in_ok-picked : goal.returns-in_ok-picked
returns-in_ok-picked c =
    let g = c.args.graph.now in
    let ns = c.args.numbers.now in
    let steps = steps_of (selector_view c.args.selector.now) in
    let picked = c.in_ok-picked.picked.items in
    IfOk-weaker c.marks_at.result (λ at. AreMarks (length ns) (λ i. IsMarked c.deref.result.now (get_or ns i 0)) at.items)
    (λ at. ArePickedAmong g steps ns at.items)
    (λ at h. picked_at g ns c.requires.numbers steps (length (entries_of g)) picked at.items c.in_ok-picked.ensures (λ k s. s)
    (subst (λ xs. AreMarks (length ns) (λ i. IsMarked xs (get_or ns i 0)) at.items) c.deref.ensures.value h))
    c.marks_at.ensures
