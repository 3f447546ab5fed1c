use Rattle.std.proofs.Common.{ap, length, subst, ◌∙◌}
use Rattle.std.proofs.lemmas.Result.{IfOk-weaker}
use Rattle.sm_model.specs.GraphView.{maps_of}
use Rattle.sm_select.specs.Answers.{ArePickedAmong}
use Rattle.sm_select.specs.Picks.{Picks}
use Rattle.sm_select.specs.Selectors.{steps_of}
use Rattle.sm_select.specs.View.{step_views}
use Rattle.sm_select.specs.steps.Staying.{AreStill}
use Rattle.sm_select.proofs.StillSteps.{still_picked}
use Rattle.sm_select.proofs.among.still_among.Goals as goal

pub still_of-requires-clause-count : goal.still_of-requires-clause-count
still_of-requires-clause-count c = ap length c.deref.ensures.value ∙ c.in_ok-starts.ensures.whole

pub returns : goal.returns
returns c =
    let g = c.args.graph.now in
    let ns = c.args.numbers.now in
    let steps = steps_of (step_views c.args.steps.now) in
    IfOk-weaker c.still_of.result (λ m. AreStill g ns c.deref.result.now (Picks (maps_of g) steps) m.items)
    (λ m. ArePickedAmong g steps ns m.items)
    (λ m h. still_picked g ns c.requires.numbers steps c.requires.stays c.in_ok-starts.starts.items m.items c.in_ok-starts.ensures
    (subst (λ xs. AreStill g ns xs (Picks (maps_of g) steps) m.items) c.deref.ensures.value h))
    c.still_of.ensures
