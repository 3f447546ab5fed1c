use Rattle.std.proofs.Common.{◌≡◌, ◌<◌, ◌^◌, length, subst, sym, ◌∙◌}
use Rattle.sm_model.specs.GraphView.{maps_of}
use Rattle.sm_model.specs.Relations.{Reaches}
use Rattle.sm_select.specs.Images.{AreImage, turned}
use Rattle.sm_select.specs.Neighbors.{AreReached}
use Rattle.sm_select.proofs.ImageNumbers.{few_numbers}
use Rattle.sm_select.proofs.Results.{ok_both}
use Rattle.sm_select.proofs.WalkNumbers.{stay_below, walked}
use Rattle.sm_select.proofs.ways.image_by_steps.Goals as goal

pub reached-requires-clause-count : goal.reached-requires-clause-count
reached-requires-clause-count c = c.requires.count ∙ sym c.requires.steps.whole

pub reached-requires-clause-few : goal.reached-requires-clause-few
reached-requires-clause-few c = subst (λ n. n < 2 ^ 32) (sym c.requires.steps.whole) (few_numbers c.args.graph.now)

pub reached-requires-clause-below : goal.reached-requires-clause-below
reached-requires-clause-below c = stay_below c.args.graph.now c.args.back c.args.neighbors.now c.requires.steps

pub returns : goal.returns
returns c =
    let g = c.args.graph.now in
    let rows = c.args.neighbors.now in
    let starts = c.args.starts.now in
    ok_both c.reached.result (λ m. length m.items ≡ length rows) (λ m. AreReached rows starts m.items)
    (λ m. AreImage g starts (turned c.args.back (Reaches (maps_of g))) m.items)
    (λ m whole reached. walked g c.args.back rows c.requires.steps starts m.items c.requires.count whole reached)
    c.reached.ensures.count c.reached.ensures.marked
