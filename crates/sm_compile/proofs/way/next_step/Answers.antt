use Rattle.std.proofs.Common.{◌≡◌, inl, inr, ◌<◌, ap, get_or, length, map, sym, ◌∙◌, arith}
use Rattle.std.specs.Prelude.{slice_get}
use Rattle.std.proofs.lemmas.Bool.{cases_eq}
use Rattle.std.proofs.lemmas.List.{length-map}
use Rattle.std.proofs.lemmas.List.Elements.{Contains-get_or}
use Rattle.std.proofs.lemmas.Option.{slice_get_within}
use Rattle.sm_model.specs.Graphs.{member_id}
use Rattle.sm_model.specs.GraphView.{maps_of}
use Rattle.sm_model.specs.Reaching.{id_of_number}
use Rattle.sm_compile.specs.Compiled.{members_under}
use Rattle.sm_compile.proofs.ReachedNumbers.{each_number}
use Rattle.sm_compile.proofs.StepsFound.{mapped_at, step_at}
use Rattle.sm_compile.proofs.way.next_step.Goals as goal

pub fresh_step-requires-clause-member : goal.fresh_step-requires-clause-member
fresh_step-requires-clause-member c =
    let ms = c.value_members-members.result.now in
    each_number c.args.graph.now ms c.value_members-members.ensures.numbers (get_or ms c.loop-at.at 0)
    (Contains-get_or ms c.loop-at.at 0 c.loop-at-test.true)

pub fresh_step-requires-clause-stands : goal.fresh_step-requires-clause-stands
fresh_step-requires-clause-stands c =
    let g = c.args.graph.now in
    let ms = c.value_members-members.result.now in
    ap (λ ids. slice_get ids c.loop-at.at) (sym c.value_members-members.ensures.ids)
    ∙ mapped_at (id_of_number g) ms c.loop-at.at c.loop-at-test.true

pub returns : goal.returns
returns c step is ge =
    let g = c.args.graph.now in
    let id = id_of_number g c.args.shape in
    let ms = c.value_members-members.result.now in
    let within = slice_get_within (members_under (maps_of g) id) step.at (member_id id step.name) (step_at (maps_of g) id step is) in
    let long : length (map (id_of_number g) ms) ≡ length (members_under (maps_of g) id) =
    ap (λ ids. length ids) c.value_members-members.ensures.ids in
    let before : step.at < c.loop-at.at = omega (arith, within, long, length-map ms (id_of_number g), c.loop-at-test.false) in
    c.loop-at.invariant step is ge before

pub loop-at-preserved : goal.loop-at-preserved
loop-at-preserved c step is ge less = elim (cases_eq step.at c.loop-at.at) [
  | inl same ↦ c.in-None.ensures step is same
  | inr other ↦ c.loop-at.invariant step is ge (omega (arith, less, other))
]
