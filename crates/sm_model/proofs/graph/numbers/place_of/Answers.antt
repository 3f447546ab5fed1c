use Rattle.std.proofs.Common.{rules, subst, sym, ◌∙◌}
use Rattle.std.proofs.lemmas.Fn.{always_returns_same}
use Rattle.sm_ids.specs.IdText.{printed}
use Rattle.sm_ids.specs.View.{id_of}
use Rattle.sm_model.specs.Formed.{StandsAmong}
use Rattle.sm_model.specs.Graphs.{text_cmp}
use Rattle.sm_model.specs.GraphRows.{ids_of}
use Rattle.sm_model.proofs.Places.{found_place, no_place}
use Rattle.sm_model.proofs.graph.numbers.place_of.Goals as goal

pub unreachable-requires : goal.unreachable-requires
unreachable-requires c =
    let q = printed (id_of c.member_ref-id.result) in
    no_place c.args.rows.now q c.in-Err.field-0 c.requires.rise
    (subst (λ k. StandsAmong k (ids_of c.args.rows.now)) (sym c.member_ref-id.ensures) c.requires.there)
    (c.in-Err.ensures.position (λ r. text_cmp r.id q) (always_returns_same _ _ _ (λ a r g called. search rules)))

pub returns-clause-place : goal.returns-clause-place
returns-clause-place c =
    let q = printed (id_of c.member_ref-id.result) in
    found_place c.args.rows.now q c.in-Ok.place c.in-Ok.ensures.bound
    (c.in-Ok.ensures.position (λ r. text_cmp r.id q) (always_returns_same _ _ _ (λ a r g called. search rules)))
    ∙ c.member_ref-id.ensures
