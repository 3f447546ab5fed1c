use Rattle.std.proofs.Common.{Some, true, get_or, map, subst, sym, ap, ◌∙◌}
use Rattle.sm_model.specs.Reaching.{IsMarked, id_of_number}
use Rattle.sm_model.specs.declared.kind.Kind.{Kind}
use Rattle.sm_reference_rules.specs.steps.Finding.{SomeClosed}
use Rattle.sm_reference_rules.proofs.FiniteMoves.{says_always, says_union, sees_same, way_union}
use Rattle.sm_reference_rules.proofs.finite.is_seen.Goals as goal

pub returns-in-ByOne : goal.returns-in-ByOne
returns-in-ByOne c =
    let g = c.args.graph.now in
    let known = c.args.known.now in
    let found = c.some_closed.result in
    sees_same g c.args.shape known c.requires.knows found
    (says_union g c.args.shape known.marks.items c.requires.knows.right (get_or known.places.items c.args.shape 0)
    (sym c.kind_of.ensures ∙ c.in-Some.is ∙ ap (λ (k : Kind). Some k) (way_union c.in-Some.kind (sym c.way_of.ensures ∙ c.in-ByOne.is)))
    found
    (subst (λ ids. SomeClosed g (IsMarked known.marks.items) ids found) c.members_of-in-ByOne.ensures.ids
    (subst (λ ms. SomeClosed g (IsMarked ms) (map (id_of_number g) c.members_of-in-ByOne.result.now) found) c.as_slice.ensures.value
    c.some_closed.ensures)))

pub returns-in-Always : goal.returns-in-Always
returns-in-Always c =
    let known = c.args.known.now in
    sees_same c.args.graph.now c.args.shape known c.requires.knows true
    (says_always c.args.graph.now c.args.shape known.marks.items (get_or known.places.items c.args.shape 0) c.in-Some.kind
    (sym c.kind_of.ensures ∙ c.in-Some.is) (sym c.way_of.ensures ∙ c.in-Always.is))
