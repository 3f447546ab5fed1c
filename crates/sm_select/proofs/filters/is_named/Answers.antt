use Rattle.std.proofs.Common.{◌↔◌, IsTrue, subst, sym}
use Rattle.sm_model.specs.GraphView.{maps_of}
use Rattle.sm_model.specs.Reaching.{id_of_number}
use Rattle.sm_select.specs.steps.Filtering.{IsNamedAt}
use Rattle.sm_select.proofs.FilterFacts.{members_named}
use Rattle.sm_select.proofs.filters.is_named.Goals as goal

pub returns-in-Some : goal.returns-in-Some
returns-in-Some c =
    let g = c.args.graph.now in
    subst (λ n. IsTrue c.is_of_kind.result ↔ IsNamedAt n (maps_of g) (id_of_number g c.args.number)) (sym c.in-Some.is)
    c.is_of_kind.ensures

pub returns-in-None : goal.returns-in-None
returns-in-None c =
    let g = c.args.graph.now in
    subst (λ n. IsTrue c.is_member.result ↔ IsNamedAt n (maps_of g) (id_of_number g c.args.number)) (sym c.in-None.is)
    (members_named g c.args.number c.is_member.result c.is_member.ensures)
