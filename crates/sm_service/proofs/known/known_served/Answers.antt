use Rattle.std.proofs.Common.{◌≡◌, false, get_or, length, subst, true}
use Rattle.sm_model.specs.GraphView.{maps_of}
use Rattle.sm_model.specs.Reaching.{AreMarks}
use Rattle.sm_model.specs.Relations.{Reaches}
use Rattle.sm_select.specs.Images.{AreImage, turned}
use Rattle.sm_service.proofs.KnownServed.{known_told}
use Rattle.sm_service.proofs.ServedRoots.{if_ok}
use Rattle.sm_service.proofs.known.known_served.Goals as goal

pub returns : goal.returns
returns c =
    let g = c.args.graph.now in
    let us = c.in_ok-unserved.unserved.items in
    let ls = c.in_ok-leading.leading.items in
    let vs = c.as_slice-2.result.now in
    if_ok c.neither_marked.result
    (λ known told. known_told g us ls known.items c.in_ok-unserved.ensures
    (subst (λ xs. AreImage g xs (turned true (Reaches (maps_of g))) ls) c.as_slice.ensures.value c.in_ok-leading.ensures)
    (subst (λ xs. AreMarks (length xs) (λ k. (get_or xs k false ≡ false) × (get_or ls k false ≡ false)) known.items)
    c.as_slice-2.ensures.value
    (subst (λ ys. AreMarks (length vs) (λ k. (get_or vs k false ≡ false) × (get_or ys k false ≡ false)) known.items)
    c.as_slice-3.ensures.value told)))
    c.neither_marked.ensures
