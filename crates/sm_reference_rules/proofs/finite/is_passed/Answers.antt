use Rattle.std.proofs.Common.{◌<◌, leb, length, map, refl, subst, sym, ap, arith, ◌∙◌}
use Rattle.std.specs.Vec.{with_item}
use Rattle.std.proofs.lemmas.List.{get_or_default, length-map}
use Rattle.sm_model.specs.Reaching.{IsMarked, id_of_number}
use Rattle.sm_reference_rules.specs.steps.Finding.{IsNext, Wants}
use Rattle.sm_reference_rules.proofs.FiniteMoves.{ends_by, sees_next}
use Rattle.sm_reference_rules.proofs.finite.is_passed.Goals as goal

pub returns : goal.returns
returns c =
    let g = c.args.graph.now in
    let known = c.args.known.now in
    let members = c.args.members.now in
    let next = c.next_wanted-place.result in
    let lt : c.args.shape < length known.places.items = omega (arith, c.requires.number, c.requires.knows.long) in
    let ends = ends_by (length members) next _ (ap length (sym c.requires.listed) ∙ length-map members (id_of_number g)) in
    sees_next g c.args.shape known
    (record { marks = known.marks; found = known.found; places = with_item known.places c.args.shape next }) c.index-from.result.now next
    c.requires.knows c.requires.number c.requires.kind
    (c.index-from.ensures ∙ get_or_default known.places.items c.args.shape c.index-from.result.now 0 lt)
    (subst (λ ids. IsNext (Wants g (IsMarked known.marks.items)) ids c.index-from.result.now next) c.requires.listed
    (subst (λ ms. IsNext (Wants g (IsMarked ms)) (map (id_of_number g) members) c.index-from.result.now next) c.as_slice.ensures.value
    c.next_wanted-place.ensures)) refl refl refl (leb (length members) next) ends.0 ends.1
