use Rattle.std.proofs.Common.{◌≡◌, ◌<◌, true, sym, ap, subst, ◌∙◌}
use Rattle.std.specs.Prelude.{IfSome}
use Rattle.sm_shapes.specs.TableData.{members_at, shape_count}
use Rattle.sm_bind.specs.BindingsView.{bindings_data, body_at, bound_side}
use Rattle.sm_bind.specs.BoundView.{bound_of}
use Rattle.sm_bind.specs.Documents.{IsBodyBy}
use Rattle.sm_bind_read.proofs.BoundStands.{body_stands}
use Rattle.sm_bind_read.proofs.bodies.document_copies.Goals as goal

pub members-requires : goal.members-requires
members-requires c =
    let s = bindings_data c.args.bindings.now in
    let b = bound_of c.args.place.now in
    let side = bound_side c.args.place.now.side in
    let excerpt = subst (λ o. IsBodyBy true s.documents b o) (sym c.in-Some.ensures)
    (subst (λ z. IsBodyBy z s.documents b (body_at s side c.args.place.now.shape)) c.requires.document
    (body_stands b s.documents (body_at s side c.args.place.now.shape)
    (c.requires.bindings.each side c.args.place.now.shape c.requires.shape c.requires.structure))) in
    subst (λ t. c.in-Some.number < shape_count t) (sym c.documents.ensures) excerpt.there

pub returns-in-Some : goal.returns-in-Some
returns-in-Some c =
    let s = bindings_data c.args.bindings.now in
    subst (λ o. IfSome o (λ number. c.members.result.now ≡ members_at s.documents number)) c.in-Some.ensures
    (c.members.ensures ∙ ap (λ t. members_at t c.in-Some.number) c.documents.ensures)
