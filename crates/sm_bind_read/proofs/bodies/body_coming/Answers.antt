use Rattle.std.proofs.Common.{◌≡◌, false, sym, ap, subst, ◌∙◌}
use Rattle.sm_bind.specs.BindingsView.{bindings_data, body_at, bound_side}
use Rattle.sm_bind.specs.BoundView.{bound_of}
use Rattle.sm_bind.specs.Documents.{IsBodyBy}
use Rattle.sm_bind.specs.Roles.{has_document, is_in_document}
use Rattle.std.specs.List.{list_any}
use Rattle.sm_bind_read.proofs.BodyGives.{payload_body}
use Rattle.sm_bind_read.proofs.BoundStands.{body_stands}
use Rattle.sm_bind_read.proofs.bodies.body_coming.Goals as goal

pub document_coming-requires-clause-document : goal.document_coming-requires-clause-document
document_coming-requires-clause-document g c =
    sym (ap (list_any (is_in_document (bound_of c.args.place.now))) c.members-members.ensures) ∙ sym c.has_document.ensures
    ∙ c.if-has_document.true

pub returns-then-has_document-clause-comes : goal.returns-then-has_document-clause-comes
returns-then-has_document-clause-comes g c = λ parts content h. c.document_coming.ensures g.P.Patterns.test parts content h

pub returns-else-has_document-clause-comes : goal.returns-else-has_document-clause-comes
returns-else-has_document-clause-comes g c = λ parts content h.
    let b = bound_of c.args.place.now in
    let s = bindings_data c.args.bindings.now in
    let side = bound_side c.args.place.now.side in
    let shape = body_at s side c.args.place.now.shape in
    let off : has_document b ≡ false =
    sym (ap (list_any (is_in_document b)) c.members-members.ensures) ∙ sym c.has_document.ensures ∙ c.if-has_document.false in
    payload_body b s.documents c.requires.bindings.extends c.requires.shaped c.requires.bindings.shaped g.P.Patterns.test parts c.requires.shape
    c.requires.own off shape
    (subst (λ z. IsBodyBy z s.documents b shape) off
    (body_stands b s.documents shape (c.requires.bindings.each side c.args.place.now.shape c.requires.shape c.requires.structure)))
    content c.args.body c.payload_coming.result h c.payload_coming.ensures.gives
