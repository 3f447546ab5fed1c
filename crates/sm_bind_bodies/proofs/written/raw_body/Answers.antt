use Rattle.std.proofs.Common.{◌≡◌, false, cond, sym, ap, ◌∙◌}
use Rattle.std.specs.List.{list_any}
use Rattle.std.proofs.lemmas.Option.{IfSome_then}
use Rattle.sm_tree.specs.Node.{object}
use Rattle.sm_shapes.specs.ValueView.{val_of}
use Rattle.sm_bind_write.specs.messages.MessageForm.{a_tree}
use Rattle.sm_bind_write.specs.messages.TreeBodies.{fields_in}
use Rattle.sm_bind_write.specs.bind.BoundView.{bound_of}
use Rattle.sm_bind_write.specs.bind.Roles.{has_document, is_in_document}
use Rattle.sm_bind_write.specs.WrittenParts.{document_pairs, payload_among}
use Rattle.sm_bind_bodies.specs.WrittenBodies.{content_bytes}
use Rattle.sm_bind_bodies.proofs.written.raw_body.Goals as goal

pub returns : goal.returns
returns c =
    let b = bound_of c.args.place.now in
    let fs = fields_in (val_of c.args.value.now) in
    let none : has_document b ≡ false =
    sym (c.has_document.ensures ∙ ap (list_any (is_in_document b)) c.members-members.ensures) ∙ c.if-has_document.false in
    IfSome_then c.raw_payload.result c.raw_payload.ensures
    (λ bytes h. ap (λ t. content_bytes (cond t (a_tree (object (document_pairs b fs))) (payload_among b fs))) none
    ∙ sym (ap (λ gs. content_bytes (payload_among b gs)) c.fields_in.ensures) ∙ h)
