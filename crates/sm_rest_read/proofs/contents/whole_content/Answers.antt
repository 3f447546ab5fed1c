use Rattle.std.proofs.Common.{◌≡◌, false, rules, sym, ap, ◌∙◌, subst}
use Rattle.sm_rest.specs.messages.Heads.{is_empty}
use Rattle.sm_rest.specs.bind.BindingsView.{bindings_data, body_at}
use Rattle.sm_rest.specs.bind.BoundView.{bound_of}
use Rattle.sm_rest.specs.rest_heads.BodyParts.{rest_use, use_by}
use Rattle.sm_rest_read.specs.Begun.{bindings_codec}
use Rattle.sm_rest_read.specs.steps.Contents.{GivesContent, is_document}
use Rattle.sm_rest_read.proofs.BodyShapes.{document_is}
use Rattle.sm_rest_read.proofs.ValuesJoined.{raw_given, unread_given}
use Rattle.sm_rest_read.proofs.contents.whole_content.Goals as goal

pub json_content-requires-clause-document : goal.json_content-requires-clause-document
json_content-requires-clause-document g c =
    document_is (bound_of c.args.place.now) ∙ ap is_document (sym c.part_at.ensures ∙ c.in-Document.is)

pub json_content-requires-clause-json : goal.json_content-requires-clause-json
json_content-requires-clause-json g c = ap (λ p. use_by p false) (sym c.part_at.ensures ∙ c.in-Document.is)

pub json_content-requires-in-Tree-clause-document : goal.json_content-requires-in-Tree-clause-document
json_content-requires-in-Tree-clause-document g c =
    document_is (bound_of c.args.place.now) ∙ ap is_document (sym c.part_at.ensures ∙ c.in-Tree.is)

pub json_content-requires-in-Tree-clause-json : goal.json_content-requires-in-Tree-clause-json
json_content-requires-in-Tree-clause-json g c = ap (λ p. use_by p false) (sym c.part_at.ensures ∙ c.in-Tree.is)

pub returns-in-Document-clause-content : goal.returns-in-Document-clause-content
returns-in-Document-clause-content g c =
    let b = bound_of c.args.place.now in
    let d = bindings_data c.args.bindings.now in
    let same : c.as_slice.result.now ≡ c.args.bytes = search rules in
    subst (λ u. GivesContent b (rest_use b (is_empty u)) (bindings_codec d g.P.Patterns.test) (body_at d b.side b.shape) u c.json_content.result)
    same c.json_content.ensures.content

pub returns-in-Tree-clause-content : goal.returns-in-Tree-clause-content
returns-in-Tree-clause-content g c =
    let b = bound_of c.args.place.now in
    let d = bindings_data c.args.bindings.now in
    let same : c.as_slice-in-Tree.result.now ≡ c.args.bytes = search rules in
    subst (λ u. GivesContent b (rest_use b (is_empty u)) (bindings_codec d g.P.Patterns.test) (body_at d b.side b.shape) u
    c.json_content-in-Tree.result) same c.json_content-in-Tree.ensures.content

pub returns-in-Raw-clause-content : goal.returns-in-Raw-clause-content
returns-in-Raw-clause-content g c =
    let b = bound_of c.args.place.now in
    let d = bindings_data c.args.bindings.now in
    raw_given b (bindings_codec d g.P.Patterns.test) (body_at d b.side b.shape) c.in-Raw.field-0 c.args.bytes
    (sym c.part_at.ensures ∙ c.in-Raw.is)

pub returns-in-Nothing-clause-content : goal.returns-in-Nothing-clause-content
returns-in-Nothing-clause-content g c =
    let b = bound_of c.args.place.now in
    let d = bindings_data c.args.bindings.now in
    unread_given b (bindings_codec d g.P.Patterns.test) (body_at d b.side b.shape) c.args.bytes
    (sym c.part_at.ensures ∙ c.in-Nothing.is)
