use Rattle.sm_bind.specs.BindingsView.{bindings_data, body_at, bound_side}
use Rattle.sm_bind.specs.BoundView.{bound_of}
use Rattle.sm_codec.specs.Codec.{codec_of}
use Rattle.sm_codec.specs.Conventions.{json_convention}
use Rattle.sm_bind_read.specs.Outcomes.{StandsForContent}
use Rattle.sm_bind_read.specs.declared.body.PartBody.TheVariants.{Tree}
use Rattle.sm_bind_read.proofs.BodyGives.{bad_body, good_body, whole_body}
use Rattle.sm_bind_read.proofs.BoundStands.{body_stands}
use Rattle.std.proofs.lemmas.Bool.{true≢false}
use Rattle.std.proofs.Common.{true, sym, subst, ◌∙◌}
use Rattle.sm_bind_read.proofs.bodies.document_outcome.Goals as goal

pub returns-in-Good : goal.returns-in-Good
returns-in-Good c = λ test parts content h.
    let s = bindings_data c.args.bindings.now in
    let b = bound_of c.args.place.now in
    let shape = body_at s (bound_side c.args.place.now.side) c.args.place.now.shape in
    good_body b s.documents c.requires.bindings.extends c.requires.shaped c.requires.bindings.shaped test parts c.requires.shape c.requires.own
    c.requires.document shape
    (body_stands b s.documents shape
    (c.requires.bindings.each (bound_side c.args.place.now.side) c.args.place.now.shape c.requires.shape c.requires.structure)) content
    c.in-Good.value c.document_copies.result c.last_first.result
    (subst (λ o. StandsForContent b (codec_of s.documents (json_convention true) test) shape content (Tree o)) c.in-Good.is h)
    c.document_copies.ensures c.last_first.ensures

pub returns-then-is_whole : goal.returns-then-is_whole
returns-then-is_whole c = λ test parts content h.
    let s = bindings_data c.args.bindings.now in
    let b = bound_of c.args.place.now in
    let shape = body_at s (bound_side c.args.place.now.side) c.args.place.now.shape in
    whole_body b s.documents c.requires.bindings.extends c.requires.shaped c.requires.bindings.shaped test parts c.requires.shape c.requires.own
    c.requires.document shape
    (body_stands b s.documents shape
    (c.requires.bindings.each (bound_side c.args.place.now.side) c.args.place.now.shape c.requires.shape c.requires.structure)) content
    c.in-Bad.fault
    (subst (λ o. StandsForContent b (codec_of s.documents (json_convention true) test) shape content (Tree o)) c.in-Bad.is h)
    (c.is_whole.ensures.0 c.if-is_whole.true)

pub returns-else-is_whole : goal.returns-else-is_whole
returns-else-is_whole c = λ test parts content h.
    let s = bindings_data c.args.bindings.now in
    let b = bound_of c.args.place.now in
    let shape = body_at s (bound_side c.args.place.now.side) c.args.place.now.shape in
    bad_body b s.documents c.requires.bindings.extends c.requires.shaped c.requires.bindings.shaped test parts c.requires.shape c.requires.own
    c.requires.document shape
    (body_stands b s.documents shape
    (c.requires.bindings.each (bound_side c.args.place.now.side) c.args.place.now.shape c.requires.shape c.requires.structure)) content
    c.in-Bad.fault
    (subst (λ o. StandsForContent b (codec_of s.documents (json_convention true) test) shape content (Tree o)) c.in-Bad.is h)
    (λ whole. true≢false (sym (c.is_whole.ensures.1 whole) ∙ c.if-is_whole.false))
