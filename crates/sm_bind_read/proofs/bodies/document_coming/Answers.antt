use Rattle.std.proofs.Common.{true, subst}
use Rattle.sm_codec.specs.Codec.{codec_of}
use Rattle.sm_codec.specs.Conventions.{json_convention}
use Rattle.sm_bind.specs.BindingsView.{bindings_data, body_at, bound_side}
use Rattle.sm_bind.specs.BoundView.{bound_of}
use Rattle.sm_bind_read.specs.Outcomes.{StandsForContent}
use Rattle.sm_bind_read.proofs.BodyGives.{no_body, raw_body}
use Rattle.sm_bind_read.proofs.bodies.document_coming.Goals as goal

pub returns-in-Tree : goal.returns-in-Tree
returns-in-Tree c = λ test parts content h.
    let s = bindings_data c.args.bindings.now in
    let shape = body_at s (bound_side c.args.place.now.side) c.args.place.now.shape in
    c.document_outcome.ensures test parts content
    (subst (StandsForContent (bound_of c.args.place.now) (codec_of s.documents (json_convention true) test) shape content) c.in-Tree.is h)

pub returns-in-Empty : goal.returns-in-Empty
returns-in-Empty c = λ test parts content h.
    let s = bindings_data c.args.bindings.now in
    let shape = body_at s (bound_side c.args.place.now.side) c.args.place.now.shape in
    no_body (bound_of c.args.place.now) s.documents c.requires.bindings.extends c.requires.shaped c.requires.bindings.shaped test parts
    c.requires.shape c.requires.own c.requires.document shape content c.nothing.result
    (subst (StandsForContent (bound_of c.args.place.now) (codec_of s.documents (json_convention true) test) shape content) c.in-Empty.is h)
    c.nothing.ensures

pub returns : goal.returns
returns c = λ test parts content h.
    let s = bindings_data c.args.bindings.now in
    let shape = body_at s (bound_side c.args.place.now.side) c.args.place.now.shape in
    raw_body (bound_of c.args.place.now) s.documents c.requires.bindings.extends c.requires.shaped c.requires.bindings.shaped test parts
    c.requires.shape c.requires.own c.requires.document shape content _ c.nothing-in-Raw.result
    (subst (StandsForContent (bound_of c.args.place.now) (codec_of s.documents (json_convention true) test) shape content) c.in-Raw.is h)
    c.nothing-in-Raw.ensures
