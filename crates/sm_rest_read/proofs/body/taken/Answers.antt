use Rattle.std.proofs.Common.{refl, subst, sym, true}
use Rattle.sm_json.specs.Stands.{json_source}
use Rattle.sm_shapes.specs.InOrder.{AreStored, Shaped}
use Rattle.sm_codec.specs.Codec.{codec_of}
use Rattle.sm_codec.specs.Conventions.{json_convention}
use Rattle.sm_bodies.specs.Fed.{SomeFed}
use Rattle.sm_rest.specs.service.ServiceView.{service_data}
use Rattle.sm_rest.specs.messages.Pieces.{FeedsOn, MayTake}
use Rattle.sm_rest.specs.bind.BindingsView.{bindings_data}
use Rattle.sm_rest_read.specs.Begun.{TakesRest, rest_codec, rest_state}
use Rattle.sm_rest_read.specs.declared.body.RestBody.TheVariants.{Fed}
use Rattle.sm_rest_read.proofs.PlacesJoined.{stored_there}
use Rattle.sm_rest_read.proofs.body.taken.Goals as goal

pub fed_with-requires-clause-shaped : goal.fed_with-requires-clause-shaped
fed_with-requires-clause-shaped g c = subst Shaped (sym c.documents-documents.ensures) c.requires.rest.bindings.shaped

pub fed_with-requires-clause-stored : goal.fed_with-requires-clause-stored
fed_with-requires-clause-stored g c =
    subst (λ t. AreStored t.patterns (g.P.Patterns.added c.args.patterns.now)) (sym c.documents-documents.ensures)
    (stored_there (service_data c.args.service.now).table (bindings_data c.args.rest.now.bindings) (g.P.Patterns.added c.args.patterns.now)
    c.requires.rest.bindings c.requires.stored)

pub fed_with-requires-clause-fed : goal.fed_with-requires-clause-fed
fed_with-requires-clause-fed g c =
    subst (λ t. SomeFed json_source (codec_of t (json_convention true) g.P.Patterns.test) c.in-Fed.reader c.in-Fed.decoder)
    (sym c.documents-documents.ensures)
    (subst (λ b. MayTake json_source (rest_codec c.args.rest.now g.P.Patterns.test) (rest_state b)) c.in-Fed.is c.requires.takes)

pub returns-in-Ok-fed_with-clause-takes : goal.returns-in-Ok-fed_with-clause-takes
returns-in-Ok-fed_with-clause-takes g c =
    let codec = rest_codec c.args.rest.now g.P.Patterns.test in
    let made = c.in-Ok-fed_with.field-0 in
    let on : FeedsOn json_source codec c.in-Fed.reader c.in-Fed.decoder c.args.bytes.now made.reader made.decoder =
    subst (λ t. FeedsOn json_source (codec_of t (json_convention true) g.P.Patterns.test) c.in-Fed.reader c.in-Fed.decoder c.args.bytes.now
    made.reader made.decoder) c.documents-documents.ensures c.in-Ok-fed_with.ensures.fed
    in
    subst (λ b. TakesRest codec b c.args.bytes.now (Fed c.in-Fed.operation c.in-Fed.parts made.reader made.decoder)) (sym c.in-Fed.is)
    (made.reader, made.decoder, refl, on)
