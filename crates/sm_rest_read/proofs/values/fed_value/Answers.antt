use Rattle.std.proofs.Common.{true, sym, ap, ◌∙◌, subst}
use Rattle.sm_json.specs.Stands.{json_source}
use Rattle.sm_shapes.specs.InOrder.{AreStored, DefaultsPass, Shaped}
use Rattle.sm_shapes.specs.TableView.{table_data}
use Rattle.sm_codec.specs.Codec.{codec_of}
use Rattle.sm_codec.specs.Conventions.{json_convention}
use Rattle.sm_bodies.specs.Fed.{SomeFed}
use Rattle.sm_rest.specs.messages.Heads.{is_empty}
use Rattle.sm_rest.specs.bind.BindingsView.{bindings_data}
use Rattle.sm_rest.specs.bind.BoundView.{bound_of}
use Rattle.sm_rest.specs.rest_heads.BodyParts.{rest_use}
use Rattle.sm_rest_read.specs.steps.Contents.{is_document}
use Rattle.sm_rest_read.proofs.PlacesJoined.{pass_there, stored_there}
use Rattle.sm_rest_read.proofs.ValuesJoined.{fed_given}
use Rattle.sm_rest_read.proofs.values.fed_value.Goals as goal

pub fed_content-content-requires-clause-shaped : goal.fed_content-content-requires-clause-shaped
fed_content-content-requires-clause-shaped g c = subst Shaped (sym c.documents-documents.ensures) c.requires.place.bindings.shaped

pub fed_content-content-requires-clause-stored : goal.fed_content-content-requires-clause-stored
fed_content-content-requires-clause-stored g c =
    let b = bound_of c.args.place.now in
    let d = bindings_data c.args.bindings.now in
    let added = g.P.Patterns.added c.args.patterns.now in
    subst (λ t. AreStored t.patterns added) (sym c.documents-documents.ensures)
    (stored_there b.table d added c.requires.place.bindings c.requires.stored)

pub fed_content-content-requires-clause-pass : goal.fed_content-content-requires-clause-pass
fed_content-content-requires-clause-pass g c =
    let b = bound_of c.args.place.now in
    let d = bindings_data c.args.bindings.now in
    subst (λ t. DefaultsPass t g.P.Patterns.test) (sym c.documents-documents.ensures)
    (pass_there b.table d (g.P.Patterns.added c.args.patterns.now) g.P.Patterns.test c.requires.place.bindings c.requires.stored c.requires.pass)

pub fed_content-content-requires-clause-fed : goal.fed_content-content-requires-clause-fed
fed_content-content-requires-clause-fed g c =
    subst (λ t. SomeFed json_source (codec_of t (json_convention true) g.P.Patterns.test) c.args.reader c.args.decoder)
    (sym c.documents-documents.ensures) c.requires.fed

pub returns-clause-joins : goal.returns-clause-joins
returns-clause-joins g c = λ shape bytes at full come.
    let b = bound_of c.args.place.now in
    let d = bindings_data c.args.bindings.now in
    c.joined_value.ensures.joins (rest_use b (is_empty bytes)) bytes
    (fed_given b d g.P.Patterns.test (table_data c.documents-documents.result.now) c.is_document-document.result c.args.reader c.args.decoder
    c.fed_content-content.result shape bytes c.documents-documents.ensures c.requires.place at full
    (c.is_document-document.ensures ∙ ap is_document c.part_at.ensures) c.fed_content-content.ensures.content come)
