use Rattle.std.proofs.Common.{◌^◌, ◌<◌, length, codes, ap, ◌∙◌, arith}
use Rattle.std.proofs.lemmas.List.{length-map}
use Rattle.sm_tree.specs.Node.{text, object, no_members, member}
use Rattle.sm_tree.specs.View.{node_of}
use Rattle.sm_codec.specs.PlaceView.{place_of}
use Rattle.sm_schema.specs.Definitions.{reference_text}
use Rattle.sm_schema.specs.steps.Joined.{joined}
use Rattle.sm_schema.specs.steps.Numbered.{places_in}
use Rattle.sm_schema.proofs.describing.schema_of.Goals as goal

pub returns : goal.returns
returns c =
    let places = c.in_ok-all.all.places in
    let few : length places.items < 2 ^ 64 = omega (arith, places.ok.0, places.ok.1, places.small) in
    let defs = node_of c.object_of.result.tree in
    let url = text (codes "https://json-schema.org/draft/2020-12/schema") in
    record {
      places = places_in c.in_ok-all.all;
      turns = c.in_ok-all.ensures.listed.0;
      listed = c.in_ok-all.ensures.listed.1;
      few = omega (arith, length-map places.items place_of, few);
      is = c.object_of-2.ensures
          ∙ ap object (c.in_ok-put.ensures no_members ∙ c.in_ok-put_text-2.ensures (member (codes "$defs") defs no_members)
          ∙ c.in_ok-put_text.ensures (member (codes "$ref") (text c.first_reference.result.now) (member (codes "$defs") defs no_members))
          ∙ ap (λ ps. joined ps (member (codes "$schema") url (member (codes "$ref") (text c.first_reference.result.now)
          (member (codes "$defs") defs no_members)))) c.no_pairs-pairs.ensures)
          ∙ ap (λ u. object (member (codes "$schema") url (member (codes "$ref") (text u) (member (codes "$defs") defs no_members))))
          c.first_reference.ensures
          ∙ ap (λ n. object (member (codes "$schema") url (member (codes "$ref") (text (reference_text 0))
          (member (codes "$defs") n no_members)))) (c.object_of.ensures ∙ ap object c.in_ok-definitions.ensures);
    }
