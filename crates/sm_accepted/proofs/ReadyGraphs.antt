-- What asks that no rule fails holds where none does: each shape of a graph is sound, and each service ready. Of a service that is ready
-- each shape is sound.
use Rattle.std.proofs.Common.{ℕ, List}
use Rattle.sm_model.specs.Graphs.{GraphMaps}
use Rattle.sm_compile.specs.Compiled.{IdSet}
use Rattle.sm_rules.specs.Ready.{IsOfService, NoneFailsIn}
use Rattle.sm_accepted.specs.Laws.{ReadyWhereNoneFails, SoundWhereNoneFails, SoundWhereReady}
use Rattle.sm_accepted.specs.NoneFails.{EachId}
use Rattle.sm_accepted.proofs.ClosedSets.{reached_inside, service_closed}
use Rattle.sm_accepted.proofs.SoundGraphs.{each_sound}

pub sound_graph : SoundWhereNoneFails
sound_graph g formed none root has_values id s reached there = each_sound g formed EachId none (λ from to inside step. tt) id tt s there

-- what fails nowhere in a set fails nowhere in a part of it
pub none_fails_within : (g : GraphMaps) (Part Whole : IdSet) → ((id : List ℕ) → Part id → Whole id) → NoneFailsIn g Whole
    → NoneFailsIn g Part
none_fails_within g Part Whole inside none = record {
  member_names = λ id detail h. none.member_names id detail (inside id h);
  missing = λ id detail h. none.missing id detail (inside id h);
  kinds = λ id detail h. none.kinds id detail (inside id h);
  values = λ id detail h. none.values id detail (inside id h);
  places = λ id detail h. none.places id detail (inside id h);
  exclusive = λ id detail h. none.exclusive id detail (inside id h);
  single = λ id detail h. none.single id detail (inside id h);
  enums = λ id detail h. none.enums id detail (inside id h);
  bounds = λ id detail h. none.bounds id detail (inside id h);
  names = λ id detail h. none.names id detail (inside id h);
  uris = λ id detail h. none.uris id detail (inside id h);
  labels = λ id detail h. none.labels id detail (inside id h);
  parts = λ id detail h. none.parts id detail (inside id h);
  wire_names = λ id detail h. none.wire_names id detail (inside id h);
  routes = λ id detail h. none.routes id detail (inside id h);
  numbers = λ id detail h. none.numbers id detail (inside id h);
}

pub ready_graph : ReadyWhereNoneFails
ready_graph g formed none service is = record {
  formed = formed;
  none = none_fails_within g (IsOfService g service) EachId (λ id of_service. tt) none;
}

pub sound_ready : SoundWhereReady
sound_ready g service is ready root of_service has_values id s reached there =
    let closed = service_closed g service is in
    let inside = reached_inside g (IsOfService g service) closed root id of_service reached in
    each_sound g (ready is).formed (IsOfService g service) (ready is).none closed id inside s there
