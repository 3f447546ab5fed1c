use Rattle.sm_model.specs.GraphView.{maps_of}
use Rattle.sm_trait_rules.proofs.PlacesPut.{places_put}
use Rattle.sm_trait_rules.proofs.both_places.put_places.Goals as goal

pub returns : goal.returns
returns c =
    places_put (maps_of c.args.graph.now) c.args.events.now.items _ _ c.in_ok-put_other_places.ensures c.in_ok-put_unpicked.ensures
