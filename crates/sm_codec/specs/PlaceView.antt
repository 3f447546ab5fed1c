-- What a place of the code stands for.
use Rattle.sm_shapes.specs.Places.{Place, root_place, member_place}
use Rattle.sm_codec.specs.declared.places.ValuePlace.{ValuePlace}
use Rattle.sm_codec.specs.declared.places.ValuePlace.TheVariants.{Root, Member}

abbrev pub place_of : ValuePlace → Place
place_of (Root s) = root_place s
place_of (Member k) = member_place k
