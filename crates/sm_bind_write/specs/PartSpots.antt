-- The way from the value of a member to what of it isn't carried.
use Rattle.std.specs.Prelude.{List, ◌∷◌}
use Rattle.sm_tree.specs.declared.path.Step.{Step}
use Rattle.sm_tree.specs.declared.path.Step.TheVariants.{Key}
use Rattle.sm_part_texts.specs.Spots.{spot_path}
use Rattle.sm_bind_write.specs.declared.spots.PartSpot.{PartSpot}
use Rattle.sm_bind_write.specs.declared.spots.PartSpot.TheVariants.{InValue, UnderKey}

abbrev pub part_path : PartSpot → List Step
part_path (InValue spot) = spot_path spot
part_path (UnderKey key spot) = Key key.now ∷ spot_path spot
