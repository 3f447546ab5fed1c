-- The way from a value to what of it isn't carried.
use Rattle.std.specs.Prelude.{List, [], ◌∷◌}
use Rattle.sm_tree.specs.declared.path.Step.{Step}
use Rattle.sm_tree.specs.declared.path.Step.TheVariants.{Index}
use Rattle.sm_part_texts.specs.declared.carried.Spot.{Spot}
use Rattle.sm_part_texts.specs.declared.carried.Spot.TheVariants.{Whole, Entry}

abbrev pub spot_path : Spot → List Step
spot_path Whole = []
spot_path (Entry i) = Index i ∷ []
