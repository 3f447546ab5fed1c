-- The first of several paths.
use Rattle.std.proofs.Common.{◌≡◌, true, false, List, [], ◌∷◌, ◌++◌, refl, ap}
use Rattle.std.specs.Prelude.{Some, None}
use Rattle.sm_tree.specs.declared.path.Step.{Step}
use Rattle.sm_codec.specs.Encoded.{are_none, first_path}
use Rattle.sm_codec.specs.Written.{paths_under}

pub first_under : (step : Step) (path : List Step) (paths : List (List Step)) → Some path ≡ first_path paths
    → Some (step ∷ path) ≡ first_path (paths_under step paths)
first_under step path [] h = absurd cc
first_under step path (other ∷ paths) h = let same : path ≡ other = cc in ap (λ p. Some (step ∷ p)) same

pub none_under : (step : Step) (paths : List (List Step)) → None ≡ first_path paths → None ≡ first_path (paths_under step paths)
none_under step [] h = refl
none_under step (path ∷ paths) h = absurd cc

pub first_joined : (path : List Step) (paths more : List (List Step)) → Some path ≡ first_path paths → Some path ≡ first_path (paths ++ more)
first_joined path [] more h = absurd cc
first_joined path (other ∷ paths) more h = h

pub none_joined : (paths more : List (List Step)) → None ≡ first_path paths → first_path (paths ++ more) ≡ first_path more
none_joined [] more h = refl
none_joined (path ∷ paths) more h = absurd cc

pub none_is : (paths : List (List Step)) → None ≡ first_path paths → paths ≡ []
none_is [] h = refl
none_is (path ∷ paths) h = absurd cc

pub are_none_first : (paths : List (List Step)) → None ≡ first_path paths → true ≡ are_none paths
are_none_first [] h = refl
are_none_first (path ∷ paths) h = absurd cc

pub not_none_first : (path : List Step) (paths : List (List Step)) → Some path ≡ first_path paths → false ≡ are_none paths
not_none_first path [] h = absurd cc
not_none_first path (other ∷ paths) h = refl

pub none_first : (paths : List (List Step)) → are_none paths ≡ true → None ≡ first_path paths
none_first [] h = refl
none_first (path ∷ paths) h = absurd cc

pub first_of_some : (step : Step) (paths more : List (List Step)) → are_none paths ≡ false
    → first_path (paths_under step paths ++ more) ≡ first_path (paths_under step paths)
first_of_some step [] more h = absurd cc
first_of_some step (path ∷ paths) more h = refl
