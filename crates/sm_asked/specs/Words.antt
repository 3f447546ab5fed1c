-- Words over model files: the forms that commands share.
use Rattle.std.specs.Prelude.{◌≡◌, ◌<◌, ℕ, List, [], ◌∷◌, ◌++◌, length}

-- the words are a command's name, one model file or more, and a last word
pub record AreOverModels (words : List (List ℕ)) (name : List ℕ) (models : List (List ℕ)) (last : List ℕ) : Type 0 where
  pub some : 0 < length models
  pub are : words ≡ name ∷ (models ++ last ∷ [])

-- or they are a command's name, and one model file or more
pub record AreModelsAlone (words : List (List ℕ)) (name : List ℕ) (models : List (List ℕ)) : Type 0 where
  pub some : 0 < length models
  pub are : words ≡ name ∷ models
