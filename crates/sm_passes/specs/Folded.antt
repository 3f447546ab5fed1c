-- Ids of shapes outside of the prelude without regard to case, by number.
use Rattle.std.specs.Prelude.{◌++◌, ◌∷◌, [], ℕ, zero, suc, List, cond, map}
use Rattle.std.specs.Char.{to_ascii_lowercase}
use Rattle.std.specs.FinMap as fin
use Rattle.sm_model.specs.GraphView.{maps_of}
use Rattle.sm_model.specs.Reaching.{id_of_number}
use Rattle.sm_model.specs.declared.graph.Graph.{Graph}
use Rattle.sm_passes.specs.Owned.{is_own_shape}

abbrev pub folded : List ℕ → List ℕ
folded t = map to_ascii_lowercase t

-- of the numbers below this one, in order
abbrev pub folded_at : Graph → ℕ → List (List ℕ × ℕ)
folded_at g k = cond (is_own_shape (maps_of g) (id_of_number g k)) ((folded (id_of_number g k), k) ∷ []) []

abbrev pub folded_below : Graph → ℕ → List (List ℕ × ℕ)
folded_below g zero = []
folded_below g (suc n) = folded_below g n ++ folded_at g n
