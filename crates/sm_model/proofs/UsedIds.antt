-- The shape of the first id of a name, id by id.
use Rattle.std.proofs.Common.{◌≡◌, ℕ, cond, List, ◌∷◌, Option, Some, ap, ◌∙◌, bytes_eq}
use Rattle.sm_model.specs.Used.{name_part, shape_part, used_under}

-- an id before others is found first
pub first_more : (old new : List ℕ → Option (List ℕ)) (id : List ℕ) (ids : List (List ℕ))
    → ((q : List ℕ) → new q ≡ cond (bytes_eq (name_part id) q) (Some (shape_part id)) (old q)) → ((q : List ℕ) → old q ≡ used_under q ids)
    → (q : List ℕ) → new q ≡ used_under q (id ∷ ids)
first_more old new id ids changed h q = changed q ∙ ap (cond (bytes_eq (name_part id) q) (Some (shape_part id))) (h q)
