-- A service by its id and by its number in a graph.
use Rattle.std.proofs.Common.{◌≡◌, ℕ, List, None, Some, sym, ◌∙◌}
use Rattle.std.specs.FinMap as fin
use Rattle.sm_model.specs.GraphView.{At, Stands, maps_of}
use Rattle.sm_model.specs.Graphs.{GraphMaps, shape_entry}
use Rattle.sm_model.specs.declared.graph.Graph.{Graph}
use Rattle.sm_model.proofs.NumberedIds.{entry_here}
use Rattle.sm_rules.specs.Words.{IsService}

-- where nothing of an id's form stands, no service does
pub none_there : (g : GraphMaps) (id : List ℕ) → fin.get g.shapes id ≡ None → IsService g id → ⊥
none_there g id none (s, own, kind) = let e : None ≡ Some (shape_entry s) = sym none ∙ own.0 in cc

-- the id that is found at the number of an id is this id
pub id_found : (g : Graph) (s : ℕ) (id found : List ℕ) → Stands g s id → At g s (λ at e. found ≡ at) → found ≡ id
id_found g s id found h k =
    (entry_here g s (λ at e. found ≡ at) k).2
    ∙ (entry_here g s (λ at e. (at ≡ id) × (fin.get (maps_of g).shapes id ≡ Some e)) h).2.0
