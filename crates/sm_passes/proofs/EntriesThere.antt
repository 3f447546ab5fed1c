-- What stands at the numbers of a graph.
use Rattle.std.proofs.Common.{◌+◌, ◌<◌, ℕ, List, drop, length, sym, subst}
use Rattle.std.proofs.lemmas.List.{drop_more}
use Rattle.sm_model.specs.Graphs.{Entry}
use Rattle.sm_model.specs.GraphView.{AreShapeNumbers, IsShapeNumber, maps_of}
use Rattle.sm_model.specs.Reaching.{id_of_number}
use Rattle.sm_model.specs.Relations.{HasEntry}
use Rattle.sm_model.specs.declared.graph.Graph.{Graph}
use Rattle.sm_model.proofs.GraphFacts.{entry_under, id_at}
use Rattle.sm_model.proofs.LinkNumbers.{stands_at}

-- something stands at each number
pub entry_there : (g : Graph) (k : ℕ) → IsShapeNumber g k → (e : Entry) × HasEntry (maps_of g) (id_of_number g k) e
entry_there g k within =
    let s = stands_at g k within in
    (s.1, subst (λ i. HasEntry (maps_of g) i s.1) (sym (id_at g k s.0 s.1 s.2)) (entry_under g k s.0 s.1 s.2))

-- where numbers are those of a graph from a place on, they are behind it
pub numbers_behind : (g : Graph) (ks : List ℕ) (i : ℕ) → i < length ks → AreShapeNumbers g (drop i ks)
    → AreShapeNumbers g (drop (i + 1) ks)
numbers_behind g ks i within all = (subst (AreShapeNumbers g) (drop_more ks i 0 within) all).1
