-- The numbers of a table's shapes, as they are put one after the other.
use Rattle.std.proofs.Common.{◌≡◌, ℕ, suc, ◌+◌, Bool, true, false, cond, List, [], ◌∷◌, ◌++◌, ap, arith}
use Rattle.sm_model.specs.GraphView.{AreShapeNumbers, IsShapeNumber}
use Rattle.sm_model.specs.declared.graph.Graph.{Graph}
use Rattle.sm_compile.specs.Tabling.{is_tabled, tabled_below}

abbrev pub put : Bool → ℕ → List ℕ
put b n = cond b (n ∷ []) []

pub numbers_if : (g : Graph) (n : ℕ) (b : Bool) → IsShapeNumber g n → AreShapeNumbers g (put b n)
numbers_if g n true lt = (lt, tt)
numbers_if g n false lt = tt

pub tabled_more : (g : Graph) (marks : List Bool) (n : ℕ)
    → tabled_below g marks (n + 1) ≡ tabled_below g marks n ++ put (is_tabled g marks n) n
tabled_more g marks n = let next : n + 1 ≡ suc n = omega arith in ap (tabled_below g marks) next
