-- Fields that are left out where they have nothing in them.
use Rattle.std.proofs.Common.{◌≡◌, ℕ, suc, Bool, false, cond, List, [], ◌∷◌, length, refl, sym, ap, arith}
use Rattle.std.specs.Prelude.{◌==◌}
use Rattle.std.proofs.lemmas.Bool.Decides.{nat_tests}
use Rattle.sm_tree.specs.Node.{Node, list, nodes_of, members_of}
use Rattle.sm_tree.specs.View.{nodes_view, members_view}
use Rattle.sm_tree.specs.declared.tree.Tree.{Tree}
use Rattle.sm_ast.specs.Written.{field_there, filled_list, filled_object, object_of}

not_none : (n : ℕ) → (suc n == 0) ≡ false
not_none n = grind (arith, nat_tests)

-- what is put for pairs, by whether there are any
abbrev pub put_pairs : Bool → List ℕ → List (List ℕ × Tree) → List (List ℕ × Node)
put_pairs empty name ps = cond empty [] ((name, object_of (members_view ps)) ∷ [])

pub filled_pairs : (name : List ℕ) (ps : List (List ℕ × Tree))
    → field_there name (filled_object (members_of (members_view ps))) ≡ put_pairs (length ps == 0) name ps
filled_pairs name [] = refl
filled_pairs name (p ∷ ps) = ap (λ b. put_pairs b name (p ∷ ps)) (sym (not_none (length ps)))

abbrev pub put_entries : Bool → List ℕ → List Tree → List (List ℕ × Node)
put_entries empty name ts = cond empty [] ((name, list (nodes_of (nodes_view ts))) ∷ [])

pub filled_entries : (name : List ℕ) (ts : List Tree)
    → field_there name (filled_list (nodes_of (nodes_view ts))) ≡ put_entries (length ts == 0) name ts
filled_entries name [] = refl
filled_entries name (t ∷ ts) = ap (λ b. put_entries b name (t ∷ ts)) (sym (not_none (length ts)))
