-- Values taken one after the other: where the fold begins, one more value, and where it ends.
use Rattle.std.proofs.Common.{◌≡◌, ◌⊎◌, inl, inr, ℕ, ◌+◌, ◌-◌, ◌^◌, min, Bool, false, cond, List, [], ◌∷◌, ◌++◌, arith, refl}
use Rattle.std.proofs.Common.{sym, ap, subst, ◌∙◌}
use Rattle.std.specs.Prelude.{IsTrue, ◌↔◌}
use Rattle.sm_bytes.specs.Lengths.{length_word}
use Rattle.sm_tree.specs.Json.{AreJson}
use Rattle.sm_tree.specs.Node.{Node, Nodes, list, no_nodes, node, nodes_of}
use Rattle.sm_tree.specs.Same.{HaveDistinctNames, IsNode, Same}
use Rattle.sm_tree.specs.Size.{node_size, nodes_size}
use Rattle.sm_tree.proofs.SameSizes.{same_size}
use Rattle.sm_merge.specs.Values.{joined, AreInConflict, ComeTo, ConflictsAfter}
use Rattle.sm_merge.specs.steps.Folding.{IsFoldOf}
use Rattle.sm_merge.proofs.OneValue.{one_step}

not_true : IsTrue false → ⊥
not_true h = subst (λ b. cond b ⊥ (Unit {0})) h tt

-- trees that count differently aren't the same
pub sizes_apart : (a b : Node) (m n : ℕ) → IsNode a → IsNode b → m ≡ length_word (node_size a) → n ≡ length_word (node_size b) → (m ≡ n → ⊥)
    → (IsTrue false → Same a b) × (Same a b → IsTrue false)
sizes_apart a b m n h k of_a of_b apart = (
  λ same. absurd (not_true same),
  λ same. absurd (apart (of_a ∙ ap length_word (same_size a b h.1 k.1 same) ∙ sym of_b)),
)

pub fold_step : (first : Node) (all : List Node) (value next after : Node) (rest : List Node) (conflict again : Bool)
    → IsFoldOf first all value (next ∷ rest) conflict → ComeTo value next after
    → (IsTrue again ↔ (IsTrue conflict ⊎ AreInConflict value next))
    → IsFoldOf first all after rest again
fold_step first all value next after rest conflict again h came told = record {
  comes = λ c behind. h.comes c (after, came, behind);
  was = λ is. elim (told.0 is) [
    | inl before ↦ h.was before
    | inr here ↦ h.will (inl here)
  ];
  will = λ later. h.will (inr (after, came, later));
  no_other = λ some. elim (h.no_other some) [
    | inl before ↦ inl (told.1 (inl before))
    | inr (inl here) ↦ inl (told.1 (inr here))
    | inr (inr (other, by, later)) ↦ inr (subst (λ n. ConflictsAfter n rest) (one_step value next other after by came) later)
  ];
}

-- entries of one array behind those of another
pub entries_joined : (ns ms : List Node) → nodes_of (ns ++ ms) ≡ joined (nodes_of ns) (nodes_of ms)
entries_joined [] ms = refl
entries_joined (n ∷ ns) ms = ap (node n) (entries_joined ns ms)

json_joined : (ns ms : Nodes) → AreJson ns → AreJson ms → AreJson (joined ns ms)
json_joined no_nodes ms h k = k
json_joined (node n ns) ms h k = (h.0, json_joined ns ms h.1 k)

distinct_joined : (ns ms : Nodes) → HaveDistinctNames ns → HaveDistinctNames ms → HaveDistinctNames (joined ns ms)
distinct_joined no_nodes ms h k = k
distinct_joined (node n ns) ms h k = (h.0, distinct_joined ns ms h.1 k)

pub node_joined : (ns ms : Nodes) → IsNode (list ns) → IsNode (list ms) → IsNode (list (joined ns ms))
node_joined ns ms h k = (json_joined ns ms h.0 k.0, distinct_joined ns ms h.1 k.1)

pub size_joined : (ns ms : Nodes) → nodes_size (joined ns ms) ≡ nodes_size ns + nodes_size ms
size_joined no_nodes ms = omega arith
size_joined (node n ns) ms = let rest = size_joined ns ms in omega (arith, rest)

-- two arrays are in no conflict
pub told_joined : (before : Bool) (xs ys : Nodes) → IsTrue before ↔ (IsTrue before ⊎ AreInConflict (list xs) (list ys))
told_joined before xs ys = (
  λ is. inl is,
  λ some. elim some [
    | inl is ↦ is
    | inr conflict ↦ absurd (conflict.1 xs ys refl refl)
  ],
)

pub sizes_added : (m n r a b : ℕ) → m ≡ length_word (1 + a) → n ≡ length_word (1 + b) → r ≡ min (m + (n - 1)) (2 ^ 64 - 1)
    → r ≡ length_word (1 + (a + b))
sizes_added m n r a b h k e = omega (arith, h, k, e)
