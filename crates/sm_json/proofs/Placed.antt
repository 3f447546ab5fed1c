-- Bytes placed one after the other.
use Rattle.std.proofs.Common.{◌≡◌, ℕ, List, ◌++◌, ap, ◌∙◌, append_assoc}
use Rattle.sm_tree.proofs.ListEnds.{placed_twice}

-- p and then w were placed behind a, and more is to come
pub placed_before : (a between after p w r : List ℕ) → between ≡ a ++ p → after ≡ between ++ w → after ++ r ≡ a ++ (p ++ (w ++ r))
placed_before a between after p w r first second =
    ap (λ l. l ++ r) (placed_twice a between after p w first second) ∙ append_assoc a (p ++ w) r ∙ ap (λ l. a ++ l) (append_assoc p w r)
