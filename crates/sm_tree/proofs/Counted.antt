-- For each number there is a list of so many entries, and an object of so many pairs, whose openers tell it.
use Rattle.std.proofs.Common.{◌≡◌, ℕ, zero, suc, [], ◌∷◌, refl, ap, subst, Some}
use Rattle.sm_tree.specs.Node.{Nodes, Members, null, list, object, no_nodes, node, no_members, member}
use Rattle.sm_tree.specs.Events.{start_list, start_object}
use Rattle.sm_tree.specs.Streams.{Streams, entry_count, pair_count, numbered_entries, numbered_pairs}
use Rattle.sm_tree.proofs.Streams.{numbered_stream}

abbrev pub nulls : ℕ → Nodes
nulls zero = no_nodes
nulls (suc k) = node null (nulls k)

nulls_count : (k : ℕ) → entry_count (nulls k) ≡ k
nulls_count zero = refl
nulls_count (suc k) = ap suc (nulls_count k)

pub nulls_stream : (k : ℕ) → Streams (list (nulls k)) (start_list (Some k) ∷ numbered_entries (nulls k) []) []
nulls_stream k = subst (λ j. Streams (list (nulls k)) (start_list (Some j) ∷ numbered_entries (nulls k) []) []) (nulls_count k)
    (numbered_stream (list (nulls k)) [])

abbrev pub null_pairs : ℕ → Members
null_pairs zero = no_members
null_pairs (suc k) = member [] null (null_pairs k)

null_pairs_count : (k : ℕ) → pair_count (null_pairs k) ≡ k
null_pairs_count zero = refl
null_pairs_count (suc k) = ap suc (null_pairs_count k)

pub null_pairs_stream : (k : ℕ) → Streams (object (null_pairs k)) (start_object (Some k) ∷ numbered_pairs (null_pairs k) []) []
null_pairs_stream k =
    subst (λ j. Streams (object (null_pairs k)) (start_object (Some j) ∷ numbered_pairs (null_pairs k) []) []) (null_pairs_count k)
    (numbered_stream (object (null_pairs k)) [])
