-- What the values that one trait of one shape is given come to, and those of one key of metadata (Smithy 2.0, "Merging models"):
-- equal values are one, two arrays that differ are joined, and of others the first stays, which is a conflict. They are taken in
-- the order in which they stand, each with what those before it have come to.
use Rattle.std.specs.Prelude.{◌≡◌, ◌⊎◌, List, [], ◌∷◌}
use Rattle.sm_tree.specs.Node.{Node, Nodes, list, no_nodes, node}
use Rattle.sm_tree.specs.Same.{Same}

-- entries of one list, and behind them those of another
abbrev pub joined : Nodes → Nodes → Nodes
joined no_nodes ms = ms
joined (node n ns) ms = node n (joined ns ms)

abbrev pub Differ : Node → Node → Type 0
Differ a b = Same a b → ⊥

-- two arrays that differ come to this one
abbrev pub AreJoined : Node → Node → Node → Type 0
AreJoined a b c = (xs : Nodes) × (ys : Nodes) × (a ≡ list xs) × (b ≡ list ys) × Differ a b × (c ≡ list (joined xs ys))

-- two values that differ, and not both are arrays
abbrev pub AreInConflict : Node → Node → Type 0
AreInConflict a b = Differ a b × ((xs ys : Nodes) → a ≡ list xs → b ≡ list ys → ⊥)

-- what a value comes to with the next one
abbrev pub ComeTo : Node → Node → Node → Type 0
ComeTo a b c = (Same a b × (c ≡ a)) ⊎ (AreJoined a b c ⊎ (AreInConflict a b × (c ≡ a)))

-- and with all that follow
abbrev pub AllComeTo : Node → List Node → Node → Type 0
AllComeTo a [] c = c ≡ a
AllComeTo a (b ∷ bs) c = (next : Node) × ComeTo a b next × AllComeTo next bs c

-- one that follows is in conflict with what those before it have come to
abbrev pub ConflictsAfter : Node → List Node → Type 0
ConflictsAfter a [] = ⊥
ConflictsAfter a (b ∷ bs) = AreInConflict a b ⊎ ((next : Node) × ComeTo a b next × ConflictsAfter next bs)

-- the values come to this one; no values come to none
abbrev pub IsValueOf : List Node → Node → Type 0
IsValueOf [] c = ⊥
IsValueOf (a ∷ bs) c = AllComeTo a bs c

abbrev pub HaveConflict : List Node → Type 0
HaveConflict [] = ⊥
HaveConflict (a ∷ bs) = ConflictsAfter a bs
