-- What stands under a name in an object, whose names may repeat.
use Rattle.std.specs.Prelude.{ℕ, Bool, true, false, cond, List, [], ◌∷◌, map}
use Rattle.std.specs.Str.{bytes_eq}
use Rattle.std.specs.Ordering.{nat_cmp, match_ordering}
use Rattle.std.specs.Cmp.Lexicographic.{slice_cmp}
use Rattle.sm_tree.specs.Node.{Node, null}

-- what stands under a name, in its order
abbrev pub named : {A : Type 0} → List ℕ → List (List ℕ × A) → List A
named name [] = []
named name (p ∷ ps) = cond (bytes_eq p.0 name) (p.1 ∷ named name ps) (named name ps)

abbrev pub names_of : {A : Type 0} → List (List ℕ × A) → List (List ℕ)
names_of ps = map (λ p. p.0) ps

abbrev pub is_null : Node → Bool
is_null null = true
is_null n = false

-- a name goes to its place among names in byte order, where it stands once
abbrev pub put_name : List ℕ → List (List ℕ) → List (List ℕ)
put_name name [] = name ∷ []
put_name name (k ∷ ks) = match_ordering (slice_cmp nat_cmp name k) (name ∷ k ∷ ks) (k ∷ ks) (k ∷ put_name name ks)

-- the names in byte order, each once
abbrev pub in_byte_order : List (List ℕ) → List (List ℕ)
in_byte_order [] = []
in_byte_order (name ∷ names) = put_name name (in_byte_order names)
