-- What stands for a member comes to a value, and which maps have entries of which each is carried.
use Rattle.std.specs.Prelude.{◌≡◌, ℕ, false, List, [], ◌∷◌, drop, length, map, Ok}
use Rattle.sm_shapes.specs.Places.{Place}
use Rattle.sm_shapes.specs.Values.{EntryVals, Val, entry, no_entries}
use Rattle.sm_codec.specs.Readings.{Child}
use Rattle.sm_http.specs.declared.message.Field.{Field}
use Rattle.sm_parts.specs.HeaderLists.{joined_values}
use Rattle.sm_tree.specs.declared.path.Step.{Step}

-- one thing stands for it, which isn't null and comes to the value
abbrev pub ComeTo : Place → Val → List Child → Type 0
ComeTo p v [] = ⊥
ComeTo p v (child ∷ []) = (child.null ≡ false) × (child.reading p ≡ Ok v)
ComeTo p v (child ∷ more ∷ children) = ⊥

-- a map that isn't empty, and of whose values nothing is left behind
abbrev pub AreCarried : (Val → List (List Step)) → EntryVals → Type 0
AreCarried failing no_entries = Unit {0}
AreCarried failing (entry key v es) = (failing v ≡ []) × AreCarried failing es

abbrev pub HasEntries : EntryVals → Type 0
HasEntries no_entries = ⊥
HasEntries (entry key v es) = Unit {0}

-- fields by what stands behind a prefix of so many bytes in their names, each with its value alone
abbrev pub behind_prefix : ℕ → Field → List ℕ × List ℕ
behind_prefix n f = (drop n f.name, joined_values (f.value ∷ []))

abbrev pub texts_behind : List ℕ → List Field → List (List ℕ × List ℕ)
texts_behind prefix fields = map (behind_prefix (length prefix)) fields
