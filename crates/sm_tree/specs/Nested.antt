-- What a reader keeps of what is open round its place, from the inside out.
use Rattle.std.specs.Prelude.{◌≡◌, List, [], ◌∷◌, drop, Option, None, Some}
use Rattle.sm_tree.specs.declared.nested.Nested.{Nested}

abbrev pub nested_in : {T : Type 0} → Nested T → List T
nested_in n = drop n.first n.held

-- the innermost
abbrev pub innermost_of : {T : Type 0} → List T → Option T
innermost_of [] = None
innermost_of (t ∷ ts) = Some t

-- the innermost ends, if any is open
abbrev pub LosesInnermost : {T : Type 0} → List T → List T → Option T → Type 0
LosesInnermost before behind None = (before ≡ []) × (behind ≡ [])
LosesInnermost before behind (Some t) = before ≡ t ∷ behind
