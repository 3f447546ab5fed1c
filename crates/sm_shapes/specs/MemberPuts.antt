-- Something put at each member of a table, in the order of their numbers.
use Rattle.std.specs.Prelude.{List, [], ◌∷◌}
use Rattle.sm_shapes.specs.TableData.{MemberData}

-- where there is less to put than there are members, those behind stay as they are
abbrev pub put_each : {X : Type 0} → (MemberData → X → MemberData) → List MemberData → List X → List MemberData
put_each put [] xs = []
put_each put (m ∷ ms) [] = m ∷ ms
put_each put (m ∷ ms) (x ∷ xs) = put m x ∷ put_each put ms xs
