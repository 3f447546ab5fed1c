-- What a graph that was read has beside its form (`AreGiven` of sm_model) and its names (`AreNamed` there): the values of traits and
-- metadata nest no more levels than are read.
use Rattle.std.specs.Prelude.{ℕ, ◌≤◌, List, [], ◌∷◌}
use Rattle.sm_tree.specs.Levels.{levels}
use Rattle.sm_tree.specs.Limits.{most_levels}
use Rattle.sm_tree.specs.Node.{Node}
use Rattle.sm_model.specs.Graphs.{MemberGiven, ShapeGiven}

-- levels: the parentheses of a trait may hold one more than the braces of its node
abbrev pub NestFew : List (List ℕ × Node) → Type 0
NestFew [] = Unit {0}
NestFew (m ∷ ms) = (levels m.1 ≤ most_levels) × NestFew ms

abbrev pub MembersNestFew : List MemberGiven → Type 0
MembersNestFew [] = Unit {0}
MembersNestFew (m ∷ ms) = NestFew m.traits × MembersNestFew ms

abbrev pub ShapesNestFew : List ShapeGiven → Type 0
ShapesNestFew [] = Unit {0}
ShapesNestFew (s ∷ ss) = NestFew s.traits × MembersNestFew s.members × ShapesNestFew ss

pub record AreFew (shapes : List ShapeGiven) (metadata : List (List ℕ × Node)) : Type 0 where
  pub traits : ShapesNestFew shapes
  pub metadata_is : NestFew metadata
