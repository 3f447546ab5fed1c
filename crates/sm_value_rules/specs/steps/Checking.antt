-- Which shapes have a fault themselves, by number, and the links between values.
use Rattle.std.specs.Prelude.{◌≡◌, ◌⊎◌, ◌↔◌, ◌<◌, ◌&&◌, ℕ, Bool, false, not, List, MatchBool, Option, Some, None, get_or, length}
use Rattle.std.specs.List.{Contains}
use Rattle.sm_model.specs.GraphView.{entries_of, maps_of}
use Rattle.sm_model.specs.Links.{IsLinked}
use Rattle.sm_model.specs.Reaching.{id_of_number}
use Rattle.sm_model.specs.declared.graph.Graph.{Graph}
use Rattle.sm_model.specs.declared.kind.Kind.{Kind}
use Rattle.sm_model.specs.declared.link.Link.{Link}
use Rattle.sm_model.specs.declared.relation.Relation.{Relation}
use Rattle.sm_model.specs.declared.relation.Relation.TheVariants.{Member, Target}
use Rattle.sm_compile.specs.Kinds.{is_left_out, table_kind}
use Rattle.sm_compile.specs.Looked.{kind_under}
use Rattle.sm_compile.specs.Served.{IsLeftOut}
use Rattle.sm_compile.specs.Sound.{IsSoundAt}
use Rattle.sm_compile.specs.Tabling.{has_values_where}

-- what stands at a number is a shape that isn't in order, or one of a type left out
abbrev pub IsFaultyAt : Graph → ℕ → Type 0
IsFaultyAt g k = (IsSoundAt g k → ⊥) ⊎ IsLeftOut (maps_of g) (id_of_number g k)

-- or neither
abbrev pub IsFineAt : Graph → ℕ → Type 0
IsFineAt g k = IsSoundAt g k × (IsLeftOut (maps_of g) (id_of_number g k) → ⊥)

abbrev pub TellsFault : Graph → ℕ → Bool → Type 0
TellsFault g k b = MatchBool b (IsFaultyAt g k) (IsFineAt g k)

pub record AreFaultMarks (g : Graph) (marks : List Bool) : Type 0 where
  pub whole : length marks ≡ length (entries_of g)
  pub each : (k : ℕ) → k < length marks → TellsFault g k (get_or marks k false)

-- a relation by which a value has a part
abbrev pub IsOfValues : Relation → Type 0
IsOfValues relation = (relation ≡ Member) ⊎ (relation ≡ Target)

-- the links of a graph by these relations
abbrev pub AreValueLinks : Graph → List Link → Type 0
AreValueLinks g links = (l : Link) → Contains links l ↔ (IsLinked g l × IsOfValues l.relation)

-- those of a list by these relations
abbrev pub AreOfValues : List Link → List Link → Type 0
AreOfValues all links = (l : Link) → Contains links l ↔ (Contains all l × IsOfValues l.relation)

-- a type whose shapes tables leave out; a member has none
abbrev pub is_type_left_out : Option Kind → Bool
is_type_left_out None = false
is_type_left_out (Some kind) = is_left_out (table_kind kind)

-- a shape that has values, isn't faulty by these marks, and leads to none that is
abbrev pub has_values_at : Graph → ℕ → Bool
has_values_at g k = has_values_where (kind_under (maps_of g) (id_of_number g k))

abbrev pub is_checked_at : Graph → List Bool → List Bool → ℕ → Bool
is_checked_at g faulty before k = has_values_at g k && (not (get_or faulty k false) && not (get_or before k false))
