-- One step along links of some relations, from marked numbers.
use Rattle.std.specs.Prelude.{◌≡◌, ◌↔◌, ℕ, Bool, true, false, List}
use Rattle.std.specs.List.{Contains}
use Rattle.sm_model.specs.declared.link.Link.{Link}
use Rattle.sm_model.specs.declared.relation.Relation.{Relation}
use Rattle.sm_model.specs.Reaching.{IsMarked}

-- where a link begins and ends, or with `back` the other way
abbrev pub start_of : Bool → Link → ℕ
start_of false l = l.from
start_of true l = l.to

abbrev pub end_of : Bool → Link → ℕ
end_of false l = l.to
end_of true l = l.from

-- a link of one of these relations leads from a start to the number
abbrev pub Follows : List Relation → Bool → List Bool → Link → ℕ → Type 0
Follows relations back starts l b = Contains relations l.relation × IsMarked starts (start_of back l) × (end_of back l ≡ b)

-- exactly what they lead to is marked
abbrev pub AreFollowed : List Link → List Relation → Bool → List Bool → List Bool → Type 0
AreFollowed links relations back starts marks =
    (b : ℕ) → IsMarked marks b ↔ ((l : Link) × Contains links l × Follows relations back starts l b)
