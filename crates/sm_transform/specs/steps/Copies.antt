-- Copies of what stands in a graph, as a graph is made of them.
use Rattle.std.specs.Prelude.{◌≡◌, ◌<◌, ℕ, Bool, List, [], ◌∷◌, map}
use Rattle.std.specs.FinMap as fin
use Rattle.std.specs.List.{Contains}
use Rattle.sm_ids.specs.TextParts.{member_name}
use Rattle.sm_model.specs.Formed.{DifferInNames}
use Rattle.sm_model.specs.Given.{given_ids}
use Rattle.sm_model.specs.Graphs.{Entry, MemberGiven, ShapeGiven, member_entry, shape_entry, traits_in}
use Rattle.sm_model.specs.GraphView.{At, HasBodyNode, HasKind, HasMembers, IsShapeAt}
use Rattle.sm_model.specs.Reaching.{IsMarked, id_of_number}
use Rattle.sm_model.specs.declared.graph.Graph.{Graph}

-- of a member
abbrev pub IsMemberCopy : MemberGiven → List ℕ → Entry → Type 0
IsMemberCopy m id (shape_entry s) = ⊥
IsMemberCopy m id (member_entry e) = (m.name ≡ member_name id) × (m.target ≡ e.target) × (m.traits ≡ fin.entries e.traits)

-- of the members at these numbers
abbrev pub AreMemberCopies : Graph → List ℕ → List MemberGiven → Type 0
AreMemberCopies g [] [] = Unit {0}
AreMemberCopies g [] (m ∷ ms) = ⊥
AreMemberCopies g (k ∷ ks) [] = ⊥
AreMemberCopies g (k ∷ ks) (m ∷ ms) = At g k (λ id e. IsMemberCopy m id e) × AreMemberCopies g ks ms

-- of a shape with its members
pub record IsShapeCopy (g : Graph) (number : ℕ) (s : ShapeGiven) : Type 0 where
  pub id : At g number (λ id e. s.id ≡ id)
  pub kind : At g number (λ id e. HasKind s.kind e)
  pub body : At g number (λ id e. HasBodyNode s.properties e)
  pub traits : At g number (λ id e. fin.entries (traits_in e) ≡ s.traits)
  pub numbers : List ℕ
  pub listed : At g number (λ id e. HasMembers (map (id_of_number g) numbers) e)
  pub members : AreMemberCopies g numbers s.members

-- of the shapes at marked numbers below one
pub record AreCopiesBelow (g : Graph) (marks : List Bool) (bound : ℕ) (ss : List ShapeGiven) : Type 0 where
  pub each : (s : ShapeGiven) → Contains ss s → (k : ℕ) × (k < bound) × IsMarked marks k × IsShapeAt g k × IsShapeCopy g k s
  pub all : (k : ℕ) → k < bound → IsMarked marks k → IsShapeAt g k → (s : ShapeGiven) × Contains ss s × IsShapeCopy g k s
  pub differ : DifferInNames (given_ids ss)
