-- The relations that are followed where none is named are all but that from a member to its shape.
use Rattle.std.proofs.Common.{◌≡◌, inl, inr, ℕ, Bool, true, false, List, [], ◌∷◌, refl, sym, ap, ◌∙◌, subst, arith}
use Rattle.std.specs.Prelude.{◌↔◌, not}
use Rattle.std.specs.List.{AllByRecursion, Contains}
use Rattle.sm_model.specs.Graphs.{GraphMaps}
use Rattle.sm_model.specs.GraphView.{maps_of}
use Rattle.sm_model.specs.Relations.{IsNeighbor}
use Rattle.sm_model.specs.declared.graph.Graph.{Graph}
use Rattle.sm_model.specs.declared.relation.Relation.{Relation}
use Rattle.sm_model.specs.declared.relation.Relation.TheVariants.{Member, Container, Target, Input, Output, Error, Operation, Resource}
use Rattle.sm_model.specs.declared.relation.Relation.TheVariants.{Identifier, Property}
use Rattle.sm_model.proofs.Worklist.{apart}
use Rattle.sm_select.specs.Images.{AreImage, turned}
use Rattle.sm_select.specs.Picks.{LeadsAlong}
use Rattle.sm_select.proofs.ImageNumbers.{image_as}
use Rattle.sm_select.proofs.StepLists.{cons_cases}

abbrev pub followed_relations : List Relation
followed_relations = Member ∷ Target ∷ Input ∷ Output ∷ Error ∷ Operation ∷ Resource ∷ Identifier ∷ Property ∷ []

abbrev is_container : Relation → Bool
is_container Container = true
is_container Member = false
is_container Target = false
is_container Input = false
is_container Output = false
is_container Error = false
is_container Operation = false
is_container Resource = false
is_container Identifier = false
is_container Property = false

others_alone : (rs : List Relation) → AllByRecursion (λ x. is_container x ≡ false) rs → (r : Relation) → Contains rs r
    → is_container r ≡ false
others_alone [] all r h = absurd (omega (arith, h.1))
others_alone (x ∷ xs) all r h = elim (cons_cases x xs r h) [
  | inl is ↦ subst (λ y. is_container y ≡ false) is all.0
  | inr later ↦ others_alone xs all.1 r later
]

followed_others : AllByRecursion (λ x. is_container x ≡ false) followed_relations
followed_others = (refl, (refl, (refl, (refl, (refl, (refl, (refl, (refl, (refl, tt)))))))))

any_other : (r : Relation) → (r ≡ Container → ⊥) → Contains followed_relations r
any_other Member other = (0, omega arith, refl)
any_other Container other = absurd (other refl)
any_other Target other = (1, omega arith, refl)
any_other Input other = (2, omega arith, refl)
any_other Output other = (3, omega arith, refl)
any_other Error other = (4, omega arith, refl)
any_other Operation other = (5, omega arith, refl)
any_other Resource other = (6, omega arith, refl)
any_other Identifier other = (7, omega arith, refl)
any_other Property other = (8, omega arith, refl)

followed_neighbors : (m : GraphMaps) (a b : List ℕ) → LeadsAlong m followed_relations a b ↔ IsNeighbor m a b
followed_neighbors m a b = (
  λ h. (h.0, (λ e. apart (sym (others_alone followed_relations followed_others h.0 h.1) ∙ ap is_container e)), h.2),
  λ h. (h.0, any_other h.0 h.1, h.2),
)

-- the image by one such step, on and back, and by one the other way
turned_followed : (m : GraphMaps) (back : Bool) (a b : List ℕ)
    → turned back (LeadsAlong m followed_relations) a b ↔ turned back (IsNeighbor m) a b
turned_followed m false a b = followed_neighbors m a b
turned_followed m true a b = followed_neighbors m b a

pub followed_image : (g : Graph) (back : Bool) (starts marks : List Bool)
    → AreImage g starts (turned back (LeadsAlong (maps_of g) followed_relations)) marks
    → AreImage g starts (turned back (IsNeighbor (maps_of g))) marks
followed_image g back starts marks are =
    image_as g starts marks (turned back (LeadsAlong (maps_of g) followed_relations)) (turned back (IsNeighbor (maps_of g)))
    (turned_followed (maps_of g) back) are

turned_other : (m : GraphMaps) (back : Bool) (a b : List ℕ)
    → turned (not back) (IsNeighbor m) a b ↔ turned back (λ from to. IsNeighbor m to from) a b
turned_other m false a b = (λ h. h, λ h. h)
turned_other m true a b = (λ h. h, λ h. h)

pub other_image : (g : Graph) (back : Bool) (starts marks : List Bool)
    → AreImage g starts (turned (not back) (IsNeighbor (maps_of g))) marks
    → AreImage g starts (turned back (λ from to. IsNeighbor (maps_of g) to from)) marks
other_image g back starts marks are =
    image_as g starts marks (turned (not back) (IsNeighbor (maps_of g))) (turned back (λ from to. IsNeighbor (maps_of g) to from))
    (turned_other (maps_of g) back) are
