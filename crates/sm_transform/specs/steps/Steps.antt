-- Steps between the numbers of a graph, as links along which a walk goes, and what is led to by them.
use Rattle.std.specs.Prelude.{◌≡◌, ◌⊎◌, ◌↔◌, ◌<◌, ℕ, Bool, false, List, [], ◌∷◌, length, get_or, if◌then◌else◌}
use Rattle.std.specs.List.{Contains}
use Rattle.std.specs.Str.{bytes_eq}
use Rattle.sm_tree.specs.Node.{Node}
use Rattle.sm_model.specs.Formed.{StandsAmong}
use Rattle.sm_model.specs.Given.{are_under}
use Rattle.sm_model.specs.Graphs.{GraphMaps}
use Rattle.sm_model.specs.GraphView.{IsShapeNumber, entries_of, maps_of}
use Rattle.sm_model.specs.Reaching.{id_of_number}
use Rattle.sm_model.specs.Relations.{IsInGraph, IsRelated}
use Rattle.sm_model.specs.declared.graph.Graph.{Graph}
use Rattle.sm_model.specs.declared.link.Link.{Link}
use Rattle.sm_model.specs.declared.relation.Relation.{Relation}
use Rattle.sm_model.specs.declared.relation.Relation.TheVariants.{Input, Member, Output, Target}
use Rattle.sm_model.specs.steps.Linking.{RunsTo}
use Rattle.sm_select.specs.Neighbors.{HasStep}
use Rattle.sm_transform.specs.Excluded.{IsCollection, Needs}
use Rattle.sm_transform.specs.Included.{CarriesTrait}
use Rattle.sm_transform.specs.Namespaces.{is_of_api}

-- a step from number to number; a walk goes along it whatever its relation, but that from a member to its shape
abbrev pub step_between : ℕ → ℕ → Link
step_between from to = record { relation = Member; from = from; to = to }

-- the steps that links are
abbrev pub IsStepAlong : List Link → Link → Type 0
IsStepAlong links s = (l : Link) × Contains links l × (s ≡ step_between l.from l.to)

-- those from a number to the shapes of these traits
abbrev pub TraitSteps : Graph → ℕ → List (List ℕ × Node) → Link → Type 0
TraitSteps g number traits s = RunsTo g Member number (λ id. StandsAmong id (are_under traits)) s

-- those from a number to the shapes of its traits, and from all numbers below one
abbrev pub StepsToTraits : Graph → ℕ → Link → Type 0
StepsToTraits g number s =
    (s.relation ≡ Member) × (s.from ≡ number) × IsShapeNumber g s.to
    × CarriesTrait (maps_of g) (id_of_number g number) (id_of_number g s.to)

abbrev pub TraitStepsBelow : Graph → ℕ → Link → Type 0
TraitStepsBelow g bound s = (number : ℕ) × (number < bound) × StepsToTraits g number s

-- what is kept needs what a relation leads to from it, and the shapes of its traits
abbrev pub IsNeeded : GraphMaps → List ℕ → List ℕ → Type 0
IsNeeded g from to = ((relation : Relation) × IsRelated relation g from to) ⊎ (CarriesTrait g from to × IsInGraph g to)

-- these lists are the steps between the numbers of a graph from whose ids one relation leads to the other
pub record LeadBy (g : Graph) (Leads : List ℕ → List ℕ → Type 0) (rows : List (List ℕ)) : Type 0 where
  pub whole : length rows ≡ length (entries_of g)
  pub steps : (a b : ℕ) → HasStep rows a b
      ↔ (IsShapeNumber g a × IsShapeNumber g b × Leads (id_of_number g a) (id_of_number g b))

-- the same of links
abbrev pub IsLedBy : Graph → (List ℕ → List ℕ → Type 0) → Link → Type 0
IsLedBy g Leads s =
    (s.relation ≡ Member) × IsShapeNumber g s.from × IsShapeNumber g s.to × Leads (id_of_number g s.from) (id_of_number g s.to)

abbrev pub AreLedBy : Graph → (List ℕ → List ℕ → Type 0) → List Link → Type 0
AreLedBy g Leads steps = (s : Link) → Contains steps s ↔ IsLedBy g Leads s

-- all numbers below a count, in order
pub record AreAllBelow (count : ℕ) (numbers : List ℕ) : Type 0 where
  pub whole : length numbers ≡ count
  pub each : (k : ℕ) → k < count → get_or numbers k 0 ≡ k

-- what is lost where a shape or member is gone: what can't be without it, but nothing of the namespace `smithy.api`
abbrev pub IsLost : GraphMaps → List ℕ → List ℕ → Type 0
IsLost g gone id = (is_of_api id ≡ false) × Needs g id gone

-- a link from a shape to a member loses the member; one back loses what targets, the operation of a message, or a list or map
abbrev pub IsLostOn : Graph → Link → Type 0
IsLostOn g l = (l.relation ≡ Member) × (is_of_api (id_of_number g l.to) ≡ false)

abbrev pub GoesBack : Graph → Link → Type 0
GoesBack g l =
    ((l.relation ≡ Target) ⊎ ((l.relation ≡ Input) ⊎ (l.relation ≡ Output)))
    ⊎ ((l.relation ≡ Member) × IsCollection (maps_of g) (id_of_number g l.from))

abbrev pub IsLostBack : Graph → Link → Type 0
IsLostBack g l = (is_of_api (id_of_number g l.from) ≡ false) × GoesBack g l

-- the steps from what is gone to what is lost with it, by a link and by links
abbrev pub LossesOn : Graph → Link → Link → Type 0
LossesOn g l s = (s ≡ step_between l.from l.to) × IsLostOn g l

abbrev pub LossesBack : Graph → Link → Link → Type 0
LossesBack g l s = (s ≡ step_between l.to l.from) × IsLostBack g l

abbrev pub LossesBy : Graph → Link → Link → Type 0
LossesBy g l s = LossesOn g l s ⊎ LossesBack g l s

abbrev pub Losses : Graph → List Link → Link → Type 0
Losses g links s = (l : Link) × Contains links l × LossesBy g l s

-- an id at whose number a mark is set
abbrev pub is_marked_id : List (List ℕ) → List Bool → List ℕ → Bool
is_marked_id [] ms id = false
is_marked_id (k ∷ ks) [] id = false
is_marked_id (k ∷ ks) (m ∷ ms) id = if bytes_eq k id then m else is_marked_id ks ms id
