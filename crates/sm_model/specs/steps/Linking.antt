-- What the parts of `Graph::links` append.
use Rattle.std.specs.Prelude.{◌≡◌, ◌⊎◌, ◌<◌, ℕ, List, [], ◌∷◌, Option, Some, None}
use Rattle.std.specs.List.{Contains}
use Rattle.sm_tree.specs.Node.{Node}
use Rattle.sm_model.specs.Graphs.{Entry, shape_entry, member_entry}
use Rattle.sm_model.specs.GraphView.{At}
use Rattle.sm_model.specs.Joins.{Joins, JoinsUpTo}
use Rattle.sm_model.specs.Relations.{Refers, SaysInBody, SaysRelated, field_relations, relation_under}
use Rattle.sm_model.specs.declared.graph.Graph.{Graph}
use Rattle.sm_model.specs.declared.kind.Kind.{Kind}
use Rattle.sm_model.specs.declared.link.Link.{Link}
use Rattle.sm_model.specs.declared.relation.Relation.{Relation}
use Rattle.sm_model.specs.declared.relation.Relation.TheVariants.{Member, Container, Target}

-- exactly these links were appended
abbrev pub Adds : (Link → Type 0) → List Link → List Link → Type 0
Adds P old now = Joins (Contains old) P (Contains now)

abbrev pub AddsUpTo : (Link → Type 0) → (Link → Type 0) → List Link → List Link → Type 0
AddsUpTo All Rest old now = JoinsUpTo All Rest (Contains old) (Contains now)

-- from a number by a relation to each id of which something holds
abbrev pub RunsTo : Graph → Relation → ℕ → (List ℕ → Type 0) → Link → Type 0
RunsTo g relation from Is l = (l.relation ≡ relation) × (l.from ≡ from) × At g l.to (λ id e. Is id)

-- between a shape and its members
abbrev pub MemberLinks : ℕ → ℕ → Link → Type 0
MemberLinks shape number l = (l ≡ record { relation = Member; from = shape; to = number }) ⊎
    (l ≡ record { relation = Container; from = number; to = shape })

abbrev pub MembersLinks : ℕ → List ℕ → Link → Type 0
MembersLinks shape [] l = ⊥
MembersLinks shape (m ∷ ms) l = MemberLinks shape m l ⊎ MembersLinks shape ms l

-- by a field that says this relation, or none
abbrev pub FieldLinks : Graph → ℕ → Node → Option Relation → Link → Type 0
FieldLinks g shape n None l = ⊥
FieldLinks g shape n (Some relation) l = RunsTo g relation shape (λ id. Refers id n) l

abbrev pub FieldsLinks : Graph → Kind → ℕ → List (List ℕ × Node) → Link → Type 0
FieldsLinks g kind shape [] l = ⊥
FieldsLinks g kind shape (p ∷ ps) l = FieldLinks g shape p.1 (relation_under p.0 (field_relations kind)) l ⊎ FieldsLinks g kind shape ps l

-- by the body of a shape
abbrev pub BodySays : Graph → Link → Entry → Type 0
BodySays g l (shape_entry s) = At g l.to (λ id e. SaysInBody l.relation s id)
BodySays g l (member_entry m) = ⊥

abbrev pub BodyLinks : Graph → ℕ → Link → Type 0
BodyLinks g shape l = (l.from ≡ shape) × At g shape (λ id e. BodySays g l e)

-- by a member
abbrev pub TargetSays : Graph → Link → Entry → Type 0
TargetSays g l (shape_entry s) = ⊥
TargetSays g l (member_entry m) = At g l.to (λ id e. m.target ≡ id)

abbrev pub TargetLinks : Graph → ℕ → Link → Type 0
TargetLinks g number l = (l.relation ≡ Target) × (l.from ≡ number) × At g number (λ id e. TargetSays g l e)

-- by what stands at a number: from there by any relation but that to the shape of a member, and back to it by that one
abbrev pub EntryLinks : Graph → ℕ → Link → Type 0
EntryLinks g number l =
    ((l.relation ≡ Container) × (l.to ≡ number) × At g number (λ i e. At g l.from (λ id f. SaysRelated Member e id)))
    ⊎ ((l.relation ≡ Container → ⊥) × (l.from ≡ number) × At g number (λ i e. At g l.to (λ id f. SaysRelated l.relation e id)))

-- by what stands at the numbers below one
abbrev pub LinksBelow : Graph → ℕ → Link → Type 0
LinksBelow g bound l = (number : ℕ) × (number < bound) × EntryLinks g number l
