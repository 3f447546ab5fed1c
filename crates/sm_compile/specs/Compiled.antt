-- That a table says what a graph says of a set of shapes and of their members, by numbers. The set is all that is reached from where
-- a table is made: from one shape, or from a service.
use Rattle.std.specs.Prelude.{◌≡◌, ◌⊎◌, ◌<◌, ◌↔◌, ℕ, ◌+◌, List, [], ◌∷◌, map, length, Option, Some, None, is_some, get_or, slice_get}
use Rattle.std.specs.FinMap as fin
use Rattle.std.specs.List.{Contains, flat_map}
use Rattle.std.specs.List.Sorted.{IsStrictlySortedBy}
use Rattle.std.specs.Str.{bytes_eq}
use Rattle.std.specs.declared.cmp.Ordering.TheVariants.{Greater}
use Rattle.sm_model.specs.Graphs.{text_cmp, Entry, GraphMaps, ShapeEntry, MemberEntry, shape_entry, member_entry, member_id}
use Rattle.sm_model.specs.PreludeShapes.{unit_id}
use Rattle.sm_model.specs.Relations.{HasEntry}
use Rattle.sm_shapes.specs.Names.{AllDiffer}
use Rattle.sm_shapes.specs.TableData.{TableData, ShapeData, MemberData, ConstraintData, texts_numbered}
use Rattle.sm_compile.specs.Kinds.{table_kind, value_members}
use Rattle.sm_compile.specs.Said.{ConstraintsSaid, constraints_said, pattern_seen, format_seen, default_said}
use Rattle.sm_compile.specs.Sound.{IsValueShape}
use Rattle.sm_compile.specs.TraitIds.{required_id, sparse_id, unique_items_id, json_name_id}
use Rattle.sm_compile.specs.TraitNodes.{own_traits, effective_traits, text_of}

-- the ids of a table's shapes and members, by number
pub record Numbering : Type 0 where
  pub shapes : List (List ℕ)
  pub members : List (List ℕ)

-- patterns by their numbers in a store
abbrev pub PatternRows : Type 0
PatternRows = List (ℕ × List ℕ)

-- the number names the pattern's text
abbrev pub NamesText : PatternRows → Option ℕ → Option (List ℕ) → Type 0
NamesText ps None None = Unit {0}
NamesText ps (Some n) (Some u) = texts_numbered n ps ≡ u ∷ []
NamesText ps None (Some u) = ⊥
NamesText ps (Some n) None = ⊥

pub record SayConstraints (ps : PatternRows) (c : ConstraintData) (said : ConstraintsSaid) : Type 0 where
  pub min : c.min ≡ said.min
  pub max : c.max ≡ said.max
  pub pattern : NamesText ps c.pattern said.pattern
  pub texts : c.texts ≡ said.texts
  pub numbers : c.numbers ≡ said.numbers

-- the members at which values of what stands under an id stand
abbrev pub members_in : Option Entry → List (List ℕ)
members_in None = []
members_in (Some (shape_entry s)) = value_members s
members_in (Some (member_entry m)) = []

abbrev pub members_under : GraphMaps → List ℕ → List (List ℕ)
members_under g id = members_in (fin.get g.shapes id)

-- a row of a shape says what the graph says of the shape with this id
pub record SaysShape (g : GraphMaps) (ps : PatternRows) (n : Numbering) (id : List ℕ) (d : ShapeData) : Type 0 where
  pub s : ShapeEntry
  pub there : HasEntry g id (shape_entry s)
  pub kind : d.kind ≡ table_kind s.kind
  pub members : map (λ k. get_or n.members k []) d.members ≡ value_members s
  pub constraints : SayConstraints ps d.constraints (constraints_said g s (own_traits s.traits))
  pub unique : d.unique ≡ is_some (fin.get s.traits unique_items_id)
  pub sparse : d.sparse ≡ is_some (fin.get s.traits sparse_id)
  pub unit : d.unit ≡ bytes_eq id unit_id
  pub format : d.format ≡ format_seen (own_traits s.traits)

-- a row of a member, with the shape that it stands in and its target
pub record SaysMember (g : GraphMaps) (ps : PatternRows) (n : Numbering) (id : List ℕ) (d : MemberData) : Type 0 where
  pub m : MemberEntry
  pub there : HasEntry g id (member_entry m)
  pub home : ShapeEntry
  pub home_there : HasEntry g (get_or n.shapes d.shape []) (shape_entry home)
  pub target : ShapeEntry
  pub target_there : HasEntry g m.target (shape_entry target)
  pub shape_number : d.shape < length n.shapes
  pub name : id ≡ member_id (get_or n.shapes d.shape []) d.name
  pub target_number : slice_get n.shapes d.target ≡ Some m.target
  pub json_name : d.json_name ≡ text_of (fin.get m.traits json_name_id)
  pub required : d.required ≡ is_some (fin.get m.traits required_id)
  pub constraints : SayConstraints ps d.constraints (constraints_said g target (effective_traits m.traits target.traits))
  pub format : d.format ≡ format_seen (effective_traits m.traits target.traits)
  pub default_node : d.default_node ≡ default_said home.kind m target.kind
  pub no_default : d.default ≡ None

-- each of the second list says it of the one at its place in the first
abbrev pub EachSays : {D : Type 0} → (List ℕ → D → Type 0) → List (List ℕ) → List D → Type 0
EachSays Says [] [] = Unit {0}
EachSays Says (id ∷ ids) (d ∷ ds) = Says id d × EachSays Says ids ds
EachSays Says [] (d ∷ ds) = ⊥
EachSays Says (id ∷ ids) [] = ⊥

-- the ids of which a table is made
abbrev pub IdSet : Type 1
IdSet = List ℕ → Type 0

-- a shape of the set that has values, and a member at which values of it stand
abbrev pub IsTabled : GraphMaps → IdSet → List ℕ → Type 0
IsTabled g In id = In id × IsValueShape g id

abbrev pub IsTabledMember : GraphMaps → IdSet → List ℕ → Type 0
IsTabledMember g In id =
    (shape : List ℕ) × (s : ShapeEntry) × IsTabled g In shape × HasEntry g shape (shape_entry s) × Contains (value_members s) id

-- a shape or a member carries this pattern: the member's own, not its target's
abbrev pub CarriesPattern : GraphMaps → List ℕ → List ℕ → Type 0
CarriesPattern g id u =
    ((s : ShapeEntry) × HasEntry g id (shape_entry s) × (pattern_seen s.kind (own_traits s.traits) ≡ Some u))
    ⊎ ((m : MemberEntry) × (s : ShapeEntry) × HasEntry g id (member_entry m) × HasEntry g m.target (shape_entry s)
    × (pattern_seen s.kind (own_traits m.traits) ≡ Some u))

abbrev pub IsCarrier : GraphMaps → IdSet → List ℕ → List ℕ → Type 0
IsCarrier g In u id = In id × CarriesPattern g id u

-- the least of those that carry it
pub record IsFirstCarrier (g : GraphMaps) (In : IdSet) (u id : List ℕ) : Type 0 where
  pub carries : IsCarrier g In u id
  pub least : (other : List ℕ) → IsCarrier g In u other → text_cmp id other ≡ Greater → ⊥

-- all patterns that are carried, each once, in the order of the first that carries it
pub record ArePatternsOf (g : GraphMaps) (In : IdSet) (texts : List (List ℕ)) : Type 0 where
  pub firsts : List (List ℕ)
  pub each : EachSays (λ u id. IsFirstCarrier g In u id) texts firsts
  pub rise : IsStrictlySortedBy text_cmp firsts
  pub all : (u id : List ℕ) → IsCarrier g In u id → Contains texts u

-- the texts of patterns
abbrev pub texts_of : PatternRows → List (List ℕ)
texts_of ps = map (λ p. p.1) ps

-- patterns are numbered from here on
abbrev pub AreNumberedFrom : ℕ → PatternRows → Type 0
AreNumberedFrom k [] = Unit {0}
AreNumberedFrom k (p ∷ ps) = (p.0 ≡ k) × AreNumberedFrom (k + 1) ps

-- The table has exactly the shapes of the set and their members, each once, and says what the graph says of them. Shapes are numbered
-- in the order of their ids, members shape by shape in model order
pub record IsCompiled (g : GraphMaps) (In : IdSet) (t : TableData) (n : Numbering) : Type 0 where
  pub shapes : (id : List ℕ) → Contains n.shapes id ↔ IsTabled g In id
  pub members : (id : List ℕ) → Contains n.members id ↔ IsTabledMember g In id
  pub shapes_rise : IsStrictlySortedBy text_cmp n.shapes
  pub members_follow : n.members ≡ flat_map (members_under g) n.shapes
  pub shapes_once : AllDiffer n.shapes
  pub members_once : AllDiffer n.members
  pub says_shapes : EachSays (SaysShape g t.patterns n) n.shapes t.shapes
  pub says_members : EachSays (SaysMember g t.patterns n) n.members t.members
  pub patterns : ArePatternsOf g In (texts_of t.patterns)

-- nothing of HTTP stands in the table
abbrev pub IsUnboundMember : MemberData → Type 0
IsUnboundMember d = (d.binding ≡ None) × (d.media_type ≡ None)

abbrev pub AllUnbound : List MemberData → Type 0
AllUnbound [] = Unit {0}
AllUnbound (d ∷ ds) = IsUnboundMember d × AllUnbound ds

abbrev pub NoMediaTypes : List ShapeData → Type 0
NoMediaTypes [] = Unit {0}
NoMediaTypes (d ∷ ds) = (d.media_type ≡ None) × NoMediaTypes ds
