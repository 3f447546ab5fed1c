-- The names of shapes in the closure of a service, as rows and as tests, and what is told of them.
use Rattle.std.specs.Prelude.{◌≡◌, ◌⊎◌, ◌&&◌, ◌||◌, ℕ, Bool, true, false, not, List, [], ◌∷◌, ◌++◌, Option, Some, None, codes, ◌<◌, get_or}
use Rattle.std.specs.Prelude.{length, is_some}
use denote.Ref.{Bor}
use Rattle.std.specs.BTreeMap.{BTreeMap, get_by}
use Rattle.std.specs.Cmp.Lexicographic.{slice_cmp}
use Rattle.std.specs.FinMap as fin
use Rattle.std.specs.List.{AllPairs, Contains}
use Rattle.std.specs.Option.{option_map, unwrap_or}
use Rattle.std.specs.Ordering.{nat_cmp}
use Rattle.sm_ids.specs.IdText.{Id, IdText}
use Rattle.sm_tree.specs.Node.{Node, Members, no_members}
use Rattle.sm_tree.specs.Parts.{pairs_in}
use Rattle.sm_tree.specs.View.{node_of}
use Rattle.sm_tree.specs.declared.tree.Tree.{Tree}
use Rattle.sm_model.specs.EventView.{EventTold}
use Rattle.sm_model.specs.Graphs.{Entry, shape_entry, member_entry, GraphMaps}
use Rattle.sm_model.specs.GraphView.{IsShapeNumber, entries_of, maps_of}
use Rattle.sm_model.specs.Reaching.{IsMarked, id_of_number}
use Rattle.sm_model.specs.Relations.{Reaches}
use Rattle.sm_model.specs.declared.graph.Graph.{Graph}
use Rattle.sm_model.specs.declared.kind.Kind.{Kind}
use Rattle.sm_model.specs.declared.kind.Kind.TheVariants.{Operation, Resource, Service}
use Rattle.sm_compile.specs.Looked.{kind_under}
use Rattle.sm_compile.specs.TraitIds.{error_id}
use Rattle.sm_compile.specs.TraitNodes.{field_of, text_of}
use Rattle.sm_rules.specs.TraitRows.{is_among}
use Rattle.sm_rules.specs.Services.{HasWrongNames, KeepsName, named_kinds}
use Rattle.sm_rules.specs.RuleEvents.{IsEventAt, rule_event}
use Rattle.sm_rules.specs.declared.rule.Rule.TheVariants.{ServiceNames}
use Rattle.sm_passes.specs.steps.Apart.{AreApart}
use Rattle.sm_passes.specs.Carrying.{carries}
use Rattle.sm_passes.specs.Folded.{folded}
use Rattle.sm_passes.specs.Owned.{is_own_shape}

-- the pairs of `rename` of what stands under an id
abbrev pub pairs_where : Option Node → Members
pairs_where None = no_members
pairs_where (Some n) = unwrap_or (pairs_in n) no_members

abbrev pub renames_in : Option Entry → Members
renames_in None = no_members
renames_in (Some (shape_entry s)) = pairs_where (field_of (codes "rename") s.properties)
renames_in (Some (member_entry m)) = no_members

abbrev pub renames_under : GraphMaps → List ℕ → Members
renames_under g id = renames_in (fin.get g.shapes id)

-- a service that gives no names
abbrev pub GivesNone : Graph → ℕ → Type 0
GivesNone g k = renames_under (maps_of g) (id_of_number g k) ≡ no_members

-- the tree under a text, in the code
abbrev pub tree_in : BTreeMap (Bor (List ℕ)) (Bor Tree) → List ℕ → Option Node
tree_in map key = option_map (λ t. node_of t.now) (get_by (λ k. slice_cmp nat_cmp key k.now) map)

-- a name of a shape: the one that it is given, else that of its id; and the key of its row
abbrev pub IsNameBy : Option (List ℕ) → List ℕ → List ℕ → Type 0
IsNameBy given id name = (parts : Id) × IdText parts id × (name ≡ unwrap_or given parts.name)

abbrev pub IsKeyBy : (List ℕ → Option Node) → Graph → ℕ → List ℕ → Type 0
IsKeyBy given g k key = (name : List ℕ) × IsNameBy (text_of (given (id_of_number g k))) (id_of_number g k) name × (key ≡ folded name)

-- a shape whose name counts
abbrev pub is_named_kind : Option Kind → Bool
is_named_kind None = false
is_named_kind (Some kind) = is_among named_kinds kind

abbrev pub is_own_named : GraphMaps → List ℕ → Bool
is_own_named g id = is_own_shape g id && is_named_kind (kind_under g id)

abbrev pub is_named : Graph → List Bool → ℕ → Bool
is_named g inside k = get_or inside k false && is_own_named (maps_of g) (id_of_number g k)

-- the key of such a shape under a service; two numbers with one key are both among these
abbrev pub IsGivenKey : Graph → List Bool → (List ℕ → Option Node) → ℕ → List ℕ → Type 0
IsGivenKey g inside given k key = (is_named g inside k ≡ true) × IsKeyBy given g k key

abbrev pub AreAlikeAmong : Graph → List Bool → (List ℕ → Option Node) → (ℕ → Type 0) → Type 0
AreAlikeAmong g inside given Among =
    (j k : ℕ) (key : List ℕ) → (j ≡ k → ⊥) → IsGivenKey g inside given j key → IsGivenKey g inside given k key → Among j

-- the key of such a shape by the name of its id; no two numbers of the graph have one
abbrev pub IsOwnKey : Graph → ℕ → List ℕ → Type 0
IsOwnKey g k key = (is_own_named (maps_of g) (id_of_number g k) ≡ true) × IsKeyBy (λ q. None) g k key

abbrev pub AreNamesApart : Graph → Type 0
AreNamesApart g = AreApart (IsOwnKey g) (length (entries_of g))

-- one row more where the number passes
abbrev pub MoreBy : Bool → (List ℕ → Type 0) → ℕ → List (List ℕ × ℕ) → List (List ℕ × ℕ) → Type 0
MoreBy false IsKey n rows more = more ≡ rows
MoreBy true IsKey n rows more = (key : List ℕ) × IsKey key × (more ≡ rows ++ (key, n) ∷ [])

-- rows of exactly these numbers, by rising numbers, each under its key
pub record AreRows (Holds : ℕ → Type 0) (IsKey : ℕ → List ℕ → Type 0) (rows : List (List ℕ × ℕ)) : Type 0 where
  pub each : (r : List ℕ × ℕ) → Contains rows r → Holds r.1 × IsKey r.1 r.0
  pub all : (k : ℕ) → Holds k → (key : List ℕ) × Contains {X = List ℕ × ℕ} rows (key, k)
  pub rise : AllPairs (λ (q : List ℕ × ℕ) (r : List ℕ × ℕ). q.1 < r.1) rows

-- of those among some that pass; of those below a number
abbrev pub AreRowsAmong : (ℕ → Type 0) → (ℕ → Bool) → (ℕ → List ℕ → Type 0) → List (List ℕ × ℕ) → Type 0
AreRowsAmong Among passes IsKey rows = AreRows (λ k. Among k × (passes k ≡ true)) IsKey rows

abbrev pub AreRowsBelow : (ℕ → Bool) → (ℕ → List ℕ → Type 0) → ℕ → List (List ℕ × ℕ) → Type 0
AreRowsBelow passes IsKey n rows = AreRowsAmong (λ k. k < n) passes IsKey rows

-- what the rule tells of the service at a number
abbrev pub ToldNames : Graph → ℕ → EventTold → Type 0
ToldNames g k e = IsEventAt ServiceNames (HasWrongNames (maps_of g)) (id_of_number g k) e

-- told of a shape whose name an earlier one has
abbrev pub ToldAgain : Graph → ℕ → ℕ → ℕ → EventTold → Type 0
ToldAgain g service j k e = e ≡ rule_event ServiceNames (id_of_number g service) (id_of_number g k)

-- a shape that keeps its name, as a test
abbrev pub is_kept_kind : Option Kind → Bool
is_kept_kind None = false
is_kept_kind (Some kind) = is_among (Operation ∷ Resource ∷ Service ∷ []) kind

abbrev pub keeps_name : GraphMaps → List ℕ → Bool
keeps_name g id = is_some (kind_under g id) && (carries g error_id id || is_kept_kind (kind_under g id))

abbrev pub is_left : Graph → List Bool → ℕ → Bool
is_left g inside k = keeps_name (maps_of g) (id_of_number g k) || not (get_or inside k false)

-- a name of `rename` that is wrong, by the marks and by the model; so it is told
abbrev pub IsMarkedId : Graph → List Bool → List ℕ → Type 0
IsMarkedId g inside id = (k : ℕ) × IsShapeNumber g k × (id_of_number g k ≡ id) × IsMarked inside k

abbrev pub IsWrongBy : Graph → List Bool → List ℕ → Type 0
IsWrongBy g inside id = KeepsName (maps_of g) id ⊎ (IsMarkedId g inside id → ⊥)

abbrev pub IsWrongName : GraphMaps → List ℕ → List ℕ → Type 0
IsWrongName g service id = KeepsName g id ⊎ (Reaches g service id → ⊥)

abbrev pub ToldWrong : GraphMaps → List ℕ → List ℕ × Tree → EventTold → Type 0
ToldWrong g service pair e = IsWrongName g service pair.0 × (e ≡ rule_event ServiceNames service pair.0)
