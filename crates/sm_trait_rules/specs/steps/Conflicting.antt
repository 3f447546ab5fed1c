-- What the shapes of traits exclude, and what is told of a shape or member that carries a trait and one that it excludes.
use Rattle.std.specs.Prelude.{◌≡◌, ◌↔◌, ◌<◌, ℕ, Bool, true, List, Option, Some, None, codes, cond, get_or, length}
use denote.Ref.{Bor}
use Rattle.std.specs.BTreeSet.{BTreeSet, contains_by}
use Rattle.std.specs.Cmp.Lexicographic.{slice_cmp}
use Rattle.std.specs.List.{Contains}
use Rattle.std.specs.Option.{option_and_then, unwrap_or}
use Rattle.std.specs.Ordering.{nat_cmp}
use Rattle.std.specs.declared.cmp.Ordering.{Ordering}
use Rattle.std.specs.declared.cmp.Ordering.TheVariants.{Less, Equal, Greater}
use Rattle.sm_tree.specs.Node.{Node, Nodes, no_nodes, nodes_of}
use Rattle.sm_tree.specs.View.{nodes_view}
use Rattle.sm_tree.specs.Parts.{entries_in}
use Rattle.sm_model.specs.EventView.{EventTold}
use Rattle.sm_model.specs.Graphs.{text_cmp, GraphMaps}
use Rattle.sm_model.specs.GraphView.{entries_of, maps_of}
use Rattle.sm_model.specs.Reaching.{id_of_number}
use Rattle.sm_model.specs.Relations.{IsEntryText}
use Rattle.sm_model.specs.declared.graph.Graph.{Graph}
use Rattle.sm_compile.specs.Sound.{trait_of}
use Rattle.sm_compile.specs.TraitIds.{trait_id}
use Rattle.sm_compile.specs.TraitNodes.{field_of}
use Rattle.sm_rules.specs.RuleEvents.{rule_event}
use Rattle.sm_rules.specs.declared.rule.Rule.TheVariants.{TraitConflict}
use Rattle.sm_passes.specs.Carrying.{carries}
use Rattle.sm_passes.specs.Owned.{is_own_shape}
use Rattle.sm_passes.specs.Forms.{is_trait_value}
use Rattle.sm_passes.specs.Putting.{IsWhere}
use Rattle.sm_trait_rules.specs.declared.conflicts.Excluded.{Excluded}

-- the entries of `conflicts` in the value of `trait`, where it reads, and those of a shape outside of the prelude
abbrev pub conflicts_in : Option Node → Nodes
conflicts_in None = no_nodes
conflicts_in (Some n) = cond (is_trait_value n) (unwrap_or (option_and_then entries_in (field_of (codes "conflicts") n)) no_nodes) no_nodes

abbrev pub conflicts_under : GraphMaps → List ℕ → Nodes
conflicts_under g trait = cond (is_own_shape g trait) (conflicts_in (trait_of g trait trait_id)) no_nodes

-- a set has a text; it has exactly those among some entries
abbrev pub has_text : BTreeSet (Bor (List ℕ)) → List ℕ → Bool
has_text texts t = contains_by (λ k. slice_cmp nat_cmp t k.now) texts

abbrev pub HasText : BTreeSet (Bor (List ℕ)) → List ℕ → Type 0
HasText texts t = has_text texts t ≡ true

abbrev pub AreTextsOf : Nodes → BTreeSet (Bor (List ℕ)) → Type 0
AreTextsOf ns texts = (t : List ℕ) → HasText texts t ↔ IsEntryText t ns

-- the entries are those of the trait at a number, and the set has exactly their texts; and so of these, each by its number
pub record IsExcludedAt (g : Graph) (k : ℕ) (e : Excluded) : Type 0 where
  pub entries : nodes_of (nodes_view e.entries.now) ≡ conflicts_under (maps_of g) (id_of_number g k)
  pub texts : AreTextsOf (nodes_of (nodes_view e.entries.now)) e.set.texts

abbrev pub AreExcludedBelow : Graph → List Excluded → Type 0
AreExcludedBelow g sets = (k : ℕ) (other : Excluded) → k < length sets → IsExcludedAt g k (get_or sets k other)

pub record AreExcluded (g : Graph) (sets : List Excluded) : Type 0 where
  pub whole : length sets ≡ length (entries_of g)
  pub each : AreExcludedBelow g sets

-- the greater of two ids; none of one and itself
abbrev pub IsGreaterBy : Ordering → List ℕ → List ℕ → List ℕ → Type 0
IsGreaterBy Less one other id = other ≡ id
IsGreaterBy Equal one other id = ⊥
IsGreaterBy Greater one other id = one ≡ id

-- of a trait and another that stands there too; and that is one of which something holds
abbrev pub IsGreaterOfBoth : GraphMaps → List ℕ → List ℕ → List ℕ → List ℕ → Type 0
IsGreaterOfBoth g at trait other id = (carries g other at ≡ true) × IsGreaterBy (text_cmp trait other) trait other id

abbrev pub IsGreaterOfAny : GraphMaps → List ℕ → List ℕ → (List ℕ → Type 0) → List ℕ → Type 0
IsGreaterOfAny g at trait Holds id = (other : List ℕ) × Holds other × IsGreaterOfBoth g at trait other id

abbrev pub IsGreaterIfHeld : GraphMaps → List ℕ → List ℕ → BTreeSet (Bor (List ℕ)) → List ℕ → List ℕ → Type 0
IsGreaterIfHeld g at trait texts other id = HasText texts other × IsGreaterOfBoth g at trait other id

-- of a trait and one that its shape excludes; and of any trait that stands there
abbrev pub IsGreaterOfTrait : GraphMaps → List ℕ → List ℕ → List ℕ → Type 0
IsGreaterOfTrait g at trait id = IsGreaterOfAny g at trait (λ other. IsEntryText other (conflicts_under g trait)) id

abbrev pub IsGreaterThere : GraphMaps → List ℕ → List ℕ → Type 0
IsGreaterThere g at id = (trait : List ℕ) × (carries g trait at ≡ true) × IsGreaterOfTrait g at trait id

-- it is said of one of these
abbrev pub IsOfSome : {X Y : Type 0} → (X → Y → Type 0) → List X → Y → Type 0
IsOfSome Is xs y = (x : _) × Contains xs x × Is x y

-- what is told of the traits that stand there and that a set has
abbrev pub IsHeldThere : GraphMaps → List ℕ → BTreeSet (Bor (List ℕ)) → List ℕ → Type 0
IsHeldThere g at texts id = (carries g id at ≡ true) × HasText texts id

abbrev pub ToldHeld : List ℕ → BTreeSet (Bor (List ℕ)) → List ℕ → EventTold → Type 0
ToldHeld at texts id e = IsWhere (has_text texts id) (rule_event TraitConflict at id) e
