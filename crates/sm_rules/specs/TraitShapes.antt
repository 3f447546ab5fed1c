-- Traits that a model defines: their values, where they stand, and what they exclude, by their shapes (Smithy 2.0, "trait trait").
use Rattle.std.specs.Prelude.{◌≡◌, ℕ, true, List, Option, Some, codes, ◌⊎◌}
use Rattle.sm_tree.specs.Node.{Node, Nodes, no_nodes}
use Rattle.sm_model.specs.Graphs.{ShapeEntry, GraphMaps, text_cmp, Entry, traits_in}
use Rattle.sm_select.specs.Picks.{IsPicked}
use Rattle.sm_select.specs.SelectorText.{SelectorText}
use Rattle.sm_select.specs.Selectors.{Steps}
use Rattle.sm_codec.specs.FaultLists.{FaultAt}
use Rattle.sm_compile.specs.TraitIds.{trait_id}
use Rattle.sm_compile.specs.TraitNodes.{text_of}
use Rattle.sm_rules.specs.Traits.{HasOtherValue, StandsElsewhere, HasExclusiveTraits}
use Rattle.sm_rules.specs.Words.{IsOwnShape, CarriesTrait, read_trait, field_in, has_trait, IsOwn}
use Rattle.sm_rules.specs.NodeChecks.{HasNodeFaults}
use Rattle.std.specs.Option.{option_and_then, unwrap_or}
use Rattle.std.specs.declared.cmp.Ordering.TheVariants.{Less}
use Rattle.sm_tree.specs.Parts.{entries_in}
use Rattle.sm_model.specs.Relations.{IsEntryText}

-- a shape of the model that is a trait
abbrev pub IsTraitShape : GraphMaps → List ℕ → Type 0
IsTraitShape g trait = (s : ShapeEntry) × IsOwnShape g trait s × (has_trait trait_id s.traits ≡ true)

-- the value has faults for the trait's shape
pub record HasFaultyValue (g : GraphMaps) (id trait : List ℕ) : Type 0 where
  pub n : Node
  pub carries : CarriesTrait g id trait n
  pub shape : IsTraitShape g trait
  pub faults : List FaultAt
  pub faulty : HasNodeFaults g trait n faults

-- Trait.Value: told is the trait; where it has a row and a shape, both judge
pub data HasWrongValue (g : GraphMaps) (id trait : List ℕ) : Type 0 where
  by_row : HasOtherValue g id trait → HasWrongValue g id trait
  by_shape : HasFaultyValue g id trait → HasWrongValue g id trait

-- the selector of a trait's shape, where `trait` reads
abbrev pub selector_of : GraphMaps → List ℕ → Option (List ℕ)
selector_of g trait = text_of (field_in (codes "selector") (read_trait g trait trait_id))

-- it doesn't pick what carries the trait; a text that is no selector isn't applied
pub record IsNotPicked (g : GraphMaps) (id trait : List ℕ) : Type 0 where
  pub n : Node
  pub carries : CarriesTrait g id trait n
  pub shape : IsTraitShape g trait
  pub text : List ℕ
  pub said : selector_of g trait ≡ Some text
  pub steps : Steps
  pub spells : SelectorText steps text
  pub not_picked : IsPicked g steps id → ⊥

-- Trait.Place: told is the trait
pub data HasWrongPlace (g : GraphMaps) (id trait : List ℕ) : Type 0 where
  by_row : StandsElsewhere g id trait → HasWrongPlace g id trait
  by_shape : IsNotPicked g id trait → HasWrongPlace g id trait

-- the entries of `conflicts` of a trait's shape, where `trait` reads
abbrev pub conflicts_of : GraphMaps → List ℕ → Nodes
conflicts_of g trait = unwrap_or (option_and_then entries_in (field_in (codes "conflicts") (read_trait g trait trait_id))) no_nodes

-- one of them is the other's id, as it stands
abbrev pub Excludes : GraphMaps → List ℕ → List ℕ → Type 0
Excludes g trait other = IsTraitShape g trait × IsEntryText other (conflicts_of g trait)

-- a shape or member carries two traits of which one excludes the other; one that excludes itself is no pair
pub record HasExcludedTrait (g : GraphMaps) (id greater : List ℕ) : Type 0 where
  pub e : Entry
  pub own : IsOwn g id e
  pub smaller : List ℕ
  pub excludes : Excludes g smaller greater ⊎ Excludes g greater smaller
  pub smaller_there : has_trait smaller (traits_in e) ≡ true
  pub greater_there : has_trait greater (traits_in e) ≡ true
  pub order : text_cmp smaller greater ≡ Less

-- Trait.Conflict: told is the greater
pub data HasConflict (g : GraphMaps) (id greater : List ℕ) : Type 0 where
  by_table : HasExclusiveTraits g id greater → HasConflict g id greater
  by_shape : HasExcludedTrait g id greater → HasConflict g id greater
