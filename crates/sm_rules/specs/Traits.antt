-- Traits of the table: their values and places, which of them exclude each other, and which one member alone may carry (Smithy 2.0, "Trait
-- index", "trait trait", sections on conflicts and on structurally exclusive traits).
use Rattle.std.specs.Prelude.{◌≡◌, ℕ, true, false, List, [], ◌∷◌, is_some}
use Rattle.std.specs.FinMap as fin
use Rattle.std.specs.List.{Contains}
use Rattle.std.specs.declared.cmp.Ordering.TheVariants.{Less}
use Rattle.sm_tree.specs.Node.{Node}
use Rattle.sm_model.specs.Graphs.{text_cmp, Entry, ShapeEntry, MemberEntry, GraphMaps, traits_in}
use Rattle.sm_model.specs.declared.kind.Kind.TheVariants.{Structure}
use Rattle.sm_compile.specs.Sound.{trait_of}
use Rattle.sm_compile.specs.TraitIds.{binding_ids, readonly_id, idempotent_id, input_id, output_id, error_id, idempotency_token_id}
use Rattle.sm_compile.specs.TraitIds.{http_payload_id, http_prefix_headers_id, http_query_params_id, http_response_code_id, trait_id}
use Rattle.sm_rules.specs.TraitRows.{Spot, at_shape, at_member, has_row, may_stand, judging, is_as_one}
use Rattle.sm_rules.specs.Words.{IsOwn, IsOwnShape, IsMemberOf, IsListedBehind, has_trait, CarriesTrait}

-- where the traits of a shape, and of a member, stand
abbrev pub IsShapeSpot : GraphMaps → List ℕ → Spot → Type 0
IsShapeSpot g id spot = (s : ShapeEntry) × IsOwnShape g id s × (spot ≡ at_shape s.kind)

pub record IsMemberSpot (g : GraphMaps) (id : List ℕ) (spot : Spot) : Type 0 where
  pub shape : List ℕ
  pub s : ShapeEntry
  pub m : MemberEntry
  pub member : IsMemberOf g shape s id m
  pub is : spot ≡ at_member s.kind (fin.get g.shapes m.target)

pub data IsSpot (g : GraphMaps) (id : List ℕ) (spot : Spot) : Type 0 where
  of_shape : IsShapeSpot g id spot → IsSpot g id spot
  of_member : IsMemberSpot g id spot → IsSpot g id spot

-- Trait.Value, by the table: a trait with a row has a value that isn't as its row says; told is the trait
pub record HasOtherValue (g : GraphMaps) (id trait : List ℕ) : Type 0 where
  pub n : Node
  pub carries : CarriesTrait g id trait n
  pub spot : Spot
  pub stands : IsSpot g id spot
  pub row : has_row trait ≡ true
  pub other : is_as_one (judging trait spot) n ≡ false

-- Trait.Place, by the table: no row of the trait allows it there; told is the trait
pub record StandsElsewhere (g : GraphMaps) (id trait : List ℕ) : Type 0 where
  pub n : Node
  pub carries : CarriesTrait g id trait n
  pub spot : Spot
  pub stands : IsSpot g id spot
  pub row : has_row trait ≡ true
  pub elsewhere : may_stand trait spot ≡ false

-- traits of which a shape or member carries one at most
abbrev pub exclusive_traits : List (List (List ℕ))
exclusive_traits = (readonly_id ∷ idempotent_id ∷ []) ∷ (input_id ∷ output_id ∷ error_id ∷ []) ∷ binding_ids ∷ []

-- Trait.Conflict, by the table: it carries two of them; told is the greater
pub record HasExclusiveTraits (g : GraphMaps) (id greater : List ℕ) : Type 0 where
  pub e : Entry
  pub own : IsOwn g id e
  pub group : List (List ℕ)
  pub is_group : Contains exclusive_traits group
  pub smaller : List ℕ
  pub both : Contains group smaller × Contains group greater
  pub smaller_there : has_trait smaller (traits_in e) ≡ true
  pub greater_there : has_trait greater (traits_in e) ≡ true
  pub order : text_cmp smaller greater ≡ Less

-- traits that one member of a structure may carry
abbrev pub single_traits : List (List ℕ)
single_traits = idempotency_token_id ∷ http_payload_id ∷ http_prefix_headers_id ∷ http_query_params_id ∷ http_response_code_id ∷ []

-- Trait.Single: two members of a structure carry one of them; told is the trait
pub record CarriesTwice (g : GraphMaps) (id trait : List ℕ) : Type 0 where
  pub s : ShapeEntry
  pub kind : s.kind ≡ Structure
  pub among : Contains single_traits trait
  pub before : List (List ℕ)
  pub second : List ℕ
  pub behind : IsListedBehind g id s before second
  pub first : List ℕ
  pub earlier : Contains before first
  pub first_carries : is_some (trait_of g first trait) ≡ true
  pub second_carries : is_some (trait_of g second trait) ≡ true

-- a shape or member of the model that carries `trait`. A member isn't used for values, places and conflicts
abbrev pub CarriesTraitItself : GraphMaps → List ℕ → Type 0
CarriesTraitItself g trait = (e : Entry) × IsOwn g trait e × (has_trait trait_id (traits_in e) ≡ true)

-- Trait.Unknown: a trait has neither a row, nor a shape or member that is a trait; told is the trait
pub record HasUnknownTrait (g : GraphMaps) (id trait : List ℕ) : Type 0 where
  pub n : Node
  pub carries : CarriesTrait g id trait n
  pub no_row : has_row trait ≡ false
  pub no_shape : CarriesTraitItself g trait → ⊥
