-- Tables: one row a text, in the order of the texts, which says what all that stands under the text comes to.
use Rattle.std.specs.Prelude.{◌≡◌, ℕ, List, [], ◌∷◌, map, Option, None, Some, MatchOption}
use Rattle.std.specs.List.{flat_map}
use Rattle.std.specs.Option.{unwrap_or}
use Rattle.std.specs.FinMap as fin
use Rattle.sm_tree.specs.Node.{Node}
use Rattle.sm_tree.specs.View.{pairs_view}
use Rattle.sm_tree.specs.declared.tree.Pairs.{Pairs}
use Rattle.sm_model.specs.Given.{AreNodes as ArePairsOfNodes}
use Rattle.sm_model.specs.Graphs.{text_cmp}
use Rattle.sm_model.specs.steps.Rising.{Rise}
use Rattle.sm_merge.specs.Places.{trait_values}
use Rattle.sm_merge.specs.Stated.{Stated}
use Rattle.sm_merge.specs.steps.Folding.{IsFolded}
use Rattle.sm_groups.specs.Groups.{all_under}
use Rattle.sm_merge.specs.steps.Placed.{TraitLists}
use Rattle.sm_merge.specs.declared.value.Folded.{Folded}
use Rattle.sm_merge.specs.declared.table.NamedValue.{NamedValue}
use Rattle.sm_merge.specs.declared.table.PlaceRow.{PlaceRow}

-- row by row, what a group comes to
abbrev pub ComeToRows : {V X : Type 0} → (List V → X → Type 0) → List (List ℕ × List V) → List (List ℕ × X) → Type 0
ComeToRows R [] [] = Unit {0}
ComeToRows R [] (x ∷ xs) = ⊥
ComeToRows R (g ∷ gs) [] = ⊥
ComeToRows R (g ∷ gs) (x ∷ xs) = (g.0 ≡ x.0) × R g.1 x.1 × ComeToRows R gs xs

-- rows of a table of what stands under texts
pub record IsTableOf {V X : Type 0} (R : List V → X → Type 0) (es : List (List ℕ × V)) (xs : List (List ℕ × X)) : Type 0 where
  pub rise : Rise (map (λ x. x.0) xs)
  pub each : (key : List ℕ) → MatchOption (fin.find text_cmp key xs) (all_under key es ≡ []) (R (all_under key es))

-- values by their names
abbrev pub named_view : List NamedValue → List (List ℕ × Folded)
named_view vs = map (λ v. (v.name, v.folded)) vs

abbrev pub names_in : List NamedValue → List (List ℕ)
names_in vs = map (λ e. e.0) (named_view vs)

-- values of all that is given at one place, or of all metadata
abbrev pub AreValuesOf : List (List ℕ × Node) → List NamedValue → Type 0
AreValuesOf ps vs = IsTableOf IsFolded ps (named_view vs)

-- lists of traits that are given at one place come to these
abbrev pub all_given : List (List (List ℕ × Node)) → List (List ℕ × Node)
all_given tss = flat_map (λ ts. ts) tss

abbrev pub pairs_views : List Pairs → List (List (List ℕ × Node))
pairs_views ps = map pairs_view ps

abbrev pub ComeToTraits : List (List (List ℕ × Node)) → List NamedValue → Type 0
ComeToTraits tss vs = AreValuesOf (all_given tss) vs

-- traits by their places
abbrev pub places_view : List PlaceRow → List (List ℕ × List NamedValue)
places_view rows = map (λ r. (r.place, r.traits.items)) rows

abbrev pub places_in : List PlaceRow → List (List ℕ)
places_in rows = map (λ e. e.0) (places_view rows)

abbrev pub ArePlacesOf : TraitLists → List PlaceRow → Type 0
ArePlacesOf es rows = IsTableOf ComeToTraits es (places_view rows)

-- the traits that are given at a place
abbrev pub traits_found : List ℕ → List PlaceRow → List NamedValue
traits_found place rows = unwrap_or (fin.find text_cmp place (places_view rows)) []

-- the value of a trait at a place
abbrev pub folded_named : List ℕ → Option (List NamedValue) → Option Folded
folded_named name None = None
folded_named name (Some vs) = fin.find text_cmp name (named_view vs)

abbrev pub folded_at : List ℕ → List ℕ → List PlaceRow → Option Folded
folded_at place name rows = folded_named name (fin.find text_cmp place (places_view rows))

-- all traits that statements give, by their places
pub record AreTraitsOf (ss : List Stated) (rows : List PlaceRow) : Type 0 where
  pub rise : Rise (places_in rows)
  pub names : (place : List ℕ) → Rise (names_in (traits_found place rows))
  pub each : (place name : List ℕ) → MatchOption (folded_at place name rows) (trait_values ss place name ≡ [])
      (IsFolded (trait_values ss place name))

-- lists of nodes, under texts or in groups
abbrev pub ArePlacedNodes : TraitLists → Type 0
ArePlacedNodes [] = Unit {0}
ArePlacedNodes (e ∷ es) = ArePairsOfNodes e.1 × ArePlacedNodes es

abbrev pub HoldGroups : {V : Type 0} → (List ℕ → List V → Type 0) → List (List ℕ × List V) → Type 0
HoldGroups P [] = Unit {0}
HoldGroups P (g ∷ gs) = P g.0 g.1 × HoldGroups P gs

abbrev pub AreListsOfNodes : List (List (List ℕ × Node)) → Type 0
AreListsOfNodes [] = Unit {0}
AreListsOfNodes (ts ∷ tss) = ArePairsOfNodes ts × AreListsOfNodes tss
