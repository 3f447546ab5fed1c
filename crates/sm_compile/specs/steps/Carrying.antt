-- The pattern that what stands under an id carries itself, as a function; and the patterns of marked numbers, each at the first that
-- carries it.
use Rattle.std.specs.Prelude.{◌≡◌, ◌<◌, ℕ, Bool, List, [], ◌∷◌, length, map, MatchOption, Option, Some, None, slice_get}
use Rattle.std.specs.BTreeMap.{BTreeMap, get_by}
use Rattle.std.specs.Cmp.Lexicographic.{slice_cmp}
use Rattle.std.specs.List.{Contains}
use Rattle.std.specs.List.Sorted.{IsStrictlySortedBy}
use Rattle.std.specs.Option.{option_or}
use Rattle.std.specs.Ordering.{nat_cmp}
use denote.Ref.{Bor}
use Rattle.sm_model.specs.Graphs.{GraphMaps, text_cmp}
use Rattle.sm_model.specs.GraphView.{IsShapeNumber, entries_of, maps_of}
use Rattle.sm_model.specs.Reaching.{IsMarked, id_of_number}
use Rattle.sm_model.specs.declared.graph.Graph.{Graph}
use Rattle.sm_model.specs.declared.kind.Kind.{Kind}
use Rattle.sm_compile.specs.Compiled.{PatternRows, texts_of}
use Rattle.sm_compile.specs.Said.{pattern_seen}
use Rattle.sm_compile.specs.Sound.{trait_of}
use Rattle.sm_compile.specs.TraitNodes.{TraitsSeen}
use Rattle.sm_compile.specs.declared.patterns.CarriedTexts.{CarriedTexts}
use Rattle.sm_compile.specs.steps.Looked.{kind_under, target_kind}

abbrev pub pattern_where : Option Kind → TraitsSeen → Option (List ℕ)
pattern_where None seen = None
pattern_where (Some kind) seen = pattern_seen kind seen

-- by the type of the values there: of a shape its own, of a member its target's
abbrev pub carried : GraphMaps → List ℕ → Option (List ℕ)
carried g id = pattern_where (option_or (kind_under g id) (target_kind g id)) (λ name. trait_of g id name)

-- an id that stands at a marked number
abbrev pub IsMarkedId : Graph → List Bool → List ℕ → Type 0
IsMarkedId g marks id = (k : ℕ) × IsShapeNumber g k × IsMarked marks k × (id_of_number g k ≡ id)

-- a marked number carries this pattern
abbrev pub IsCarriedAt : Graph → List Bool → List ℕ → ℕ → Type 0
IsCarriedAt g marks u k = IsMarked marks k × (carried (maps_of g) (id_of_number g k) ≡ Some u)

-- and is the first that does
pub record IsFirstAt (g : Graph) (marks : List Bool) (u : List ℕ) (k : ℕ) : Type 0 where
  pub within : IsShapeNumber g k
  pub carries : IsCarriedAt g marks u k
  pub least : (j : ℕ) → j < k → IsCarriedAt g marks u j → ⊥

-- the numbers of the first carriers, beside the texts
abbrev pub AreFirstAt : Graph → List Bool → PatternRows → Type 0
AreFirstAt g marks [] = Unit {0}
AreFirstAt g marks (r ∷ rs) = IsFirstAt g marks r.1 r.0 × AreFirstAt g marks rs

abbrev pub carriers_of : PatternRows → List ℕ
carriers_of rs = map (λ r. r.0) rs

-- the patterns of the marked numbers below a bound
pub record AreCarriedBelow (g : Graph) (marks : List Bool) (bound : ℕ) (rs : PatternRows) : Type 0 where
  pub first : AreFirstAt g marks rs
  pub below : (k : ℕ) → Contains (carriers_of rs) k → k < bound
  pub rise : IsStrictlySortedBy text_cmp (map (id_of_number g) (carriers_of rs))
  pub all : (k : ℕ) (u : List ℕ) → k < bound → IsCarriedAt g marks u k → Contains (texts_of rs) u

-- what the code keeps: the texts with their first carriers, and the place of each text
abbrev pub rows_in : CarriedTexts → PatternRows
rows_in c = map (λ f. (f.number, f.text.now)) c.firsts.items

abbrev pub texts_in : CarriedTexts → List (List ℕ)
texts_in c = texts_of (rows_in c)

abbrev pub place_in : BTreeMap (Bor (List ℕ)) ℕ → List ℕ → Option ℕ
place_in places u = get_by (λ k. slice_cmp nat_cmp u k.now) places

abbrev pub IsPlaced : List (List ℕ) → List ℕ → Option ℕ → Type 0
IsPlaced texts u place = MatchOption place (Contains texts u → ⊥) (λ i. slice_get texts i ≡ Some u)

abbrev pub ArePlaced : CarriedTexts → Type 0
ArePlaced c = (u : List ℕ) → IsPlaced (texts_in c) u (place_in c.places u)

pub record AreCarriedUpTo (g : Graph) (marks : List Bool) (bound : ℕ) (c : CarriedTexts) : Type 0 where
  pub rows : AreCarriedBelow g marks bound (rows_in c)
  pub placed : ArePlaced c

-- all patterns of the marked numbers
abbrev pub AreCarried : Graph → List Bool → CarriedTexts → Type 0
AreCarried g marks c = AreCarriedUpTo g marks (length (entries_of g)) c
