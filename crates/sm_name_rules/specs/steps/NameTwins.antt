-- Names that are equal but for case, in the whole graph and among marked numbers.
use Rattle.std.specs.Prelude.{◌≡◌, ◌↔◌, ◌⊎◌, ℕ, Bool, false, List, [], ◌∷◌, ◌++◌, Option, Some, None, cond, get_or, length, ◌==◌}
use Rattle.std.specs.BTreeMap.{BTreeMap, get}
use Rattle.std.specs.List.{Contains}
use Rattle.std.specs.Ordering.{nat_cmp}
use Rattle.sm_model.specs.GraphView.{IsShapeNumber, entries_of}
use Rattle.sm_model.specs.Reaching.{IsMarked}
use Rattle.sm_model.specs.declared.graph.Graph.{Graph}
use Rattle.sm_passes.specs.Firsts.{number_in}
use Rattle.sm_name_rules.specs.declared.name_twins.NamesInside.{NamesInside}
use Rattle.sm_name_rules.specs.steps.Naming.{IsOwnKey}

-- names that count, and are equal by their ids but for case
abbrev pub SameName : Graph → ℕ → ℕ → Type 0
SameName g j k = (key : List ℕ) × IsOwnKey g j key × IsOwnKey g k key

-- a marked number whose name another marked one has
abbrev pub IsNameTwin : Graph → List Bool → ℕ → Type 0
IsNameTwin g inside k = IsMarked inside k × ((j : ℕ) × (j ≡ k → ⊥) × IsMarked inside j × SameName g j k)

abbrev pub AreNameTwins : Graph → List Bool → List ℕ → Type 0
AreNameTwins g inside ns = (k : ℕ) → Contains ns k ↔ IsNameTwin g inside k

-- a marked number of this name, where there is one
abbrev pub IsOneNamed : Graph → List Bool → List ℕ → Option ℕ → Type 0
IsOneNamed g inside key None = (k : ℕ) → IsMarked inside k → IsOwnKey g k key → ⊥
IsOneNamed g inside key (Some k) = IsMarked inside k × IsOwnKey g k key

-- rows of all shapes whose names count, under their own names
abbrev pub AreOwnRows : Graph → List (List ℕ × ℕ) → Type 0
AreOwnRows g rows = (r : List ℕ × ℕ) → Contains rows r ↔ (IsShapeNumber g r.1 × IsOwnKey g r.1 r.0)

-- what stands first under the name of a number, where it is another one
abbrev pub earlier_of : Option ℕ → ℕ → Option ℕ
earlier_of None k = None
earlier_of (Some j) k = cond (j == k) None (Some j)

-- by a table of all numbers
abbrev pub earlier_in : List (Option ℕ) → ℕ → Option ℕ
earlier_in table k = get_or table k None

-- a table that has exactly those of some rows
abbrev pub IsEarlierIn : (List ℕ → Option ℕ) → List (List ℕ × ℕ) → ℕ → ℕ → Type 0
IsEarlierIn first rows k f = (key : List ℕ) × Contains {X = List ℕ × ℕ} rows (key, k) × (first key ≡ Some f) × (f ≡ k → ⊥)

abbrev pub AreEarlierIn : (List ℕ → Option ℕ) → List (List ℕ × ℕ) → List (Option ℕ) → Type 0
AreEarlierIn first rows table = (k f : ℕ) → (earlier_in table k ≡ Some f) ↔ IsEarlierIn first rows k f

-- the first one of the name of a number, and not that number itself
abbrev pub IsEarlier : Graph → (List ℕ → Option ℕ) → ℕ → ℕ → Type 0
IsEarlier g first k f = IsShapeNumber g k × (f ≡ k → ⊥) × ((key : List ℕ) × IsOwnKey g k key × (first key ≡ Some f))

-- what stands first under each name of a graph, and, for each other number of a name, that first one
pub record AreNames (g : Graph) (first : List ℕ → Option ℕ) (earlier : ℕ → Option ℕ) : Type 0 where
  pub named : (key : List ℕ) (k : ℕ) → first key ≡ Some k → IsShapeNumber g k × IsOwnKey g k key
  pub first_of : (k : ℕ) → IsShapeNumber g k → (key : List ℕ) → IsOwnKey g k key → (j : ℕ) × (first key ≡ Some j)
  pub others : (k f : ℕ) → (earlier k ≡ Some f) ↔ IsEarlier g first k f

-- the number under another one, in the code
abbrev pub number_under : BTreeMap ℕ ℕ → ℕ → Option ℕ
number_under map k = get nat_cmp map k

-- the marked number of a name, by the one that stands first under it
abbrev pub one_of : List Bool → (ℕ → Option ℕ) → Option ℕ → Option ℕ
one_of inside ones None = None
one_of inside ones (Some first) = cond (get_or inside first false) (Some first) (ones first)

-- the numbers of one name: the first one, and the others that stand with it
abbrev pub IsOf : (ℕ → Option ℕ) → ℕ → ℕ → Type 0
IsOf earlier first k = (k ≡ first) ⊎ (earlier k ≡ Some first)

-- two numbers that differ
abbrev pub two_of : ℕ → ℕ → List ℕ
two_of j k = cond (j == k) [] (j ∷ k ∷ [])

-- what one marked number more brings, by the first one of its name (where that is another) and the marked one: nothing, two twins, or
-- it is the marked one from now on
abbrev pub Counts : Option ℕ → Option ℕ → ℕ → (ℕ → Option ℕ) → List ℕ → (ℕ → Option ℕ) → List ℕ → Type 0
Counts None one k ones twins ones_now twins_now = ((q : ℕ) → ones_now q ≡ ones q) × (twins_now ≡ twins)
Counts (Some first) (Some j) k ones twins ones_now twins_now = ((q : ℕ) → ones_now q ≡ ones q) × (twins_now ≡ twins ++ two_of j k)
Counts (Some first) None k ones twins ones_now twins_now =
    ((q : ℕ) → ones_now q ≡ cond (first == q) (Some k) (ones q)) × (twins_now ≡ twins)

-- what is known of marked numbers where some of them are counted
pub record AreCounted (inside : List Bool) (earlier : ℕ → Option ℕ) (ns : List ℕ) (ones : ℕ → Option ℕ) (twins : List ℕ) : Type 0 where
  pub one : (first k : ℕ) → ones first ≡ Some k → (earlier k ≡ Some first) × IsMarked inside k
  pub counted : (k first : ℕ) → Contains ns k → earlier k ≡ Some first
      → (j : ℕ) × (one_of inside ones (Some first) ≡ Some j) × ((j ≡ k) ⊎ (Contains twins j × Contains twins k))
  pub twin : (k : ℕ) → Contains twins k → IsMarked inside k
      × ((j first : ℕ) × (j ≡ k → ⊥) × IsMarked inside j × IsOf earlier first j × IsOf earlier first k)

-- what marked numbers have of the names of a graph
pub record AreNamesInside (g : Graph) (names : NamesInside) : Type 0 where
  pub whole : length names.inside.now ≡ length (entries_of g)
  pub twins : AreNameTwins g names.inside.now names.twins.items
  pub one : (key : List ℕ) → IsOneNamed g names.inside.now key
      (one_of names.inside.now (number_under names.ones) (number_in names.firsts.now key))
