-- Operations that have one route, by one of them that stands for all.
use Rattle.std.specs.Prelude.{◌≡◌, ◌⊎◌, ◌↔◌, ◌<◌, ◌≤◌, ℕ, List, Option, Some, None, drop, get_or, take}
use Rattle.std.specs.List.{Contains}
use Rattle.std.specs.List.Sorted.{IsSortedBy}
use Rattle.std.specs.Map.{values_of}
use Rattle.std.specs.Ordering.{is_lt, nat_cmp}
use Rattle.sm_model.specs.EventView.{EventTold}
use Rattle.sm_model.specs.Graphs.{text_cmp}
use Rattle.sm_model.specs.GraphView.{IsShapeNumber, maps_of}
use Rattle.sm_model.specs.Reaching.{id_of_number}
use Rattle.sm_model.specs.declared.graph.Graph.{Graph}
use Rattle.sm_rules.specs.RuleEvents.{rule_event}
use Rattle.sm_rules.specs.declared.rule.Rule.TheVariants.{HttpRoutes}
use Rattle.sm_http_rules.specs.steps.Routes.{IsRouteKey}

-- what stands under a number: one that has its key, and of any two that have one key the same
pub record AreTogether (Has : ℕ → List ℕ → Type 0) (firsts : List (Option ℕ)) : Type 0 where
  pub one : (k first : ℕ) → get_or firsts k None ≡ Some first → (key : List ℕ) × Has k key × Has first key
  pub all : (key : List ℕ) (j k : ℕ) → j < k → Has j key → Has k key
      → (first : ℕ) × (get_or firsts j None ≡ Some first) × (get_or firsts k None ≡ Some first)

-- by the routes of a graph's operations
abbrev pub HasRoute : Graph → ℕ → List ℕ → Type 0
HasRoute g k key = IsShapeNumber g k × IsRouteKey (maps_of g) (id_of_number g k) key

abbrev pub AreSameRoutes : Graph → List (Option ℕ) → Type 0
AreSameRoutes g firsts = AreTogether (HasRoute g) firsts

-- by rows of texts and numbers
abbrev pub HasRow : List (List ℕ × ℕ) → ℕ → List ℕ → Type 0
HasRow rows k key = Contains rows (key, k)

-- in which a number has one text at most
abbrev pub HaveOneText : List (List ℕ × ℕ) → Type 0
HaveOneText rows = (k : ℕ) (one other : List ℕ) → HasRow rows k one → HasRow rows k other → one ≡ other

-- which stand in the order of their texts
abbrev pub AreInOrder : List (List ℕ × ℕ) → Type 0
AreInOrder rows = IsSortedBy (λ a b. is_lt (text_cmp a.0 b.0)) rows

-- the first so many of them have one text, and no other has it
pub record IsRun (rows : List (List ℕ × ℕ)) (count : ℕ) : Type 0 where
  pub key : List ℕ
  pub one : (r : List ℕ × ℕ) → Contains (take count rows) r → r.0 ≡ key
  pub alone : (r : List ℕ × ℕ) → Contains (drop count rows) r → r.0 ≡ key → ⊥

-- this one stands under each of these numbers now, and under all others what stood there
abbrev pub IsPutUnder : ℕ → List ℕ → List (Option ℕ) → List (Option ℕ) → Type 0
IsPutUnder first ks olds news =
    (k : ℕ) → (Contains ks k × (get_or news k None ≡ Some first)) ⊎ ((Contains ks k → ⊥) × (get_or news k None ≡ get_or olds k None))

-- one of so many rows is put under all of them, unless there is one alone
pub record IsFirstPut (rows : List (List ℕ × ℕ)) (count : ℕ) (olds news : List (Option ℕ)) : Type 0 where
  pub alone : count ≤ 1 → news ≡ olds
  pub several : 1 < count
      → (first : ℕ) × Contains (values_of (take count rows)) first × IsPutUnder first (values_of (take count rows)) olds news

-- those of the rows before a place stand together, and no row behind it has a text of theirs
pub record AreGathered (rows : List (List ℕ × ℕ)) (at : ℕ) (firsts : List (Option ℕ)) : Type 0 where
  pub together : AreTogether (HasRow (take at rows)) firsts
  pub differ : (r s : List ℕ × ℕ) → Contains (take at rows) r → Contains (drop at rows) s → r.0 ≡ s.0 → ⊥

-- of these numbers those under which one stands, each behind that one
abbrev pub AreUnder : List (Option ℕ) → List ℕ → List (ℕ × ℕ) → Type 0
AreUnder firsts ks rows = (r : ℕ × ℕ) → Contains rows r ↔ (Contains ks r.1 × (get_or firsts r.1 None ≡ Some r.0))

-- which stand in the order of their firsts
abbrev pub AreByFirsts : List (ℕ × ℕ) → Type 0
AreByFirsts rows = IsSortedBy (λ a b. is_lt (nat_cmp a.0 b.0)) rows

-- the first of the row at a place
abbrev pub first_at : List (ℕ × ℕ) → ℕ → ℕ
first_at rows i = (get_or rows i (0, 0)).0

-- of the rows before a place those from here on have one first, and all others smaller ones
pub record IsRunFrom (rows : List (ℕ × ℕ)) (begin place : ℕ) : Type 0 where
  pub within : begin ≤ place
  pub smaller : (i : ℕ) → i < begin → first_at rows i < first_at rows begin
  pub same : (i : ℕ) → begin ≤ i → i < place → first_at rows i ≡ first_at rows begin

-- told of two operations with one route: at the greater, with the smaller
abbrev pub IsPairTold : Graph → ℕ → ℕ → EventTold → Type 0
IsPairTold g j k e = (j < k) × (e ≡ rule_event HttpRoutes (id_of_number g k) (id_of_number g j))

-- whichever is the greater
abbrev pub IsEitherTold : Graph → ℕ → ℕ → EventTold → Type 0
IsEitherTold g j k e = IsPairTold g j k e ⊎ IsPairTold g k j e

-- of each two of these rows with one first
abbrev pub ToldOfRows : Graph → List (ℕ × ℕ) → EventTold → Type 0
ToldOfRows g rows e = (r s : ℕ × ℕ) × Contains rows r × Contains rows s × (r.0 ≡ s.0) × IsPairTold g r.1 s.1 e

-- and of each two of these numbers under which one first stands
abbrev pub ToldOfNumbers : Graph → List (Option ℕ) → List ℕ → EventTold → Type 0
ToldOfNumbers g firsts ks e =
    (j k first : ℕ) × Contains ks j × Contains ks k × (get_or firsts j None ≡ Some first) × (get_or firsts k None ≡ Some first)
    × IsPairTold g j k e
