-- Rows under texts, and the same with what stands under one text together.
use Rattle.std.specs.Prelude.{◌≡◌, ℕ, List, [], ◌∷◌, ◌++◌, map, filter_map, Option, Some, None, if◌then◌else◌}
use Rattle.std.specs.Option.{unwrap_or}
use Rattle.std.specs.FinMap as fin
use Rattle.std.specs.Str.{bytes_eq}
use Rattle.sm_model.specs.Graphs.{text_cmp}
use Rattle.sm_model.specs.steps.Rising.{Rise}
use Rattle.sm_groups.specs.declared.groups.Group.{Group}

-- what stands under a text, in order
abbrev pub if_under : {V : Type 0} → List ℕ → List ℕ × V → Option V
if_under key e = if bytes_eq e.0 key then Some e.1 else None

abbrev pub all_under : {V : Type 0} → List ℕ → List (List ℕ × V) → List V
all_under key es = filter_map (if_under key) es

-- rows next to each other that have one text, together: one that begins with these, and the rest
abbrev pub resumed : {V : Type 0} → List ℕ → List V → List (List ℕ × List V) → List (List ℕ × List V)
resumed key vs [] = (key, vs) ∷ []
resumed key vs (g ∷ gs) = if bytes_eq key g.0 then (key, vs ++ g.1) ∷ gs else (key, vs) ∷ g ∷ gs

abbrev pub grouped : {V : Type 0} → List (List ℕ × V) → List (List ℕ × List V)
grouped [] = []
grouped (e ∷ es) = resumed e.0 (e.1 ∷ []) (grouped es)

-- groups of the code
abbrev pub group_view : {V : Type 0} → Group V → List ℕ × List V
group_view g = (g.key, g.first ∷ g.more.items)

abbrev pub groups_view : {V : Type 0} → List (Group V) → List (List ℕ × List V)
groups_view gs = map group_view gs

-- the groups of more rows, behind one that is open or none
abbrev pub resumed_by : {V : Type 0} → Option (Group V) → List (List ℕ × List V) → List (List ℕ × List V)
resumed_by None gs = gs
resumed_by (Some g) gs = resumed g.key (g.first ∷ g.more.items) gs

-- a row is taken: whatever follows, the groups come to what they came to with the row
abbrev pub HasTakenRow : {V : Type 0} → List (Group V) → Option (Group V) → List ℕ × V → List (Group V) → Option (Group V) → Type 0
HasTakenRow {V} before from row after to = (rest : List (List ℕ × V))
    → groups_view after ++ resumed_by to (grouped rest) ≡ groups_view before ++ resumed_by from (grouped (row ∷ rest))

-- groups of these rows, in the order of their texts
pub record AreGroupsOf {V : Type 0} (es : List (List ℕ × V)) (gs : List (List ℕ × List V)) : Type 0 where
  pub rise : Rise (map (λ g. g.0) gs)
  pub each : (key : List ℕ) → unwrap_or (fin.find text_cmp key gs) [] ≡ all_under key es
