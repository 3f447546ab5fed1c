-- The graph that a change makes of a graph. The metadata is kept by each.
use Rattle.std.specs.Prelude.{◌≡◌, ◌↔◌, ℕ, Bool, true, false, List, Some, None, if◌then◌else◌}
use Rattle.sm_model.specs.Graphs.{Entry, GraphMaps, NodeMap}
use Rattle.sm_model.specs.Relations.{HasEntry}
use Rattle.sm_select.specs.Selectors.{Steps}
use Rattle.sm_transform.specs.Excluded.{IsOut}
use Rattle.sm_transform.specs.IdChanges.{IdChange, entry_after}
use Rattle.sm_transform.specs.Included.{StaysIncluded}
use Rattle.sm_transform.specs.Renamed.{renamed_id, renames}

-- what stands in a graph now comes of what stood there: of what stays, by what becomes of its id and of its entry
pub record IsMadeOf (Stays : List ℕ → Type 0) (moved : List ℕ → List ℕ) (after : Entry → Entry) (g h : GraphMaps) : Type 0 where
  pub shapes : (id : List ℕ) (e : Entry) → HasEntry h id e
      ↔ ((old : List ℕ) × (f : Entry) × HasEntry g old f × Stays old × (id ≡ moved old) × Path Entry e (after f))
  pub metadata : Path NodeMap h.metadata g.metadata

-- ids stay, but those that are out
abbrev pub unless : (List ℕ → Bool) → IdChange
unless out id = if out id then None else Some id

-- what is done to a graph: its shapes are kept that a selector picks, or taken out, or a namespace gets another name
pub data Change : Type 0 where
  include : Steps → Change
  exclude : Steps → Change
  rename : List ℕ → List ℕ → Change

-- the test tells what is out
pub record IsExcluded (g : GraphMaps) (steps : Steps) (h : GraphMaps) : Type 0 where
  pub out : List ℕ → Bool
  pub told : (id : List ℕ) → (out id ≡ true) ↔ IsOut g steps id
  pub made : IsMadeOf (λ id. out id ≡ false) (λ id. id) (entry_after (unless out)) g h

abbrev pub Changed : GraphMaps → Change → GraphMaps → Type 0
Changed g (include steps) h = IsMadeOf (StaysIncluded g steps) (λ id. id) (λ e. e) g h
Changed g (exclude steps) h = IsExcluded g steps h
Changed g (rename from to) h = IsMadeOf (λ id. Unit {0}) (renamed_id from to) (entry_after (renames from to)) g h
