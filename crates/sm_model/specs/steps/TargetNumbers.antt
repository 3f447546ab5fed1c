-- The numbers of ids, and those of what the members of a graph target.
use Rattle.std.specs.Prelude.{◌≡◌, ◌<◌, ℕ, List, length, Option, Some, None, MatchOption, IsSomeAnd, get_or, slice_get}
use Rattle.sm_model.specs.Formed.{StandsAmong}
use Rattle.sm_model.specs.GraphRows.{ids_of}
use Rattle.sm_model.specs.declared.graph.rows.GraphRow.{GraphRow}
use Rattle.sm_model.specs.declared.graph.rows.RowEntry.{RowEntry}
use Rattle.sm_model.specs.declared.graph.rows.RowEntry.TheVariants.{Shape, Member}

-- the number of an id among ids, or that it doesn't stand there
abbrev pub IsNumberAmong : List (List ℕ) → List ℕ → Option ℕ → Type 0
IsNumberAmong ids id found = MatchOption found (StandsAmong id ids → ⊥) (λ s. slice_get ids s ≡ Some id)

-- the id that a row targets; a shape targets none
abbrev pub target_kept : RowEntry → Option (List ℕ)
target_kept (Shape s) = None
target_kept (Member target) = Some target

-- the number of what a row targets
abbrev pub IsTargetNumber : List (List ℕ) → RowEntry → Option ℕ → Type 0
IsTargetNumber ids e found = MatchOption (target_kept e) (found ≡ None) (λ target. IsNumberAmong ids target found)

-- those of all rows
pub record AreTargets (rows : List GraphRow) (targets : List (Option ℕ)) : Type 0 where
  pub whole : length targets ≡ length rows
  pub each : (k : ℕ) → k < length rows → IsSomeAnd (slice_get rows k) (λ r. IsTargetNumber (ids_of rows) r.entry (get_or targets k None))
