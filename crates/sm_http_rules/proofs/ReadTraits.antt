-- Whether a value of a trait reads, by the rows of the code.
use Rattle.std.proofs.Common.{◌≡◌, ℕ, List, sym}
use Rattle.std.specs.List.{list_any}
use Rattle.std.specs.Str.{bytes_eq}
use Rattle.sm_tree.specs.Node.{Node}
use Rattle.sm_rules.specs.TraitRows.{has_form, is_as_one, rows_of, trait_rows}
use Rattle.sm_passes.specs.RowTests.{reads_by, some_row}
use Rattle.sm_passes.proofs.RowTested.{filtered}

pub reads_same : (trait : List ℕ) (n : Node) → some_row trait (reads_by n) trait_rows ≡ is_as_one (rows_of trait) n
reads_same trait n = sym (filtered (λ r. list_any (bytes_eq trait) r.traits) (λ r. has_form r.value n) trait_rows)
