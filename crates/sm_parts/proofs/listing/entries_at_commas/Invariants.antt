use Rattle.std.proofs.Common.{◌≡◌, ◌++◌, length}
use Rattle.sm_parts.specs.HeaderLists.{pieces_of, plain_entries}
use Rattle.sm_parts.proofs.listing.entries_at_commas.Given as goal

abbrev pub invariant-loop-entries : goal.invariant-loop-entries
invariant-loop-entries l = l.entries.items ++ plain_entries (pieces_of l.cut l.rest) ≡ plain_entries (pieces_of l.cut l.value)

abbrev pub decreases-loop-entries : goal.decreases-loop-entries
decreases-loop-entries l = length l.rest
