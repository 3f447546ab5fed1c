use Rattle.std.proofs.Common.{◌≡◌, ◌++◌, length}
use Rattle.sm_parts.specs.HeaderLists.{quoted_entries}
use Rattle.sm_parts.proofs.quotes.quoted_entries.Given as goal

abbrev pub invariant-entries : goal.invariant-entries
invariant-entries l = l.entries.items ++ quoted_entries l.rest ≡ quoted_entries l.value

abbrev pub decreases-entries : goal.decreases-entries
decreases-entries l = length l.rest
