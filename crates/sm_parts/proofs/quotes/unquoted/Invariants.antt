use Rattle.std.proofs.Common.{◌≡◌, ◌≤◌, [], length}
use Rattle.sm_parts.specs.HeaderLists.{within_quotes}
use Rattle.sm_parts.proofs.quotes.unquoted.Given as goal

abbrev pub invariant-loop-byte : goal.invariant-loop-byte
invariant-loop-byte l = record {
  same : within_quotes l.text.items l.rest ≡ within_quotes [] l.inside;
  within : length l.rest ≤ length l.inside;
}

abbrev pub decreases-loop-byte : goal.decreases-loop-byte
decreases-loop-byte l = length l.rest
