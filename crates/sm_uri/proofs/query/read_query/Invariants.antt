use Rattle.std.proofs.Common.{length}
use Rattle.std.specs.Prelude.{IsUtf8}
use Rattle.sm_uri.proofs.UriQueries.{QueryTaken}
use Rattle.sm_uri.proofs.query.read_query.Given as goal

abbrev pub invariant-literals : goal.invariant-literals
invariant-literals l = record { utf8 : IsUtf8 l.rest; taken : QueryTaken l.text l.literals.items l.rest }

abbrev pub decreases-literals : goal.decreases-literals
decreases-literals l = length l.rest
