use Rattle.std.proofs.Common.{◌≡◌, ◌≤◌, length}
use Rattle.sm_http.specs.FieldLists.{lists_token}
use Rattle.sm_http.proofs.tokens.lists_token.Given as goal

abbrev pub invariant-loop-rest : goal.invariant-loop-rest
invariant-loop-rest l = record {
  listed : lists_token l.token l.rest ≡ lists_token l.token l.value;
  within : length l.rest ≤ length l.value;
}

abbrev pub decreases-loop-rest : goal.decreases-loop-rest
decreases-loop-rest l = length l.rest
