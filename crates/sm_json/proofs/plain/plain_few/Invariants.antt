use Rattle.sm_json.specs.steps.Placing.{IsPlainBetween}
use Rattle.sm_json.proofs.plain.plain_few.Given as goal

abbrev pub invariant-loop-byte : goal.invariant-loop-byte
invariant-loop-byte l = IsPlainBetween l.text 0 l.byte-index
