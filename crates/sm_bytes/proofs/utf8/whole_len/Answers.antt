use Rattle.std.proofs.Common.{inl, inr, ◌<◌, arith}
use Rattle.std.proofs.lemmas.Bool.{cases_lt}
use Rattle.std.specs.Str.{valid_up_to}
use Rattle.sm_bytes.proofs.utf8.whole_len.Goals as goal

pub returns-in-Err-clause-longest : goal.returns-in-Err-clause-longest
returns-in-Err-clause-longest c = λ len fits whole. elim (cases_lt c.valid_up_to.result len) [
  | inl past ↦ let further : valid_up_to c.in-Err.error < len = omega (arith, c.valid_up_to.ensures, past) in
      absurd (c.in-Err.ensures.cases.1.longest len further whole)
  | inr within ↦ within
]
