use Rattle.sm_tree.proofs.SomeAnswer.{some_answer}
use Rattle.sm_cbor.specs.Refusals.{cbor_syntax}
use Rattle.sm_cbor.proofs.Verdicts.{nothing_begins}
use Rattle.sm_cbor.proofs.laws.some_answer.Goals as goal

pub returns : goal.returns
returns c = some_answer cbor_syntax nothing_begins
