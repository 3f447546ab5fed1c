use Rattle.sm_bind_read.proofs.messages.SomeMessage.{some_message}
use Rattle.sm_rest.specs.RestForm.{rest_form}
use Rattle.sm_rest.proofs.RestReads.{rest_reads}
use Rattle.sm_rest.proofs.laws.some_answer.Goals as goal

pub returns : goal.returns
returns c = some_message rest_form rest_reads
