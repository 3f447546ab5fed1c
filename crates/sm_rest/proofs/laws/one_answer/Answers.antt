use Rattle.sm_bind_read.proofs.messages.OneMessage.{one_message}
use Rattle.sm_rest.specs.RestForm.{rest_form}
use Rattle.sm_rest.proofs.RestReads.{rest_reads}
use Rattle.sm_rest.proofs.laws.one_answer.Goals as goal

pub returns : goal.returns
returns c = one_message rest_form rest_reads
