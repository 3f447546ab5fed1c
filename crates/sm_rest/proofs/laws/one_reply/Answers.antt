use Rattle.sm_bind_read.proofs.messages.OneReplies.{one_reply}
use Rattle.sm_rest.specs.RestForm.{rest_form}
use Rattle.sm_rest.proofs.RestReads.{rest_reads}
use Rattle.sm_rest.proofs.laws.one_reply.Goals as goal

pub returns : goal.returns
returns c = one_reply rest_form rest_reads
