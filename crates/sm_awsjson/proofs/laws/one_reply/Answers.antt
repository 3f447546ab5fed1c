use Rattle.sm_messages.proofs.OneReplies.{one_reply}
use Rattle.sm_awsjson.specs.Messages.{aws_form}
use Rattle.sm_awsjson.proofs.AwsForm.{aws_reads}
use Rattle.sm_awsjson.proofs.laws.one_reply.Goals as goal

pub returns : goal.returns
returns c = λ version. one_reply (aws_form version) (aws_reads version)
