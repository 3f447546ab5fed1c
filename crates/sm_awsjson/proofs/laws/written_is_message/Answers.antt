use Rattle.sm_awsjson.proofs.AwsForm.{aws_written_is}
use Rattle.sm_awsjson.proofs.laws.written_is_message.Goals as goal

pub returns : goal.returns
returns c = λ version s test g host v serves served fits carried small. aws_written_is version s test g host v serves served fits carried
