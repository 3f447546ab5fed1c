use Rattle.sm_rest_laws.proofs.RestForm.{rest_written_is}
use Rattle.sm_rest_laws.proofs.written_is_message.Goals as goal

pub returns : goal.returns
returns c = λ s test g host v serves served fits carried small.
    rest_written_is c.written_parts_read.ensures c.carried_texts_pass.ensures s test g host v serves served fits carried
