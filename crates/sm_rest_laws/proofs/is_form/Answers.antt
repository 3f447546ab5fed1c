use Rattle.sm_rest_laws.proofs.RestForm.{rest_is_form}
use Rattle.sm_rest_laws.proofs.is_form.Goals as goal

pub returns : goal.returns
returns c = rest_is_form c.written_parts_read.ensures c.carried_texts_pass.ensures
