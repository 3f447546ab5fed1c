use Rattle.sm_protocols.proofs.messages.CrossedMessages.{crosses_or_refused}
use Rattle.sm_protocols.specs.Forms.{form_of}
use Rattle.sm_gateway.proofs.laws.crosses_or_refused.Goals as goal

pub returns : goal.returns
returns c = λ near far. crosses_or_refused (form_of near) (form_of far) (c.each_is_form.ensures near).reads
