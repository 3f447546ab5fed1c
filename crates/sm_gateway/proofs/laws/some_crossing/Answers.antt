use Rattle.sm_protocols.specs.Forms.{form_of}
use Rattle.sm_gateway.proofs.OneCrossing.{some_crossing}
use Rattle.sm_gateway.proofs.laws.some_crossing.Goals as goal

pub returns : goal.returns
returns c = λ near far. some_crossing (form_of near) (form_of far) (c.each_is_form.ensures near).reads
