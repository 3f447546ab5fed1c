use Rattle.sm_protocols.specs.Forms.{form_of}
use Rattle.sm_gateway.proofs.OneCrossing.{one_crossing}
use Rattle.sm_gateway.proofs.laws.one_crossing.Goals as goal

pub returns : goal.returns
returns c = λ near far. one_crossing (form_of near) (form_of far) (c.each_is_form.ensures near).reads
