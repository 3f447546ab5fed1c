use Rattle.sm_protocols.specs.Forms.{form_of}
use Rattle.sm_gateway.proofs.ValuesKept.{values_kept}
use Rattle.sm_gateway.proofs.laws.values_kept.Goals as goal

pub returns : goal.returns
returns c = λ near far. values_kept (form_of near) (form_of far) (c.each_is_form.ensures near).reads (c.each_is_form.ensures far)
