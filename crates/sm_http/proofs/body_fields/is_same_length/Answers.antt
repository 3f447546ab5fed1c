use Rattle.std.proofs.Common.{◌∙◌}
use Rattle.sm_http.proofs.Numbers.{same_length_test}
use Rattle.sm_http.proofs.body_fields.is_same_length.Goals as goal

pub returns : goal.returns
returns c =
    c.eq.ensures ∙ same_length_test c.args.a.now c.args.b.now c.significant.result.now c.significant-2.result.now
    c.requires.one c.requires.other c.significant.ensures c.significant-2.ensures
