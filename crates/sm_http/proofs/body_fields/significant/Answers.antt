use Rattle.std.proofs.Common.{ap, ◌∙◌, drop}
use Rattle.sm_http.proofs.Cuts.{rest_of}
use Rattle.sm_http.proofs.Numbers.{behind_zeros}
use Rattle.sm_http.proofs.body_fields.significant.Goals as goal

pub returns : goal.returns
returns c =
    rest_of c.args.digits.now c.run_len.result ∙ ap (λ n. drop n c.args.digits.now) c.run_len.ensures.run
    ∙ behind_zeros c.args.digits.now
