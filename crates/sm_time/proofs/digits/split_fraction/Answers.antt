use Rattle.std.proofs.Common.{arith, ap, ◌∷◌, ◌∙◌}
use Rattle.sm_time.proofs.DigitFacts.{split_run}
use Rattle.sm_time.proofs.digits.split_fraction.Goals as goal

pub returns : goal.returns
returns c =
    let point = c.in-Some.ensures.cases.0 ∙ ap (λ b. b ∷ c.in-Some.rest.now) c.if-first-ne46.false in
    let split = split_run c.args.text.now c.in-Some.rest.now c.digit_run-count.result point (omega arith) c.digit_run-count.ensures.within
    c.digit_run-count.ensures.digits c.digit_run-count.ensures.longest in
    rw (c.split_at-2.ensures.front, c.split_at-2.ensures.back) split
