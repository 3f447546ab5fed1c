use Rattle.std.proofs.Common.{take, drop, sym, subst}
use Rattle.std.specs.Str.Parse.{AllDigits}
use Rattle.sm_time.specs.steps.Parts.{NoDigitFirst}
use Rattle.sm_time.proofs.DigitFacts.{run_digits, run_ends}
use Rattle.sm_time.proofs.digits.digit_run.Goals as goal

pub returns-clause-digits : goal.returns-clause-digits
returns-clause-digits c = subst (λ n. AllDigits 10 (take n c.args.text.now)) (sym c.run_len.ensures.run) (run_digits c.args.text.now)

pub returns-clause-longest : goal.returns-clause-longest
returns-clause-longest c = subst (λ n. NoDigitFirst (drop n c.args.text.now)) (sym c.run_len.ensures.run) (run_ends c.args.text.now)
