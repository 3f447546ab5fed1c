use Rattle.std.proofs.Common.{arith, ap, length}
use Rattle.sm_time.specs.TimeText.{fraction_text}
use Rattle.sm_time.proofs.ShortDigits.{length-short}
use Rattle.sm_time.proofs.epoch_seconds.put_millis.Goals as goal

pub put_fraction-requires : goal.put_fraction-requires
put_fraction-requires c =
    let digits = c.without_zeros.ensures c.args.millis c.requires.small c.three_digits_of.ensures in
    omega (arith, c.requires.room, length-short c.args.millis, ap (λ l. length (fraction_text l)) digits)

pub returns-clause-bound : goal.returns-clause-bound
returns-clause-bound c =
    let digits = c.without_zeros.ensures c.args.millis c.requires.small c.three_digits_of.ensures in
    omega (arith, c.put_fraction.ensures.next, length-short c.args.millis, ap (λ l. length (fraction_text l)) digits)
