use Rattle.std.proofs.Common.{arith}
use Rattle.std.proofs.lemmas.Int.Digits.{digits_value_more}
use Rattle.sm_time.proofs.DigitFacts.{digit_below}
use Rattle.sm_time.proofs.epoch_seconds.seconds_of.Goals as goal

pub value_of-requires : goal.value_of-requires
value_of-requires c = digit_below c.args.digits.now c.loop-digit.digit-index c.requires c.loop-digit-test.true

pub loop-digit-preserved : goal.loop-digit-preserved
loop-digit-preserved c =
    omega (
      arith,
      c.loop-digit.invariant,
      c.saturating_mul.ensures,
      c.saturating_add-value.ensures,
      c.value_of.ensures.value,
      digits_value_more 10 c.args.digits.now c.loop-digit.digit-index c.loop-digit-test.true,
    )
