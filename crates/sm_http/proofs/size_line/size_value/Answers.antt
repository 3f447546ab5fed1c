use Rattle.std.proofs.Common.{◌+◌, ◌*◌, ap, sym, ◌∙◌, take, arith}
use Rattle.std.specs.Str.Parse.{digits_value}
use Rattle.std.proofs.lemmas.Int.Digits.{digits_value_more}
use Rattle.sm_http.proofs.SizeTails.{digit_more, below_top}
use Rattle.sm_http.proofs.size_line.size_value.Goals as goal

pub overflow_mul-size : goal.overflow_mul-size
overflow_mul-size c =
    omega (
      arith,
      digit_more c.loop-byte.size 0 c.loop-byte.byte-index c.loop-byte.invariant.below (omega arith),
      below_top c.loop-byte.byte-index (omega (arith, c.loop-byte-test.true, c.requires.few)),
    )

pub overflow_add-size : goal.overflow_add-size
overflow_add-size c =
    omega (
      arith,
      digit_more c.loop-byte.size c.in-Some.digit c.loop-byte.byte-index c.loop-byte.invariant.below c.in-Some.ensures.value.1,
      below_top c.loop-byte.byte-index (omega (arith, c.loop-byte-test.true, c.requires.few)),
    )

pub loop-byte-preserved : goal.loop-byte-preserved
loop-byte-preserved c = record {
  number = ap (λ n. n * 16 + c.in-Some.digit) c.loop-byte.invariant.number
      ∙ ap (λ d. digits_value 16 (take c.loop-byte.byte-index c.args.digits.now) * 16 + d) c.in-Some.ensures.value.0
      ∙ sym (digits_value_more 16 c.args.digits.now c.loop-byte.byte-index c.loop-byte-test.true);
  below = digit_more c.loop-byte.size c.in-Some.digit c.loop-byte.byte-index c.loop-byte.invariant.below c.in-Some.ensures.value.1;
}
