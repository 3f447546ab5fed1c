use Rattle.std.proofs.Common.{◌*◌, ◌+◌, ◌-◌, ap, sym, ◌∙◌, get_or, arith}
use Rattle.sm_http.proofs.Numbers.{value_more, value_past}
use Rattle.sm_http.proofs.body_fields.length_value.Goals as goal

pub returns-then-number-gt-BODY_LIMIT-clause-none : goal.returns-then-number-gt-BODY_LIMIT-clause-none
returns-then-number-gt-BODY_LIMIT-clause-none c = λ e.
    value_past c.args.value.now c.loop-byte.byte-index c.loop-byte.number c.requires.digits c.loop-byte-test.true
    c.loop-byte.invariant.number c.if-number-gt-BODY_LIMIT.true

pub loop-byte-preserved : goal.loop-byte-preserved
loop-byte-preserved c = record {
  number = ap (λ n. n * 10 + (get_or c.args.value.now c.loop-byte.byte-index 0 - 48)) c.loop-byte.invariant.number
      ∙ sym (value_more c.args.value.now c.loop-byte.byte-index c.requires.digits c.loop-byte-test.true);
  within = omega (arith, c.if-number-gt-BODY_LIMIT.false);
}
