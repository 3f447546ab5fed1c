use Rattle.std.proofs.Common.{arith}
use Rattle.std.proofs.lemmas.Fmt.{length-decimal-le}
use Rattle.sm_tree.proofs.Tokens.{length-decimal-small, length-decimal-large}
use Rattle.sm_tree.proofs.path.decimal_len.Goals as goal

pub overflow_add-digits : goal.overflow_add-digits
overflow_add-digits c =
    let whole = length-decimal-le 20 c.args.number (omega arith) (omega (arith, c.ranges.number.fits))
    (omega (arith, c.ranges.number.fits)) in
    omega (arith, whole, c.loop-rest.invariant.digits)

pub loop-rest-preserved : goal.loop-rest-preserved
loop-rest-preserved c =
    let shorter = length-decimal-large c.loop-rest.rest c.loop-rest-test.true c.loop-rest.invariant.word in
    record {
      digits = omega (arith, shorter, c.loop-rest.invariant.digits);
      word = omega (arith, c.loop-rest.invariant.word);
    }

pub returns : goal.returns
returns c =
    let last = length-decimal-small c.loop-rest.rest c.loop-rest-test.false in
    omega (arith, last, c.loop-rest.invariant.digits)
