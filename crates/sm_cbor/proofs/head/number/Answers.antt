use Rattle.std.proofs.Common.{arith}
use Rattle.sm_cbor.proofs.PrefixSteps.{number_word, number_below, number_carried}
use Rattle.sm_cbor.proofs.head.number.Goals as goal

pub overflow_mul-number : goal.overflow_mul-number
overflow_mul-number c = let word = number_word c.args.bytes.now c.loop-byte.byte-index c.loop-byte.number 0 c.loop-byte-test.true
    (omega arith) c.loop-byte.invariant.below in omega arith

pub overflow_add-number : goal.overflow_add-number
overflow_add-number c =
    let small = (c.type_inv.bytes c.loop-byte.byte-index).fits in
    let same = c.from.ensures in
    let word = number_word c.args.bytes.now c.loop-byte.byte-index c.loop-byte.number c.from.result c.loop-byte-test.true (omega arith)
    c.loop-byte.invariant.below in
    omega arith

pub loop-byte-preserved : goal.loop-byte-preserved
loop-byte-preserved c =
    let small = (c.type_inv.bytes c.loop-byte.byte-index).fits in
    let same = c.from.ensures in
    record {
      below = number_below c.args.bytes.now c.loop-byte.byte-index c.loop-byte.number c.from.result c.loop-byte-test.true (omega arith)
          c.loop-byte.invariant.below;
      carried = λ n h. number_carried c.args.bytes.now c.loop-byte.byte-index c.args.value c.loop-byte.number c.from.result n
          c.loop-byte-test.true c.from.ensures (omega arith) c.loop-byte.invariant.carried h;
    }
