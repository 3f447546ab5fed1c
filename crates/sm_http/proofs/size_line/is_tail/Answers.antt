use Rattle.std.proofs.Common.{arith, ◌∙◌, sym}
use Rattle.std.proofs.Common.{eq-eqb}
use Rattle.sm_http.proofs.SizeTails.{tail_all, tail_stop}
use Rattle.sm_http.proofs.size_line.is_tail.Goals as goal

pub returns-then-blanks-bytes : goal.returns-then-blanks-bytes
returns-then-blanks-bytes c =
    eq-eqb _ _ c.if-blanks-bytes.true ∙ sym (tail_all c.args.bytes.now c.run_len-blanks.result c.run_len-blanks.ensures.run
    c.if-blanks-bytes.true)

pub returns-else-blanks-bytes : goal.returns-else-blanks-bytes
returns-else-blanks-bytes c =
    sym (tail_stop c.args.bytes.now c.run_len-blanks.result c.run_len-blanks.ensures.run
    (omega (arith, c.run_len-blanks.ensures.within, c.if-blanks-bytes.false)))
