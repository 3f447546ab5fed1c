use Rattle.std.proofs.Common.{arith}
use Rattle.sm_http.proofs.LinesSeen.{all_text, no_return, return_last, no_feed, whole_line}
use Rattle.sm_http.proofs.line.see_line.Goals as goal

pub returns-then-len-bytes : goal.returns-then-len-bytes
returns-then-len-bytes c = all_text c.args.bytes.now c.run_len-len.result c.run_len-len.ensures.run c.if-len-bytes.true

pub returns-then-bytes-len-ne13 : goal.returns-then-bytes-len-ne13
returns-then-bytes-len-ne13 c =
    no_return c.args.bytes.now c.run_len-len.result c.run_len-len.ensures.run
    (omega (arith, c.run_len-len.ensures.within, c.if-len-bytes.false))
    c.if-bytes-len-ne13.true

pub returns-then-len-bytes-2 : goal.returns-then-len-bytes-2
returns-then-len-bytes-2 c =
    return_last c.args.bytes.now c.run_len-len.result c.run_len-len.ensures.run c.if-len-bytes-2.true c.if-bytes-len-ne13.false

pub returns-then-bytes-len-ne10 : goal.returns-then-bytes-len-ne10
returns-then-bytes-len-ne10 c =
    no_feed c.args.bytes.now c.run_len-len.result c.run_len-len.ensures.run
    (omega (arith, c.run_len-len.ensures.within, c.if-len-bytes.false, c.if-len-bytes-2.false)) c.if-bytes-len-ne10.true

pub returns : goal.returns
returns c =
    whole_line c.args.bytes.now c.run_len-len.result c.run_len-len.ensures.run
    (omega (arith, c.run_len-len.ensures.within, c.if-len-bytes.false, c.if-len-bytes-2.false)) c.if-bytes-len-ne13.false
    c.if-bytes-len-ne10.false
