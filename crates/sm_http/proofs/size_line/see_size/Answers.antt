use Rattle.std.proofs.Common.{arith}
use Rattle.sm_http.proofs.SizesSeen.{whole_long, whole_other, whole_size, part_long, part_other, part_size, none_size, no_size}
use Rattle.sm_http.proofs.size_line.see_size.Goals as goal

pub returns-then-len-gt-SIZE_LINE_LIMIT : goal.returns-then-len-gt-SIZE_LINE_LIMIT
returns-then-len-gt-SIZE_LINE_LIMIT c = whole_long c.args.bytes.now c.in-Whole.len c.in-Whole.ensures c.if-len-gt-SIZE_LINE_LIMIT.true

pub returns-then-bytes-eq0 : goal.returns-then-bytes-eq0
returns-then-bytes-eq0 c = none_size c.args.bytes.now c.if-bytes-eq0.true

pub returns-then-len-gt-SIZE_LINE_LIMIT-2 : goal.returns-then-len-gt-SIZE_LINE_LIMIT-2
returns-then-len-gt-SIZE_LINE_LIMIT-2 c = part_long c.args.bytes.now c.in-Part.len c.in-Part.ensures c.if-len-gt-SIZE_LINE_LIMIT-2.true

pub returns-in-Some : goal.returns-in-Some
returns-in-Some c =
    whole_size c.args.bytes.now c.in-Whole.len c.in-Some.size c.in-Whole.ensures
    (omega (arith, c.if-len-gt-SIZE_LINE_LIMIT.false)) c.in-Some.ensures

pub returns-in-None : goal.returns-in-None
returns-in-None c = whole_other c.args.bytes.now c.in-Whole.len c.in-Whole.ensures c.in-None.ensures

pub returns-in-Some-text_size : goal.returns-in-Some-text_size
returns-in-Some-text_size c =
    part_size c.args.bytes.now c.in-Part.len c.in-Some-text_size.field-0 c.in-Part.ensures
    (omega (arith, c.if-len-gt-SIZE_LINE_LIMIT-2.false)) c.in-Some-text_size.ensures

pub returns-in-None-text_size : goal.returns-in-None-text_size
returns-in-None-text_size c =
    part_other c.args.bytes.now c.in-Part.len c.in-Part.ensures (omega (arith, c.if-bytes-eq0.false)) c.in-None-text_size.ensures

pub returns-in-Never : goal.returns-in-Never
returns-in-Never c = no_size c.args.bytes.now c.in-Never.ensures
