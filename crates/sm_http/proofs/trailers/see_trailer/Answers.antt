use Rattle.std.proofs.Common.{arith, subst}
use Rattle.sm_http.specs.declared.line.SeenLine.TheVariants.{Part}
use Rattle.sm_http.specs.steps.Lines.{SeesLine}
use Rattle.sm_http.proofs.TrailersSeen.{no_line, whole_past, part_past, part_empty, part_trailer}
use Rattle.sm_http.proofs.trailers.see_trailer.Goals as goal

pub returns-then-len-used : goal.returns-then-len-used
returns-then-len-used c =
    whole_past c.args.used c.in-Whole.len c.args.bytes.now c.in-Whole.ensures (omega (arith, c.if-len-eq0.false))
    (omega (arith, c.if-len-used.true, c.requires))

pub returns-then-len-eq0-2 : goal.returns-then-len-eq0-2
returns-then-len-eq0-2 c =
    part_empty c.args.used c.args.bytes.now c.requires (subst
    (λ n. SeesLine c.args.bytes.now (Part n)) c.if-len-eq0-2.true c.in-Part.ensures)

pub returns-then-len-used-2 : goal.returns-then-len-used-2
returns-then-len-used-2 c =
    part_past c.args.used c.in-Part.len c.args.bytes.now c.in-Part.ensures (omega (arith, c.if-len-eq0-2.false))
    (omega (arith, c.if-len-used-2.true, c.requires))

pub returns-else-len-used-2 : goal.returns-else-len-used-2
returns-else-len-used-2 c =
    part_trailer c.args.used c.in-Part.len c.args.bytes.now c.in-Part.ensures (omega (arith, c.if-len-eq0-2.false))
    (omega (arith, c.if-len-used-2.false, c.requires))

pub returns-in-Never : goal.returns-in-Never
returns-in-Never c = no_line c.args.used c.args.bytes.now c.in-Never.ensures
