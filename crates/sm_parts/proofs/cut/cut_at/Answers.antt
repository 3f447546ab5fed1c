use Rattle.std.proofs.Common.{arith}
use Rattle.sm_parts.proofs.MarkCuts.{piece_cut, whole_cut}
use Rattle.sm_parts.proofs.cut.cut_at.Goals as goal

pub returns-then-len-bytes : goal.returns-then-len-bytes
returns-then-len-bytes c =
    whole_cut c.args.mark c.args.bytes.now c.mark_place-len.result c.mark_place-len.ensures.place c.if-len-bytes.true

pub returns : goal.returns
returns c =
    piece_cut c.args.mark c.args.bytes.now c.mark_place-len.result c.mark_place-len.ensures.place
    (omega (arith, c.mark_place-len.ensures.within, c.if-len-bytes.false))
