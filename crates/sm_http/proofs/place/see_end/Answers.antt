use Rattle.std.proofs.Common.{arith}
use Rattle.sm_http.proofs.PlacesSeen.{end_none, end_return, end_whole}
use Rattle.sm_http.proofs.place.see_end.Goals as goal

pub returns-then-bytes-eq0 : goal.returns-then-bytes-eq0
returns-then-bytes-eq0 c = end_none c.args.total c.args.bytes.now c.if-bytes-eq0.true

pub returns-then-bytes-eq1 : goal.returns-then-bytes-eq1
returns-then-bytes-eq1 c = end_return c.args.total c.args.bytes.now c.if-bytes-eq1.true c.if-bytes-ne13.false

pub returns : goal.returns
returns c =
    end_whole c.args.total c.args.bytes.now c.requires (omega (arith, c.if-bytes-eq0.false, c.if-bytes-eq1.false)) c.if-bytes-ne13.false
    c.if-bytes-ne10.false
