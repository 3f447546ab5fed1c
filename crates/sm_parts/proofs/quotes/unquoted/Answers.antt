use Rattle.std.proofs.Common.{arith}
use Rattle.sm_parts.proofs.QuotedLists.{text_closed}
use Rattle.sm_parts.proofs.quotes.unquoted.Goals as goal

pub returns-then-byte-eq34 : goal.returns-then-byte-eq34
returns-then-byte-eq34 c = (
  text_closed c.loop-byte.text.items c.loop-byte.rest.now c.args.inside.now c.in-Some.byte.now c.in-Some.behind.now
      c.loop-byte.invariant.same c.in-Some.ensures.cases.0 c.if-byte-eq34.true,
  omega (arith, c.loop-byte.invariant.within, c.in-Some.ensures.cases.1),
)
