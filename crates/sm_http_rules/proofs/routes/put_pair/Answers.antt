use Rattle.std.proofs.Common.{arith}
use Rattle.sm_http_rules.proofs.PairsTold.{told_less, told_more, told_neither}
use Rattle.sm_http_rules.proofs.routes.put_pair.Goals as goal

pub returns-then-one-other : goal.returns-then-one-other
returns-then-one-other c =
    told_less c.args.graph.now c.args.one c.args.other c.if-one-other.true c.args.events.now.items c.put_told.new.events.items
    c.in_ok-put_told.ensures

pub returns-in_ok-put_told-2 : goal.returns-in_ok-put_told-2
returns-in_ok-put_told-2 c =
    told_more c.args.graph.now c.args.one c.args.other c.if-other-one.true c.args.events.now.items
    c.put_told-then-other-one.new.events.items c.in_ok-put_told-2.ensures

pub returns-else-other-one : goal.returns-else-other-one
returns-else-other-one c =
    let first = c.if-one-other.false in
    let second = c.if-other-one.false in
    told_neither c.args.graph.now c.args.one c.args.other (λ less. omega (arith, less, first)) (λ less. omega (arith, less, second))
    c.args.events.now.items
