use Rattle.std.proofs.Common.{◌≡◌, ◌-◌, length, take, drop, refl, sym, ◌∙◌, arith}
use Rattle.sm_lex.proofs.LineParts.{plain_part, escaped_part}
use Rattle.sm_lex.proofs.part.first_part.Goals as goal

pub returns-then-plain-gt0 : goal.returns-then-plain-gt0
returns-then-plain-gt0 c = plain_part c.args.last c.args.bytes.now _ c.run_len-plain.ensures.run c.if-plain-gt0.true

pub returns-in-Some : goal.returns-in-Some
returns-in-Some c =
    let none : c.run_len-plain.result ≡ 0 = omega arith in
    let found = c.in-Some.ensures in
    escaped_part c.args.last c.args.bytes.now (take (length c.args.bytes.now - 1) (drop 1 c.args.bytes.now)) c.in-Some.escape
    c.requires (sym c.run_len-plain.ensures.run ∙ none) refl found.value found.within found.some found.ascii
