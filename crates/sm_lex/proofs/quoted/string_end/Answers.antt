use Rattle.std.proofs.Common.{◌+◌, false, sym, subst, arith}
use Rattle.std.proofs.lemmas.Bool.Decides.{nat_tests}
use Rattle.sm_lex.specs.Tokens.{one_quote}
use Rattle.sm_lex.proofs.Ends.{Searched, searched_step, quote_at}
use Rattle.sm_lex.proofs.quoted.string_end.Goals as goal

pub loop-at-preserved : goal.loop-at-preserved
loop-at-preserved c =
    let s = c.args.bytes.now in
    let at = c.loop-at.at in
    let lt = c.loop-at-test.true in
    let misses = quote_at s at false lt (grind (arith, nat_tests, c.if-bytes-at-eq34.false)) in
    subst (λ k. Searched one_quote s (at + k)) (sym c.step-at.ensures) (searched_step one_quote s at lt misses c.loop-at.invariant)
