use Rattle.std.proofs.Common.{◌+◌, false, sym, ◌∙◌, subst}
use Rattle.sm_lex.specs.Tokens.{three_quotes}
use Rattle.sm_lex.proofs.Ends.{Searched, searched_step, quotes_at}
use Rattle.sm_lex.proofs.quoted.block_end.Goals as goal

pub loop-at-preserved : goal.loop-at-preserved
loop-at-preserved c =
    let s = c.args.bytes.now in
    let at = c.loop-at.at in
    let lt = c.loop-at-test.true in
    let misses = quotes_at s at false (sym c.starts_with.ensures.value ∙ c.if-starts_with.false) in
    subst (λ k. Searched three_quotes s (at + k)) (sym c.step-at.ensures) (searched_step three_quotes s at lt misses c.loop-at.invariant)
