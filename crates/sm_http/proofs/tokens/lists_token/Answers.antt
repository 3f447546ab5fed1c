use Rattle.std.proofs.Common.{length, sym, ◌∙◌, arith}
use Rattle.sm_http.proofs.ListTokens.{found, none_found, passed, passed_within}
use Rattle.sm_http.proofs.tokens.lists_token.Goals as goal

pub returns-then-is_element : goal.returns-then-is_element
returns-then-is_element c =
    found c.args.token.now c.loop-rest.rest.now c.args.value.now c.run_len-len.result c.run_len-len.ensures.run c.loop-rest.invariant.listed
    c.run_len-len.ensures.within (sym c.is_element.ensures ∙ c.if-is_element.true)

pub returns-then-len-rest : goal.returns-then-len-rest
returns-then-len-rest c =
    none_found c.args.token.now c.loop-rest.rest.now c.args.value.now c.run_len-len.result c.run_len-len.ensures.run
    c.loop-rest.invariant.listed c.if-len-rest.true (sym c.is_element.ensures ∙ c.if-is_element.false)

pub loop-rest-preserved : goal.loop-rest-preserved
loop-rest-preserved c = record {
  listed = passed c.args.token.now c.loop-rest.rest.now c.args.value.now c.run_len-len.result c.run_len-len.ensures.run
      c.loop-rest.invariant.listed (omega (arith, c.run_len-len.ensures.within, c.if-len-rest.false))
      (sym c.is_element.ensures ∙ c.if-is_element.false);
  within = passed_within c.loop-rest.rest.now c.run_len-len.result (length c.args.value.now) c.loop-rest.invariant.within;
}
