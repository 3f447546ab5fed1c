use Rattle.std.proofs.Common.{take, sym, subst}
use Rattle.sm_select.specs.steps.Taking.{IsLongestNumber, IsNumeralToken, TakenAs}
use Rattle.sm_select.proofs.TakenQuotes.{no_number, number_boundary, number_taken}
use Rattle.sm_select.proofs.parser_taken.number_at.Goals as goal

pub returns-then-len-eq0 : goal.returns-then-len-eq0
returns-then-len-eq0 c =
    let s = c.args.rest.now in
    let n = c.number_len-len.result in
    no_number s n (subst (λ t. IsLongestNumber t n) c.as_bytes.ensures.value c.number_len-len.ensures) c.if-len-eq0.true

pub split_at-requires : goal.split_at-requires
split_at-requires c =
    let s = c.args.rest.now in
    let n = c.number_len-len.result in
    number_boundary s n (subst (λ t. IsLongestNumber t n) c.as_bytes.ensures.value c.number_len-len.ensures) c.if-len-eq0.false c.utf8.rest

pub returns : goal.returns
returns c =
    let s = c.args.rest.now in
    let n = c.number_len-len.result in
    subst (λ t. TakenAs IsNumeralToken t s c.split_at.result.1.now) (sym c.split_at.ensures.front)
    (subst (λ b. TakenAs IsNumeralToken (take n s) s b) (sym c.split_at.ensures.back)
    (number_taken s n (subst (λ t. IsLongestNumber t n) c.as_bytes.ensures.value c.number_len-len.ensures) c.if-len-eq0.false))
