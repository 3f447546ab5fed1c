use Rattle.std.proofs.Common.{◌≡◌, subst, sym}
use Rattle.std.specs.Prelude.{IsOk, IfOk, Ok, string_bytes}
use Rattle.sm_lex.specs.Values.{string_value}
use Rattle.sm_lex.specs.steps.LexSteps.{lines_left}
use Rattle.sm_lex.proofs.Insides.{string_read}
use Rattle.sm_lex.proofs.value.string_value.Goals as goal

pub lines_value-requires : goal.lines_value-requires
lines_value-requires c =
    let token = c.args.token.now in
    subst (λ v. IsOk v) (sym (string_read token.start token.text.now c.string_inside-inside.result.now (lines_left c.new.result)
    c.new.ensures c.string_inside-inside.ensures)) (token.string c.requires).value

pub returns : goal.returns
returns c =
    let token = c.args.token.now in
    subst (λ v. IfOk c.lines_value.result (λ text. v ≡ Ok (string_bytes text)))
    (string_read token.start token.text.now c.string_inside-inside.result.now (lines_left c.new.result) c.new.ensures
    c.string_inside-inside.ensures) c.lines_value.ensures
