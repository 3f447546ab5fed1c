use Rattle.std.proofs.Common.{◌≡◌, length, drop, ap, arith}
use Rattle.std.proofs.lemmas.List.{drop_all}
use Rattle.sm_http.specs.steps.Printing.{fields_text}
use Rattle.sm_http.proofs.write.fields_len.Goals as goal

pub returns : goal.returns
returns c =
    let none : length (fields_text (drop c.loop-field.field-index c.args.fields.now)) ≡ 0 =
    ap (λ fs. length (fields_text fs)) (drop_all c.loop-field.field-index c.args.fields.now (omega (arith, c.loop-field-test.false))) in
    omega (arith, none, c.loop-field.invariant.total, c.loop-field.invariant.fits)
