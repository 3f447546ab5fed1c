use Rattle.std.proofs.Common.{◌≡◌, sym, subst, ◌∙◌, ap, get_or, arith}
use Rattle.std.proofs.lemmas.Slice.Eq.{bytes_eq-Decides}
use Rattle.sm_time.specs.Civil.{IsCivil, clock_text}
use Rattle.sm_time.specs.declared.civil.Civil.{Civil}
use Rattle.sm_time.proofs.civil.clock_seconds.Goals as goal

pub returns-in_default-clause-value : goal.returns-in_default-clause-value
returns-in_default-clause-value c = λ letter k is civil e.
    let same = c.supposed-civil.ensures letter k civil e in
    let P : Civil → Type 0 = λ x. IsCivil x in
    c.in_default.ensures.value (subst P (sym same) civil)

pub returns-else-eq-clause-value : goal.returns-else-eq-clause-value
returns-else-eq-clause-value c = λ letter k is civil e.
    let same = c.supposed-civil.ensures letter k civil e in
    let tenth : get_or c.args.text.now 10 0 ≡ letter = ap (λ l. get_or l 10 0) e in
    let written_stamp : c.text.result ≡ c.args.text.now = c.text.ensures ∙ ap (λ l. clock_text l c.supposed-civil.result) tenth
    ∙ ap (λ x. clock_text letter x) same ∙ sym e in
    let test = (bytes_eq-Decides c.text.result c.args.text.now).1 written_stamp in
    grind (arith, test, c.eq.ensures, c.if-eq.false)
