use Rattle.std.proofs.Common.{◌≡◌, refl, sym, subst, ◌∙◌, arith, ℤ, pos, ◌*◌, to_z, of_z, w64, ◌*ℤ◌}
use Rattle.std.proofs.lemmas.Int.{ints}
use Rattle.std.proofs.lemmas.Slice.Eq.{bytes_eq-Decides}
use Rattle.sm_time.specs.TimeText.{IsStamp}
use Rattle.httpdate.specs.Date.{unix_secs}
use Rattle.sm_time.proofs.HttpForms.{no_date, other_form, date_read}
use Rattle.sm_time.proofs.http_date.read.Goals as goal

pub returns-in_default : goal.returns-in_default
returns-in_default c = no_date c.args.text.now c.in_default.ensures.shown

pub returns-then-ne : goal.returns-then-ne
returns-then-ne c =
    let test = bytes_eq-Decides c.as_slice.result.now c.args.text.now in
    other_form c.args.text.now c.in-Ok.date c.in-Ok.ensures.shown
    (λ e. let same = test.1 (c.as_slice.ensures ∙ c.to_bytes.ensures ∙ sym e) in grind (arith, same, c.ne.ensures, c.if-ne.true))

pub returns-in-Some : goal.returns-in-Some
returns-in-Some c =
    let test = bytes_eq-Decides c.as_slice.result.now c.args.text.now in
    let same : c.as_slice.result.now ≡ c.args.text.now = test.0 (grind (arith, c.ne.ensures, c.if-ne.false)) in
    let value = c.in-Some.ensures.value in
    let P : ℤ → Type 0 = λ z. IsStamp z in
    let ms : to_z w64 (of_z w64 (to_z w64 c.unix_secs.result *ℤ pos 1000)) ≡ pos (unix_secs c.in-Ok.date * 1000) =
    omega (arith, ints, c.unix_secs.ensures.value, c.unix_secs.ensures.bound) in
    date_read c.args.text.now c.in-Ok.date c.in-Some.stamp (sym same ∙ c.as_slice.ensures ∙ c.to_bytes.ensures) (value ∙ ms)
    (subst P (sym value) (c.in-Some.ensures.in_range.0 refl))
