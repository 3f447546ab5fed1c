use Rattle.std.proofs.Common.{◌≡◌, refl, sym, ap, subst, ◌∙◌, arith, ℤ, pos, ◌+ℤ◌, ◌-ℤ◌, FitsSigned, w64, to_z, of_z, to_z-of_z, rules}
use Rattle.std.proofs.lemmas.Int.{ints}
use Rattle.sm_time.specs.TimeText.{IsStamp, from_1970}
use Rattle.sm_time.proofs.Moments.{clock_read, clock_far}
use Rattle.sm_time.proofs.date_time.read.Goals as goal

pub returns-in-Some-new : goal.returns-in-Some-new
returns-in-Some-new c =
    let fits : FitsSigned w64 c.moment_of.result = search rules in
    let small : FitsSigned w64 c.in-Some.shown.offset = omega (arith, ints, c.in-Some.ensures.offset) in
    let moment_is : c.moment_of.result ≡ from_1970 c.in-Some.shown.seconds +ℤ pos c.in-Some-whole_millis.millis -ℤ c.in-Some.shown.offset =
    c.moment_of.ensures ∙ ap (λ o. from_1970 c.in-Some.shown.seconds +ℤ pos c.in-Some-whole_millis.millis -ℤ o) (to_z-of_z small) in
    let millis = c.in-Some-whole_millis.ensures in
    let range = c.in-Some-new.ensures.in_range in
    let same = c.in-Some-new.ensures.value in
    let P : ℤ → Type 0 = λ z. IsStamp z in
    clock_read c.args.text.now c.in-Some.shown.seconds c.in-Some.shown.digits.now c.in-Some-whole_millis.millis _ c.in-Some-new.stamp
    c.in-Some.ensures.form millis.0 millis.1
    (same ∙ to_z-of_z fits ∙ moment_is) (subst P (sym same) (range.0 refl))

pub returns-in-None : goal.returns-in-None
returns-in-None c =
    let fits : FitsSigned w64 c.moment_of.result = search rules in
    let small : FitsSigned w64 c.in-Some.shown.offset = omega (arith, ints, c.in-Some.ensures.offset) in
    let moment_is : c.moment_of.result ≡ from_1970 c.in-Some.shown.seconds +ℤ pos c.in-Some-whole_millis.millis -ℤ c.in-Some.shown.offset =
    c.moment_of.ensures ∙ ap (λ o. from_1970 c.in-Some.shown.seconds +ℤ pos c.in-Some-whole_millis.millis -ℤ o) (to_z-of_z small) in
    let millis = c.in-Some-whole_millis.ensures in
    let back : to_z w64 (of_z w64 c.moment_of.result) ≡ c.moment_of.result = to_z-of_z fits in
    let range = c.in-None.ensures.in_range in
    clock_far c.args.text.now c.in-Some.shown.seconds c.in-Some.shown.digits.now c.in-Some-whole_millis.millis _
    (to_z w64 (of_z w64 c.moment_of.result)) c.in-Some.ensures.form millis.0 millis.1
    (back ∙ moment_is) (λ there. search (rules, range.1 there))
