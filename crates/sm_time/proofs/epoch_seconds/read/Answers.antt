use Rattle.std.proofs.Common.{◌≡◌, min, refl, sym, ap, subst, ◌∙◌, ℤ, FitsSigned, w64, to_z, of_z, to_z-of_z, rules}
use Rattle.std.specs.Str.Parse.{digits_value}
use Rattle.sm_time.specs.TimeText.{IsStamp}
use Rattle.sm_time.proofs.Moments.{number_read, number_far, capped}
use Rattle.sm_time.proofs.epoch_seconds.read.Goals as goal

pub returns-in-Some-new : goal.returns-in-Some-new
returns-in-Some-new c =
    let fits : FitsSigned w64 c.signed.result = search rules in
    let millis = c.in-Some-whole_millis.ensures in
    let cap : c.min-seconds.result ≡ capped (digits_value 10 c.in-Some.shown.int.now) = c.min-seconds.ensures
    ∙ ap (λ n. min n 1_000_000_000_000) c.seconds_of.ensures in
    let same = c.in-Some-new.ensures.value in
    let P : ℤ → Type 0 = λ z. IsStamp z in
    number_read c.args.text.now c.in-Some.shown.negative c.in-Some.shown.int.now c.in-Some.shown.digits.now c.min-seconds.result
    c.in-Some-whole_millis.millis c.in-Some-new.stamp c.in-Some.ensures millis.0 millis.1 cap
    (same ∙ to_z-of_z fits ∙ c.signed.ensures) (subst P (sym same) (c.in-Some-new.ensures.in_range.0 refl))

pub returns-in-None : goal.returns-in-None
returns-in-None c =
    let fits : FitsSigned w64 c.signed.result = search rules in
    let millis = c.in-Some-whole_millis.ensures in
    let cap : c.min-seconds.result ≡ capped (digits_value 10 c.in-Some.shown.int.now) = c.min-seconds.ensures
    ∙ ap (λ n. min n 1_000_000_000_000) c.seconds_of.ensures in
    let back : to_z w64 (of_z w64 c.signed.result) ≡ c.signed.result = to_z-of_z fits in
    let range = c.in-None.ensures.in_range in
    number_far c.args.text.now c.in-Some.shown.negative c.in-Some.shown.int.now c.in-Some.shown.digits.now c.min-seconds.result
    c.in-Some-whole_millis.millis (to_z w64 (of_z w64 c.signed.result)) c.in-Some.ensures millis.0 millis.1 cap
    (back ∙ c.signed.ensures) (λ there. search (rules, range.1 there))
