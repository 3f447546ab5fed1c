use Rattle.std.proofs.Common.{List, ℕ, sym, subst, ap, arith, rules, length}
use Rattle.std.proofs.lemmas.Bool.Decides.{nat_tests}
use Rattle.std.specs.Str.Parse.{AllDigits}
use Rattle.sm_time.specs.steps.Parts.{NoDigitFirst}
use Rattle.sm_time.proofs.NumberForms.{no_int, no_fraction}
use Rattle.sm_time.proofs.epoch_seconds.take_apart.Goals as goal

pub returns-then-not-is_int : goal.returns-then-not-is_int
returns-then-not-is_int c =
    let minus = c.split_minus-negative in
    let parts = c.split_at.ensures in
    let D : List ℕ → Type 0 = λ l. AllDigits 10 l in
    let N : List ℕ → Type 0 = λ l. NoDigitFirst l in
    no_int c.args.text.now minus.result.1.now c.split_at.result.0.now c.split_at.result.1.now minus.result.0 minus.ensures.parts
    minus.ensures.only parts.by_index.0
    (subst D (sym parts.front) c.digit_run.ensures.digits) (subst N (sym parts.back) c.digit_run.ensures.longest)
    (λ is. search (rules, c.if-not-is_int.ensures.1 is))

pub returns-then-not-is_empty : goal.returns-then-not-is_empty
returns-then-not-is_empty c =
    let minus = c.split_minus-negative in
    let parts = c.split_at.ensures in
    let D : List ℕ → Type 0 = λ l. AllDigits 10 l in
    let N : List ℕ → Type 0 = λ l. NoDigitFirst l in
    no_fraction c.args.text.now minus.result.1.now c.split_at.result.0.now c.split_at.result.1.now c.split_fraction.result.0.now
    c.split_fraction.result.1.now minus.result.0 minus.ensures.parts minus.ensures.only parts.by_index.0
    (subst D (sym parts.front) c.digit_run.ensures.digits) (subst N (sym parts.back) c.digit_run.ensures.longest) c.split_fraction.ensures
    (λ none. grind (arith, nat_tests, ap length none, c.if-not-is_empty.ensures))
