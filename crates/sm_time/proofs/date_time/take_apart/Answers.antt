use Rattle.std.proofs.Common.{◌≡◌, arith, FitsSigned, w64, to_z, of_z, to_z-of_z}
use Rattle.std.proofs.lemmas.Int.{ints}
use Rattle.sm_time.proofs.ClockForms.{no_clock, shows_clock}
use Rattle.sm_time.proofs.date_time.take_apart.Goals as goal

pub returns-in_err-seconds-clause-form : goal.returns-in_err-seconds-clause-form
returns-in_err-seconds-clause-form c =
    rw c.from_residual-in_err-seconds.ensures
    (no_clock c.args.text.now c.in_ok-clock.clock.now c.in_ok-clock.ensures.cases.0 c.in_err-seconds.ensures.value)

pub returns-clause-form : goal.returns-clause-form
returns-clause-form c =
    let chunk = c.in_ok-clock.ensures.cases in
    let fits : FitsSigned w64 c.in_ok-offset.offset = omega (arith, ints, c.in_ok-offset.ensures.bounds) in
    let back : to_z w64 (of_z w64 c.in_ok-offset.offset) ≡ c.in_ok-offset.offset = to_z-of_z fits in
    rw back
    (shows_clock c.args.text.now c.in_ok-clock.clock.now c.in_ok-clock.rest.now c.split_fraction.result.0.now c.split_fraction.result.1.now
    c.in_ok-seconds.seconds _ chunk.0 chunk.1 c.in_ok-seconds.ensures.value c.split_fraction.ensures c.in_ok-offset.ensures.value)
