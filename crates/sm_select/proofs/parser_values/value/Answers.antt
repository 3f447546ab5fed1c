use Rattle.std.proofs.Common.{[], ◌∷◌, ◌++◌}
use Rattle.sm_select.specs.steps.Places.{behind_value, value_wanted}
use Rattle.sm_select.specs.steps.Taking.{IsValueToken}
use Rattle.sm_select.proofs.Boundaries.{dark_now}
use Rattle.sm_select.proofs.ReadTexts.{value_leads}
use Rattle.sm_select.proofs.TakenTokens.{copy_read, none_refused, taken_within}
use Rattle.sm_select.proofs.parser_values.value.Goals as goal

pub copied-requires : goal.copied-requires
copied-requires c = taken_within IsValueToken c.in-Some.taken.text.now c.args.reading.now.rest.now c.in-Some.taken.behind.now
    c.in-Some.ensures

pub returns-in-Some-clause-read : goal.returns-in-Some-clause-read
returns-in-Some-clause-read c ss fs path op vs =
    let r = c.copied.new.reading.rest.now in
    copy_read IsValueToken (value_wanted ss fs path op vs) (λ v. behind_value ss fs path op (vs ++ v ∷ [])) (value_leads ss fs path op vs)
    c.args.reading.now.len c.in-Some.taken.text.now c.args.reading.now.rest.now c.in-Some.taken.behind.now r c.copied.result
    c.in-Some.ensures
    c.copied.ensures.copy (dark_now r c.copied.new.reading.dark)

pub returns-in-None-clause-read : goal.returns-in-None-clause-read
returns-in-None-clause-read c ss fs path op vs =
    let s = c.args.reading.now.rest.now in
    none_refused IsValueToken (value_wanted ss fs path op vs) (λ v. behind_value ss fs path op (vs ++ v ∷ []))
    (value_leads ss fs path op vs)
    c.args.reading.now.len s c.refused.result c.in-None.ensures (dark_now s c.args.reading.now.dark) c.refused.ensures
