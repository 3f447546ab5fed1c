use Rattle.std.proofs.Common.{[], ◌∷◌, ◌++◌}
use Rattle.sm_select.specs.Selectors.{trait_of}
use Rattle.sm_select.specs.steps.Places.{behind_path, key_wanted}
use Rattle.sm_select.specs.steps.Taking.{IsKeyToken}
use Rattle.sm_select.proofs.Boundaries.{dark_now}
use Rattle.sm_select.proofs.ReadTexts.{key_leads}
use Rattle.sm_select.proofs.TakenTokens.{copy_read, none_refused, taken_within}
use Rattle.sm_select.proofs.parser_values.key.Goals as goal

pub copied-requires : goal.copied-requires
copied-requires c = taken_within IsKeyToken c.in-Some.taken.text.now c.args.reading.now.rest.now c.in-Some.taken.behind.now
    c.in-Some.ensures

pub returns-in-Some-clause-read : goal.returns-in-Some-clause-read
returns-in-Some-clause-read c ss fs u ks =
    let r = c.copied.new.reading.rest.now in
    copy_read IsKeyToken (key_wanted ss fs u ks) (λ k. behind_path ss fs (trait_of u (ks ++ k ∷ []))) (key_leads ss fs u ks)
    c.args.reading.now.len c.in-Some.taken.text.now c.args.reading.now.rest.now c.in-Some.taken.behind.now r c.copied.result
    c.in-Some.ensures
    c.copied.ensures.copy (dark_now r c.copied.new.reading.dark)

pub returns-in-None-clause-read : goal.returns-in-None-clause-read
returns-in-None-clause-read c ss fs u ks =
    let s = c.args.reading.now.rest.now in
    none_refused IsKeyToken (key_wanted ss fs u ks) (λ k. behind_path ss fs (trait_of u (ks ++ k ∷ []))) (key_leads ss fs u ks)
    c.args.reading.now.len s c.refused.result c.in-None.ensures (dark_now s c.args.reading.now.dark) c.refused.ensures
