use Rattle.std.proofs.Common.{[]}
use Rattle.sm_select.specs.Selectors.{trait_of}
use Rattle.sm_select.specs.steps.Places.{behind_path, trait_wanted}
use Rattle.sm_select.specs.steps.Taking.{IsIdToken, IsIdentifierToken, IsTraitToken}
use Rattle.sm_model.specs.PreludeShapes.{api_id}
use Rattle.sm_select.proofs.Boundaries.{dark_now}
use Rattle.sm_select.proofs.ReadTexts.{trait_leads}
use Rattle.sm_select.proofs.TakenTokens.{copy_read, none_refused, taken_within}
use Rattle.sm_select.proofs.TakenWords.{no_trait, trait_absolute, trait_prelude}
use Rattle.sm_select.proofs.parser_values.trait_id.Goals as goal

pub copied-requires : goal.copied-requires
copied-requires c = taken_within IsIdToken c.in-Some.taken.text.now c.args.reading.now.rest.now c.in-Some.taken.behind.now c.in-Some.ensures

pub returns-in-Some-clause-read : goal.returns-in-Some-clause-read
returns-in-Some-clause-read c ss fs =
    let v = c.in-Some.taken.text.now in
    let b = c.in-Some.taken.behind.now in
    let s = c.args.reading.now.rest.now in
    let r = c.copied.new.reading.rest.now in
    copy_read IsTraitToken (trait_wanted ss fs) (λ u. behind_path ss fs (trait_of u [])) (trait_leads ss fs) c.args.reading.now.len v s b r
    c.copied.result (trait_absolute v s b c.in-Some.ensures) c.copied.ensures.copy (dark_now r c.copied.new.reading.dark)

pub in_prelude-requires : goal.in_prelude-requires
in_prelude-requires c =
    taken_within IsIdentifierToken c.in-Some-identifier_at.taken.text.now c.args.reading.now.rest.now
    c.in-Some-identifier_at.taken.behind.now
    c.in-Some-identifier_at.ensures

pub returns-in-Some-identifier_at-clause-read : goal.returns-in-Some-identifier_at-clause-read
returns-in-Some-identifier_at-clause-read c ss fs =
    let v = c.in-Some-identifier_at.taken.text.now in
    let b = c.in-Some-identifier_at.taken.behind.now in
    let s = c.args.reading.now.rest.now in
    let r = c.in_prelude.new.reading.rest.now in
    copy_read IsTraitToken (trait_wanted ss fs) (λ u. behind_path ss fs (trait_of u [])) (trait_leads ss fs) c.args.reading.now.len
    (api_id v) s b r
    c.in_prelude.result (trait_prelude v s b c.in-None.ensures c.in-Some-identifier_at.ensures) c.in_prelude.ensures.copy
    (dark_now r c.in_prelude.new.reading.dark)

pub returns-in-None-identifier_at-clause-read : goal.returns-in-None-identifier_at-clause-read
returns-in-None-identifier_at-clause-read c ss fs =
    let s = c.args.reading.now.rest.now in
    none_refused IsTraitToken (trait_wanted ss fs) (λ u. behind_path ss fs (trait_of u [])) (trait_leads ss fs) c.args.reading.now.len s
    c.refused.result (no_trait s c.in-None.ensures c.in-None-identifier_at.ensures) (dark_now s c.args.reading.now.dark) c.refused.ensures
