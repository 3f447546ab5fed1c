use Rattle.std.proofs.Common.{[], subst}
use Rattle.sm_select.specs.Selectors.{trait_of}
use Rattle.sm_select.specs.steps.Places.{behind_path, trait_wanted}
use Rattle.sm_select.specs.steps.Reader.{Refuses}
use Rattle.sm_select.proofs.Passing.{passes_joined}
use Rattle.sm_select.proofs.Stopped.{refused_behind}
use Rattle.sm_select.proofs.parser_attribute.trait_path.Goals as goal

pub returns-in-Ok-keys-clause-read : goal.returns-in-Ok-keys-clause-read
returns-in-Ok-keys-clause-read c ss fs =
    let u = c.in-Ok.id in
    passes_joined (trait_wanted ss fs) (behind_path ss fs (trait_of u [])) (behind_path ss fs (trait_of u c.in-Ok-keys.keys))
    c.args.reading.now.rest.now c.trait_id.new.reading.rest.now c.keys.new.reading.rest.now (c.in-Ok.ensures.read ss fs)
    (c.in-Ok-keys.ensures.read ss fs u)

pub returns-in-Err-keys-clause-read : goal.returns-in-Err-keys-clause-read
returns-in-Err-keys-clause-read c ss fs =
    let u = c.in-Ok.id in
    let r = c.trait_id.new.reading.rest.now in
    refused_behind c.args.reading.now.len (trait_wanted ss fs) (behind_path ss fs (trait_of u [])) c.args.reading.now.rest.now r
    c.in-Err-keys.refusal (c.in-Ok.ensures.read ss fs)
    (subst (λ n. Refuses n (behind_path ss fs (trait_of u [])) r c.in-Err-keys.refusal) c.in-Ok.ensures.len
    (c.in-Err-keys.ensures.read ss fs u))
