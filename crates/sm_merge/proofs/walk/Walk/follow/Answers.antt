use Rattle.std.proofs.Common.{◌≡◌, ◌<◌, length, Some, refl, ap, ◌∙◌, arith}
use Rattle.std.proofs.lemmas.Option.{slice_get_read}
use Rattle.sm_merge.specs.steps.Links.{links_view}
use Rattle.sm_merge.proofs.WalkSteps.{target_finished}
use Rattle.sm_merge.proofs.walk.Walk.follow.Goals as goal

pub returns-in-Finished : goal.returns-in-Finished
returns-in-Finished c =
    let taken = c.requires.taken in
    let size : length c.args.self.now.status.items ≡ length (links_view c.args.links.now) = taken.walking.grounded.size in
    let within : c.args.target < length (links_view c.args.links.now) = taken.within in
    let small : c.args.target < length c.args.self.now.status.items = omega (arith, size, within) in
    target_finished (links_view c.args.links.now) c.args.self.now c.args.target c.in-Finished.field-0 taken.walking
    (slice_get_read c.args.self.now.status.items (length c.args.self.now.status.items) c.args.target c.index.result.now refl small
    c.index.ensures ∙ ap (λ s. Some s) c.in-Finished.is)
