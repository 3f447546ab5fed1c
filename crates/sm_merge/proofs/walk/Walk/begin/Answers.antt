use Rattle.std.proofs.Common.{◌≡◌, ◌<◌, ◌++◌, false, [], ◌∷◌, length, set, refl, ap, ◌∙◌, arith}
use Rattle.sm_merge.specs.declared.walk.Status.TheVariants.{New, Begun}
use Rattle.sm_merge.specs.steps.Links.{links_view}
use Rattle.sm_merge.proofs.Ats.{at_within}
use Rattle.sm_merge.proofs.WalkSteps.{begun_met, links_at, links_count, target_begun}
use Rattle.sm_merge.proofs.walk.Walk.begin.Goals as goal

pub returns-clause-gone : goal.returns-clause-gone
returns-clause-gone c =
    let place : c.len-3.result ≡ length c.args.self.now.row.items = c.len-3.ensures ∙ c.args.self.now.row.ok.0 in
    let first : c.len.result ≡ length c.args.self.now.row.items = c.len.ensures ∙ c.args.self.now.row.ok.0 in
    let last : c.len-2.result ≡ length c.args.self.now.targets.items = c.len-2.ensures ∙ c.args.self.now.targets.ok.0 in
    let size : length c.args.self.now.status.items ≡ length (links_view c.args.links.now) = c.requires.walking.grounded.size in
    let small : c.args.number < length c.args.self.now.status.items =
    at_within c.args.self.now.status.items c.args.number New c.requires.new in
    target_begun (links_view c.args.links.now) c.args.self.now _ c.args.number c.requires.links c.requires.new c.requires.walking
    c.requires.reached (ap (λ i. set c.args.self.now.status.items c.args.number (Begun i)) place) c.in_ok-push-2.ensures.items
    (c.in_ok-extend_from_slice.ensures.items
    ∙ ap (λ ts. c.args.self.now.targets.items ++ ts)
    (c.as_slice.ensures.value
    ∙ links_at c.args.links.now c.args.number c.index-links-number.result (omega (arith, small, size, links_count c.args.links.now))
    c.index-links-number.is)) refl
    (c.in_ok-push.ensures.items
    ∙ ap (λ i. c.args.self.now.path.items ++ (record { numbers = i; targets = c.len-2.result; ring = false }) ∷ []) first
    ∙ ap (λ i. c.args.self.now.path.items ++ (record { numbers = length c.args.self.now.row.items; targets = i; ring = false }) ∷ []) last)

pub returns-clause-met : goal.returns-clause-met
returns-clause-met c =
    begun_met c.args.self.now.status.items c.args.number c.len-3.result
    (at_within c.args.self.now.status.items c.args.number New c.requires.new)
