use Rattle.std.proofs.Common.{refl, rules}
use Rattle.std.proofs.lemmas.Fn.{always_returns_same}
use Rattle.sm_http_rules.specs.steps.Shortest.{place_of}
use Rattle.sm_http_rules.proofs.ShortestKept.{found_none, found_one, places}
use Rattle.sm_http_rules.proofs.shortest.begins_with_one.Goals as goal

pub returns-in-Ok : goal.returns-in-Ok
returns-in-Ok c =
    let t = c.args.text.now in
    let held = c.in-Ok.ensures.position (λ p. place_of p t) (always_returns_same _ _ _ (λ a r g called. search rules)) in
    (λ h. found_one t c.args.prefixes.now c.in-Ok.field-0 c.in-Ok.ensures.bound held, λ h. refl)

pub returns-in-Err : goal.returns-in-Err
returns-in-Err c =
    let t = c.args.text.now in
    let parted = c.in-Err.ensures.position (λ p. place_of p t) (always_returns_same _ _ _ (λ a r g called. search rules)) in
    (λ h. absurd cc, λ h. absurd (found_none t c.args.prefixes.now c.in-Err.field-0 (parted (places t c.args.prefixes.now c.requires)) h))
