use Rattle.std.proofs.Common.{◌≡◌, List, ℕ, Option, ap, ◌∙◌}
use Rattle.std.specs.Option.{unwrap_or}
use Rattle.sm_model.specs.Reaching.{id_of_number}
use Rattle.sm_model.proofs.NumberedIds.{entry_here}
use Rattle.sm_compile.specs.TraitNodes.{text_of}
use Rattle.sm_name_rules.specs.steps.Naming.{tree_in}
use Rattle.sm_name_rules.proofs.GivenNames.{name_by}
use Rattle.sm_name_rules.proofs.named.name_of.Goals as goal

pub returns-in-Some : goal.returns-in-Some
returns-in-Some c =
    let g = c.args.graph.now in
    let own = c.own_name-own in
    name_by own.ensures.0 (id_of_number g c.args.number) c.id.result.now own.result.now c.in-Some.name.now
    (text_of (tree_in c.args.given.now (id_of_number g c.args.number)))
    (entry_here g c.args.number (λ id e. c.id.result.now ≡ id) c.id.ensures).2 own.ensures.1 own.ensures.2
    (ap (λ (o : Option (List ℕ)). unwrap_or o own.result.now)
    (c.in-Some.ensures ∙ ap (λ t. text_of (tree_in c.args.given.now t)) c.id_text.ensures))

pub returns-in-None : goal.returns-in-None
returns-in-None c =
    let g = c.args.graph.now in
    let own = c.own_name-own in
    name_by own.ensures.0 (id_of_number g c.args.number) c.id.result.now own.result.now own.result.now
    (text_of (tree_in c.args.given.now (id_of_number g c.args.number)))
    (entry_here g c.args.number (λ id e. c.id.result.now ≡ id) c.id.ensures).2 own.ensures.1 own.ensures.2
    (ap (λ (o : Option (List ℕ)). unwrap_or o own.result.now)
    (c.in-None.ensures ∙ ap (λ t. text_of (tree_in c.args.given.now t)) c.id_text.ensures))
