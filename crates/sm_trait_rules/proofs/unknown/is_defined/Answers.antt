use Rattle.std.proofs.Common.{◌≡◌, true, false, sym, ap, ◌∙◌}
use Rattle.std.specs.Prelude.{◌&&◌, is_some, not}
use Rattle.sm_model.specs.GraphView.{maps_of}
use Rattle.sm_model.specs.PreludeShapes.{is_prelude_id}
use Rattle.sm_compile.specs.Sound.{trait_of}
use Rattle.sm_compile.specs.TraitIds.{trait_id}
use Rattle.sm_compile.proofs.LookedUp.{stands_is}
use Rattle.sm_trait_rules.proofs.unknown.is_defined.Goals as goal

pub is_trait-requires : goal.is_trait-requires
is_trait-requires c = (stands_is c.args.graph.now 0 c.in-Some.number c.args.name.now c.in-Some.ensures).0

pub returns-then-is_trait : goal.returns-then-is_trait
returns-then-is_trait c =
    let g = c.args.graph.now in
    let same = (stands_is g 0 c.in-Some.number c.args.name.now c.in-Some.ensures).1 in
    let there : is_some (trait_of (maps_of g) c.args.name.now trait_id) ≡ true =
    sym (c.is_trait.ensures ∙ ap (λ x. is_some (trait_of (maps_of g) x trait_id)) same) ∙ c.if-is_trait.true in
    ap not c.is_in_prelude.ensures ∙ sym (ap (λ b. b && not (is_prelude_id c.args.name.now)) there)

pub returns-else-is_trait : goal.returns-else-is_trait
returns-else-is_trait c =
    let g = c.args.graph.now in
    let same = (stands_is g 0 c.in-Some.number c.args.name.now c.in-Some.ensures).1 in
    let there : is_some (trait_of (maps_of g) c.args.name.now trait_id) ≡ false =
    sym (c.is_trait.ensures ∙ ap (λ x. is_some (trait_of (maps_of g) x trait_id)) same) ∙ c.if-is_trait.false in
    c.if-is_trait.false ∙ sym (ap (λ b. b && not (is_prelude_id c.args.name.now)) there)
