use Rattle.std.proofs.Common.{ap, rules, sym}
use Rattle.std.specs.Prelude.{is_some}
use Rattle.std.proofs.lemmas.Fn.{always_returns_same}
use Rattle.sm_tree.specs.View.{node_of}
use Rattle.sm_model.specs.Graphs.{text_cmp}
use Rattle.sm_model.proofs.Rises.{sorted_from_rise}
use Rattle.sm_model.proofs.Searching.{found_at, found_nowhere, rises}
use Rattle.sm_merge.specs.steps.EffectiveTables.{trait_pairs}
use Rattle.sm_merge.proofs.TraitsHeld.{found_some}
use Rattle.sm_merge.proofs.shape_parts.has_trait.Goals as goal

pub returns-in-Ok : goal.returns-in-Ok
returns-in-Ok c =
    let q = c.args.name.now in
    let sorted = sorted_from_rise (trait_pairs c.args.traits.now) c.requires in
    let held = c.in-Ok.ensures.position (λ t. text_cmp t.name.now q) (always_returns_same _ _ _ (λ a r g called. search rules)) in
    found_some _ _ q (found_at (λ t. (t.name.now, node_of t.folded.now.value)) c.args.traits.now sorted q
    c.in-Ok.field-0 c.in-Ok.ensures.bound
    held)

pub returns-in-Err : goal.returns-in-Err
returns-in-Err c =
    let q = c.args.name.now in
    let sorted = sorted_from_rise (trait_pairs c.args.traits.now) c.requires in
    let parted = c.in-Err.ensures.position (λ t. text_cmp t.name.now q) (always_returns_same _ _ _ (λ a r g called. search rules)) in
    sym (ap is_some (found_nowhere (λ t. (t.name.now, node_of t.folded.now.value)) c.args.traits.now q c.in-Err.field-0
    (parted (rises (λ t. (t.name.now, node_of t.folded.now.value)) c.args.traits.now sorted q))))
