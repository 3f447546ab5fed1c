use Rattle.std.proofs.Common.{[], ◌∷◌, ◌++◌, ap, sym, ◌∙◌}
use Rattle.sm_tree.specs.Node.{text}
use Rattle.sm_tree.proofs.Views.{node_text}
use Rattle.sm_merge.specs.Merged.{enum_value}
use Rattle.sm_merge.specs.steps.EffectiveTables.{trait_pairs}
use Rattle.sm_merge.proofs.TraitsHeld.{one_lacking}
use Rattle.sm_merge.proofs.shape_parts.valued_traits.Goals as goal

pub returns : goal.returns
returns c =
    let value = node_text c.in_ok-copy.field-0 ∙ ap text c.in_ok-copy.ensures.bytes in
    let all = c.in_ok-all.ensures in
    c.in_ok-put_pair.ensures ∙ (λ i. all i ++ (enum_value, value i) ∷ [])
    ∙ one_lacking c.args.kind c.args.name.now (trait_pairs c.args.given.now) (sym c.if-not-lacks_value.ensures)
