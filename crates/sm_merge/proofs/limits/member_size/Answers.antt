use Rattle.std.proofs.Common.{◌≡◌, ap, sym, subst, ◌∙◌}
use Rattle.sm_bytes.specs.Lengths.{length_word}
use Rattle.sm_merge.specs.steps.EffectiveTables.{trait_pairs, traits_of_member}
use Rattle.sm_merge.specs.steps.Made.{pairs_size, valued}
use Rattle.sm_merge.proofs.TraitsHeld.{size_valued}
use Rattle.sm_merge.proofs.limits.member_size.Goals as goal

pub returns : goal.returns
returns c =
    let kind = c.args.kind in
    let name = c.args.member.now.name.now in
    let given = c.traits_of-given.result.now in
    let same : given ≡ traits_of_member name c.args.traits.now.members.items =
    c.traits_of-given.ensures ∙ ap (traits_of_member name) c.as_slice.ensures.value in
    subst (λ ts. c.saturating_add-2.result ≡ length_word (pairs_size (valued kind name (trait_pairs ts)))) same
    (size_valued kind name (trait_pairs given) c.traits_size-size.result c.saturating_add.result c.saturating_add-2.result
    (sym c.if-not-lacks_value.ensures) c.traits_size-size.ensures c.saturating_add.ensures c.saturating_add-2.ensures)
