use Rattle.std.proofs.Common.{◌≡◌, ◌+◌, [], ◌∷◌, ◌++◌, ap, drop, subst, sym, ◌∙◌, bytes_eq}
use Rattle.std.specs.Prelude.{◌||◌}
use Rattle.std.proofs.lemmas.List.{drop_more}
use Rattle.sm_merge.specs.steps.Firsts.{firsts, targets_view, unseen}
use Rattle.sm_merge.specs.steps.Known.{has_text}
use Rattle.sm_merge.proofs.FirstNames.{firsts_step}
use Rattle.sm_merge.proofs.members.put_own.Goals as goal

pub loop-name-preserved : goal.loop-name-preserved
loop-name-preserved c =
    let own = c.args.own.now in
    let i = c.loop-name.name-index in
    let one = c.loop-name-item.result in
    let left = drop (i + 1) own in
    let parts : drop i own ≡ one ∷ drop (i + 1) own =
    drop_more own i one c.loop-name-test.true ∙ ap (λ y. y ∷ drop (i + 1) own) (sym c.loop-name-item.is) in
    firsts_step (targets_view c.loop-name.members.items) (targets_view c.put_first.new.all.items)
    (targets_view c.args.members.now.items ++ unseen (has_text c.args.seen.now) (firsts own)) (has_text c.loop-name.seen)
    (has_text c.put_first.new.seen) one left
    (subst (λ n. targets_view c.put_first.new.all.items
    ≡ targets_view c.loop-name.members.items ++ unseen (has_text c.loop-name.seen) ((n, one.1) ∷ [])) c.as_str.ensures.bytes
    c.in_ok-put_first.ensures.all)
    (λ id. c.in_ok-put_first.ensures.seen id ∙ ap (λ n. has_text c.loop-name.seen id || bytes_eq n id) c.as_str.ensures.bytes)
    (subst (λ ps. targets_view c.loop-name.members.items ++ unseen (has_text c.loop-name.seen) (firsts ps)
    ≡ targets_view c.args.members.now.items ++ unseen (has_text c.args.seen.now) (firsts own)) parts c.loop-name.invariant)
