use Rattle.std.proofs.Common.{◌≡◌, ◌+◌, ◌∷◌, ◌++◌, [], ap, append-nil, drop, rules, subst, sym, ◌∙◌}
use Rattle.std.proofs.lemmas.List.{drop_all, drop_more}
use Rattle.sm_merge.specs.steps.MixinsOnce.{has_number, mixins_once, unseen_mixins}
use Rattle.sm_merge.proofs.MixinsOnce.{mixins_begun, mixins_step}
use Rattle.sm_merge.proofs.mixins_once.first_mixins.Goals as goal

pub loop-mixin-init : goal.loop-mixin-init
loop-mixin-init c =
    ap (λ l. l ++ unseen_mixins (has_number c.new-seen.result) c.args.mixed.now) c.in_ok-once.ensures.items
    ∙ mixins_begun (has_number c.new-seen.result) (λ n. search rules) c.args.mixed.now

pub loop-mixin-preserved : goal.loop-mixin-preserved
loop-mixin-preserved c =
    let mixed = c.args.mixed.now in
    let i = c.loop-mixin.mixin-index in
    let one = c.mixin-item.result in
    let parts : drop i mixed ≡ one ∷ drop (i + 1) mixed =
    drop_more mixed i one c.loop-mixin-test.true ∙ ap (λ y. y ∷ drop (i + 1) mixed) (sym c.mixin-item.is) in
    mixins_step c.loop-mixin.once.items c.put_unseen.new.once.items (mixins_once mixed) (has_number c.loop-mixin.seen)
    (has_number c.put_unseen.new.seen) one (drop (i + 1) mixed) c.in_ok-put_unseen.ensures.once c.in_ok-put_unseen.ensures.seen
    (subst (λ cs. c.loop-mixin.once.items ++ unseen_mixins (has_number c.loop-mixin.seen) cs ≡ mixins_once mixed) parts
    c.loop-mixin.invariant)

pub returns : goal.returns
returns c =
    let ended : drop c.loop-mixin.mixin-index c.args.mixed.now ≡ [] =
    drop_all c.loop-mixin.mixin-index c.args.mixed.now c.loop-mixin-test.false in
    sym (append-nil c.loop-mixin.once.items)
    ∙ ap (λ cs. c.loop-mixin.once.items ++ unseen_mixins (has_number c.loop-mixin.seen) cs) (sym ended)
    ∙ c.loop-mixin.invariant
