use Rattle.std.proofs.Common.{◌≡◌, ◌<◌, ◌+◌, ◌++◌, [], ap, drop, length, sym, ◌∙◌, rules}
use Rattle.std.proofs.lemmas.List.{drop_all}
use Rattle.sm_merge.specs.steps.Filling.{all_targets}
use Rattle.sm_merge.specs.steps.Firsts.{firsts, targets_view, unseen}
use Rattle.sm_merge.specs.steps.Known.{has_text}
use Rattle.sm_merge.proofs.MembersMixed.{all_unseen, below_one, mixin_here, mixin_members}
use Rattle.sm_merge.proofs.members.members_of.Goals as goal

pub loop-mixin-init : goal.loop-mixin-init
loop-mixin-init c =
    let all = all_targets c.args.all.now c.args.mixed.now c.args.row.now.members.items in
    ap (λ ms. targets_view ms ++ unseen (has_text c.new-seen.result) (firsts all)) c.in_ok-members.ensures.items
    ∙ all_unseen (has_text c.new-seen.result) (λ id. search rules) (firsts all)

pub bounds-all-mixin : goal.bounds-all-mixin
bounds-all-mixin c =
    below_one (length c.args.all.now) c.args.mixed.now c.loop-mixin.mixin-index c.mixin-item.result c.requires c.loop-mixin-test.true
    c.mixin-item.is

pub offset_bounds-all-mixin : goal.offset_bounds-all-mixin
offset_bounds-all-mixin c =
    let small : c.mixin-item.result.number < length c.args.all.now =
    below_one (length c.args.all.now) c.args.mixed.now c.loop-mixin.mixin-index c.mixin-item.result c.requires c.loop-mixin-test.true
    c.mixin-item.is in
    search rules

pub loop-mixin-preserved : goal.loop-mixin-preserved
loop-mixin-preserved c =
    let mixed = c.args.mixed.now in
    let i = c.loop-mixin.mixin-index in
    let own = c.args.row.now.members.items in
    let xs = targets_view c.as_slice.result.now in
    let ys = all_targets c.args.all.now (drop (i + 1) mixed) own in
    mixin_members (targets_view c.loop-mixin.members.items) (targets_view c.put_firsts.new.all.items)
    (firsts (all_targets c.args.all.now mixed own)) (has_text c.loop-mixin.seen) (has_text c.put_firsts.new.seen) xs ys
    c.in_ok-put_firsts.ensures.all c.in_ok-put_firsts.ensures.seen
    (ap (λ zs. targets_view c.loop-mixin.members.items ++ unseen (has_text c.loop-mixin.seen) (firsts zs))
    (mixin_here c.args.all.now mixed i c.mixin-item.result c.index-all-mixin.result c.as_slice.result.now own c.requires
    c.loop-mixin-test.true c.mixin-item.is c.index-all-mixin.is c.as_slice.ensures.value)
    ∙ c.loop-mixin.invariant)

pub returns : goal.returns
returns c =
    let own = c.args.row.now.members.items in
    let ended : drop c.loop-mixin.mixin-index c.args.mixed.now ≡ [] =
    drop_all c.loop-mixin.mixin-index c.args.mixed.now c.loop-mixin-test.false in
    c.in_ok-put_own.ensures
    ∙ ap (λ os. targets_view c.loop-mixin.members.items ++ unseen (has_text c.loop-mixin.seen) (firsts os)) c.as_slice-2.ensures.value
    ∙ ap (λ cs. targets_view c.loop-mixin.members.items
    ++ unseen (has_text c.loop-mixin.seen) (firsts (all_targets c.args.all.now cs c.args.row.now.members.items))) (sym ended)
    ∙ c.loop-mixin.invariant
