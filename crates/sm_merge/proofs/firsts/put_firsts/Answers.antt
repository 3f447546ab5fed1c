use Rattle.std.proofs.Common.{◌≡◌, ◌+◌, ◌∷◌, ◌++◌, ap, drop, subst, sym, ◌∙◌, bytes_eq}
use Rattle.std.specs.Prelude.{◌||◌}
use Rattle.std.proofs.lemmas.List.{drop_more}
use Rattle.sm_merge.specs.steps.Firsts.{firsts, is_name_of, target_view, targets_view, unseen}
use Rattle.sm_merge.specs.steps.Known.{has_text}
use Rattle.sm_merge.proofs.FirstNames.{firsts_step}
use Rattle.sm_merge.proofs.NamesKnown.{held}
use Rattle.sm_merge.proofs.firsts.put_firsts.Goals as goal

pub loop-one-preserved : goal.loop-one-preserved
loop-one-preserved c =
    let more = c.args.more.now in
    let i = c.loop-one.one-index in
    let one = c.one-item.result in
    let left = targets_view (drop (i + 1) more) in
    let had = c.loop-one.seen in
    let has = c.put_first.new.seen in
    let first = c.args.seen.now in
    let parts : drop i more ≡ one ∷ drop (i + 1) more =
    drop_more more i one c.loop-one-test.true ∙ ap (λ y. y ∷ drop (i + 1) more) (sym c.one-item.is) in
    record {
      seen = λ id.
          held (has_text had id) (has_text has id) (bytes_eq one.name.now id) (is_name_of id left)
          (has_text first id || is_name_of id (targets_view more)) (c.in_ok-put_first.ensures.seen id)
          (subst (λ ts. (has_text had id || is_name_of id (targets_view ts)) ≡ (has_text first id || is_name_of id (targets_view more)))
          parts
          (c.loop-one.invariant.seen id));
      all =
          firsts_step (targets_view c.loop-one.all.items) (targets_view c.put_first.new.all.items)
          (targets_view c.args.all.now.items ++ unseen (has_text first) (firsts (targets_view more))) (has_text had) (has_text has)
          (target_view one) left c.in_ok-put_first.ensures.all c.in_ok-put_first.ensures.seen
          (subst (λ ts. targets_view c.loop-one.all.items ++ unseen (has_text had) (firsts (targets_view ts))
          ≡ targets_view c.args.all.now.items ++ unseen (has_text first) (firsts (targets_view more))) parts c.loop-one.invariant.all);
    }
