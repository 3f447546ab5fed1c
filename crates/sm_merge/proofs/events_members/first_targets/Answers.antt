use Rattle.std.proofs.Common.{◌≡◌, ◌<◌, ◌≤◌, ◌+◌, ◌-◌, ◌∷◌, drop, length, sym, ap, ◌∙◌, arith, bytes_eq}
use Rattle.std.proofs.lemmas.List.{drop_more}
use Rattle.std.proofs.lemmas.Map.Text.{btree_map_updates_str}
use Rattle.std.specs.BTreeMap.{get_by}
use Rattle.std.specs.Cmp.Lexicographic.{slice_cmp}
use Rattle.std.specs.Ordering.{nat_cmp}
use Rattle.sm_merge.specs.steps.Firsts.{target_view, targets_view}
use Rattle.sm_merge.specs.steps.PlaceEvents.{first_among, first_in, target_in}
use Rattle.sm_merge.proofs.OthersPut.{first_more, target_cond}
use Rattle.sm_merge.proofs.events_members.first_targets.Goals as goal

pub loop-left-preserved : goal.loop-left-preserved
loop-left-preserved c =
    let low : 0 < c.loop-left.left = c.loop-left-test.true in
    let high : c.loop-left.left ≤ length c.args.members.now = c.loop-left.invariant.left in
    let inside : c.loop-left.left - 1 < length c.args.members.now = omega (arith, low, high) in
    let next : (c.loop-left.left - 1) + 1 ≡ c.loop-left.left = omega (arith, low) in
    let one = c.index-members-left.result in
    let parts : drop (c.loop-left.left - 1) c.args.members.now ≡ one ∷ drop c.loop-left.left c.args.members.now =
    drop_more c.args.members.now (c.loop-left.left - 1) one inside
    ∙ (λ i. sym c.index-members-left.is i ∷ drop (next i) c.args.members.now) in
    record {
      left = omega (arith, high);
      told = λ q.
          first_more (first_in c.loop-left.firsts) (first_in c.insert.new.self) (target_view one)
          (targets_view (drop c.loop-left.left c.args.members.now))
          (λ k. ap target_in (btree_map_updates_str one.name.now c.loop-left.firsts c.insert.new.self _ c.in_ok-insert.ensures.updates k)
          ∙ target_cond (bytes_eq one.name.now k) one.target (get_by (λ x. slice_cmp nat_cmp k x.now) c.loop-left.firsts))
          c.loop-left.invariant.told q
          ∙ ap (λ ms. first_among (targets_view ms) q) (sym parts);
    }
