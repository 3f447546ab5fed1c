use Rattle.std.proofs.Common.{◌≡◌, ◌<◌, ◌≤◌, ◌+◌, ◌-◌, ◌∷◌, ℕ, cond, List, Some, drop, length, sym, ap, ◌∙◌, subst, arith, bytes_eq}
use Rattle.std.proofs.lemmas.List.{drop_more}
use Rattle.std.specs.BTreeMap.{get_by_text}
use Rattle.sm_model.specs.Used.{name_part, shape_part, used_under}
use Rattle.sm_model.proofs.UsedIds.{first_more}
use Rattle.sm_model.proofs.used.first_shapes.Goals as goal

pub loop-left-preserved : goal.loop-left-preserved
loop-left-preserved c =
    let low : 0 < c.loop-left.left = c.loop-left-test.true in
    let high : c.loop-left.left ≤ length c.args.ids.now = c.loop-left.invariant.left in
    let inside : c.loop-left.left - 1 < length c.args.ids.now = omega (arith, low, high) in
    let next : (c.loop-left.left - 1) + 1 ≡ c.loop-left.left = omega (arith, low) in
    let one = c.index-ids-left.result in
    let parts : drop (c.loop-left.left - 1) c.args.ids.now ≡ one ∷ drop c.loop-left.left c.args.ids.now =
    drop_more c.args.ids.now (c.loop-left.left - 1) one inside
    ∙ (λ i. sym c.index-ids-left.is i ∷ drop (next i) c.args.ids.now) in
    record {
      left = omega (arith, high);
      told = λ q.
          first_more (get_by_text c.loop-left.shapes) (get_by_text c.put_shape.new.shapes) one (drop c.loop-left.left c.args.ids.now)
          (subst (λ (t : List ℕ). (q : List ℕ) → get_by_text c.put_shape.new.shapes q ≡ cond (bytes_eq (name_part t) q)
          (Some (shape_part t)) (get_by_text c.loop-left.shapes q))
          c.as_str.ensures c.in_ok-put_shape.ensures)
          c.loop-left.invariant.told q
          ∙ ap (used_under q) (sym parts);
    }
