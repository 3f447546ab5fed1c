use Rattle.std.proofs.Common.{◌≡◌, ◌<◌, ◌≤◌, ◌+◌, ◌-◌, ◌∷◌, List, ℕ, cond, drop, length, Some, sym, ap, ◌∙◌, arith, bytes_eq}
use Rattle.std.specs.FinMap.Entries.{find}
use Rattle.std.proofs.lemmas.List.{drop_more}
use Rattle.std.proofs.lemmas.Map.Text.{btree_map_updates_str}
use Rattle.sm_model.specs.Graphs.{text_cmp}
use Rattle.sm_passes.specs.Firsts.{number_in}
use Rattle.sm_passes.proofs.FirstRows.{first_more}
use Rattle.sm_passes.proofs.firsts.first_numbers.Goals as goal

pub loop-left-preserved : goal.loop-left-preserved
loop-left-preserved c =
    let low : 0 < c.loop-left.left = c.loop-left-test.true in
    let high : c.loop-left.left ≤ length c.args.rows.now = c.loop-left.invariant.left in
    let inside : c.loop-left.left - 1 < length c.args.rows.now = omega (arith, low, high) in
    let next : (c.loop-left.left - 1) + 1 ≡ c.loop-left.left = omega (arith, low) in
    let one = c.index-rows-left.result in
    let parts : drop (c.loop-left.left - 1) c.args.rows.now ≡ one ∷ drop c.loop-left.left c.args.rows.now =
    drop_more c.args.rows.now (c.loop-left.left - 1) one inside
    ∙ (λ i. sym c.index-rows-left.is i ∷ drop (next i) c.args.rows.now) in
    record {
      left = omega (arith, high);
      told = λ q.
          first_more (number_in c.loop-left.firsts) (number_in c.insert.new.self) one (drop c.loop-left.left c.args.rows.now)
          (λ k. btree_map_updates_str c.as_str.result.now c.loop-left.firsts c.insert.new.self _ c.in_ok-insert.ensures.updates k
          ∙ ap (λ (t : List ℕ). cond (bytes_eq t k) (Some one.1) (number_in c.loop-left.firsts k)) c.as_str.ensures.bytes)
          c.loop-left.invariant.told q
          ∙ ap (find text_cmp q) (sym parts);
    }
