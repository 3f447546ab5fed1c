use Rattle.std.proofs.Common.{◌≡◌, ◌<◌, ◌≤◌, ◌+◌, ◌-◌, ◌∷◌, List, ℕ, cond, drop, length, Some, sym, ap, ◌∙◌, arith, bytes_eq}
use Rattle.std.specs.BTreeMap.{get_by}
use Rattle.std.specs.Cmp.Lexicographic.{slice_cmp}
use Rattle.std.specs.Ordering.{nat_cmp}
use Rattle.std.specs.Option.{option_map}
use denote.Ref.{Bor}
use Rattle.std.proofs.lemmas.List.{drop_more}
use Rattle.std.proofs.lemmas.Map.Text.{btree_map_updates_str}
use Rattle.sm_tree.specs.Node.{members_of}
use Rattle.sm_tree.specs.Parts.{tree_named}
use Rattle.sm_tree.specs.View.{members_view, node_of}
use Rattle.sm_tree.specs.declared.tree.Tree.{Tree}
use Rattle.sm_name_rules.specs.steps.Naming.{tree_in}
use Rattle.sm_name_rules.proofs.GivenNames.{tree_cond, tree_more}
use Rattle.sm_name_rules.proofs.named.names_given.Goals as goal

pub loop-left-preserved : goal.loop-left-preserved
loop-left-preserved c =
    let low : 0 < c.loop-left.left = c.loop-left-test.true in
    let high : c.loop-left.left ≤ length c.args.pairs.now = c.loop-left.invariant.left in
    let inside : c.loop-left.left - 1 < length c.args.pairs.now = omega (arith, low, high) in
    let next : (c.loop-left.left - 1) + 1 ≡ c.loop-left.left = omega (arith, low) in
    let one = c.index-pairs-left.result in
    let parts : drop (c.loop-left.left - 1) c.args.pairs.now ≡ one ∷ drop c.loop-left.left c.args.pairs.now =
    drop_more c.args.pairs.now (c.loop-left.left - 1) one inside
    ∙ (λ i. sym c.index-pairs-left.is i ∷ drop (next i) c.args.pairs.now) in
    record {
      left = omega (arith, high);
      told = λ q.
          tree_more (tree_in c.loop-left.given) (tree_in c.insert.new.self) one.0 (node_of one.1)
          (members_of (members_view (drop c.loop-left.left c.args.pairs.now)))
          (λ k. ap (option_map (λ (t : Bor Tree). node_of t.now))
          (btree_map_updates_str c.as_str.result.now c.loop-left.given c.insert.new.self _ c.in_ok-insert.ensures.updates k)
          ∙ tree_cond (bytes_eq c.as_str.result.now k) _ (get_by (λ x. slice_cmp nat_cmp k x.now) c.loop-left.given)
          ∙ ap (λ (t : List ℕ). cond (bytes_eq t k) (Some (node_of one.1)) (tree_in c.loop-left.given k)) c.as_str.ensures.bytes)
          c.loop-left.invariant.told q
          ∙ ap (λ ps. tree_named q (members_of (members_view ps))) (sym parts);
    }
