use Rattle.std.proofs.Common.{◌<◌, length, map, rules, subst}
use Rattle.std.specs.List.Sorted.{IsPermutation}
use Rattle.std.specs.Ordering.{is_lt}
use Rattle.std.proofs.lemmas.Fn.{always_returns_same}
use Rattle.std.proofs.lemmas.List.{length-map}
use Rattle.std.proofs.lemmas.List.Sorted.{ranks_by}
use Rattle.sm_examples.specs.ExampleView.{example_data}
use Rattle.sm_examples.specs.InputOrder.{rank_at, rank_cmp}
use Rattle.sm_examples.proofs.InputOrders.{all_stand, ranks_total}
use Rattle.sm_examples.proofs.order.by_input.Goals as goal

pub returns : goal.returns
returns c =
    let ranked = rank_at (map example_data c.args.examples.now) in
    let sorted = c.sort_unstable_by.new.self.items in
    record {
      all = λ k lt.
          all_stand (length c.args.examples.now) sorted
          (subst (λ ks. IsPermutation ks sorted) c.requires c.sort_unstable_by.ensures.permutation) k
          (subst (λ n. k < n) (length-map c.args.examples.now example_data) lt);
      sorted = c.sort_unstable_by.ensures.sorted (λ a b. is_lt (rank_cmp (ranked a) (ranked b))) (ranks_by ranks_total ranked)
          (always_returns_same _ _ _ (λ a r f called. search rules));
    }
