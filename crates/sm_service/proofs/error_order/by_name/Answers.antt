use Rattle.std.proofs.Common.{subst, sym, map, rules}
use Rattle.std.proofs.lemmas.Fn.{always_returns_same}
use Rattle.std.proofs.lemmas.List.Sorted.{ranks_by}
use Rattle.std.specs.Cmp.Lexicographic.{nat_list_cmp_total}
use Rattle.std.specs.Ordering.{is_lt}
use Rattle.sm_model.specs.Graphs.{text_cmp}
use Rattle.sm_shapes.specs.InOrder.{AreByName}
use Rattle.sm_shapes.specs.Names.{AllDiffer}
use Rattle.sm_service.specs.ErrorOrder.{name_at_place}
use Rattle.sm_service.proofs.NamesInOrder.{by_names}
use Rattle.sm_service.proofs.error_order.by_name.Goals as goal

pub returns : goal.returns
returns c =
    let name = name_at_place c.args.errors.now in
    let places = c.args.places.items in
    let sorted = c.sort_unstable_by.new.self.items in
    record {
      order = subst (λ ks. AreByName name ks sorted) c.requires.places (by_names name places sorted c.sort_unstable_by.ensures.permutation
          (c.sort_unstable_by.ensures.sorted (λ a b. is_lt (text_cmp (name a) (name b))) (ranks_by nat_list_cmp_total name)
          (always_returns_same _ _ _ (λ a r f called. search rules)))
          (subst (λ ks. AllDiffer (map name ks)) (sym c.requires.places) c.requires.differ));
      differ = c.requires.differ;
    }
