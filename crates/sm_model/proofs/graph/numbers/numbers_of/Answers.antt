use Rattle.std.proofs.Common.{◌≡◌, ◌+◌, ◌++◌, ◌∷◌, true, [], map, get_or, drop, length, nat_lt, subst, sym, ap, ◌∙◌, arith, rules}
use Rattle.std.proofs.lemmas.List.{drop_more}
use Rattle.sm_model.specs.Graphs.{member_id}
use Rattle.sm_model.specs.GraphRows.{are_below, ids_of}
use Rattle.sm_model.specs.steps.Blocks.{AreNamesIn}
use Rattle.sm_model.proofs.Appending.{one_more, passes_more, behind}
use Rattle.sm_model.proofs.graph.numbers.numbers_of.Goals as goal

pub loop-name-preserved : goal.loop-name-preserved
loop-name-preserved c =
    let at = c.loop-name in
    let i = at.name-index in
    let shape = c.args.shape.now in
    let names = c.args.names.now in
    let ids = ids_of c.args.rows.now in
    let name = c.name-item.result in
    let next : drop i names ≡ name ∷ drop (i + 1) names = drop_more names i name (omega arith)
    ∙ ap (λ y. y ∷ drop (i + 1) names) (sym c.name-item.is) in
    record {
      mean = λ before long. subst (λ xs. map (λ k. get_or (before ++ ids) k []) xs ++ map (member_id shape) (drop (i + 1) names)
          ≡ map (member_id shape) names) (sym c.in_ok-push.ensures.items)
          (one_more (λ k. get_or (before ++ ids) k []) at.numbers.items (c.args.first + c.place_of.result) (member_id shape name) _ _
          (behind before ids c.args.first c.place_of.result [] long ∙ c.place_of.ensures.place)
          (subst (λ rest. map (λ k. get_or (before ++ ids) k []) at.numbers.items ++ map (member_id shape) rest ≡ map
          (member_id shape) names) next
          (at.invariant.mean before long)));
      below = subst (λ xs. are_below (c.args.first + length c.args.rows.now) xs ≡ true) (sym c.in_ok-push.ensures.items)
          (passes_more (λ k. nat_lt k (c.args.first + length c.args.rows.now)) at.numbers.items _ at.invariant.below (search rules));
      names = (subst (AreNamesIn ids shape) next at.invariant.names).2;
    }
