use Rattle.std.proofs.Common.{◌+◌, length, ap, subst, rules, ◌∙◌, ◌++◌}
use Rattle.sm_model.specs.GivenView.{members_given_view}
use Rattle.sm_model.specs.steps.Blocks.{IsMemberBlock}
use Rattle.sm_model.proofs.ShapeBlocks.{puts_block}
use Rattle.sm_model.proofs.graph.blocks.put_block.Goals as goal

pub returns : goal.returns
returns c =
    let s = c.args.shape in
    let old = c.args.rows.now.items in
    let numbers = c.in_ok-numbers.field-0.numbers in
    let rows = c.in_ok-numbers.field-0.rows.items in
    puts_block s c.pairs_in_order-traits.result numbers old rows c.pairs_in_order-traits.ensures.sorted c.pairs_in_order-traits.ensures.same
    (subst (λ ms. IsMemberBlock (length old + 1) s.id ms numbers rows) c.into_inner.ensures
    (subst (λ first. IsMemberBlock first s.id (members_given_view c.into_inner.result.items) numbers rows)
    (search rules) c.in_ok-numbers.ensures))
    _ (c.in_ok-append.ensures.items ∙ ap (λ xs. xs ++ rows) c.in_ok-push.ensures.items)
