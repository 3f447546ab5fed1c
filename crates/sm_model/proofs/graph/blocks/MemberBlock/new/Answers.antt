use Rattle.std.proofs.Common.{ap, length, subst, sym, arith, ◌∙◌}
use Rattle.std.proofs.lemmas.List.{length-map}
use Rattle.sm_model.specs.Given.{given_names}
use Rattle.sm_model.specs.GivenView.{member_given_view, members_given_view}
use Rattle.sm_model.specs.GraphRows.{ids_of}
use Rattle.sm_model.specs.steps.Blocks.{AreNamesIn, AreNumbers}
use Rattle.sm_model.proofs.MemberBlocks.{as_many_sorted, member_block, member_ids_differ, sorted_names}
use Rattle.sm_model.proofs.graph.blocks.MemberBlock.new.Goals as goal

pub rows_in_order-rows-requires : goal.rows_in_order-rows-requires
rows_in_order-rows-requires c =
    member_ids_differ c.args.shape.now (members_given_view c.args.members.items) _ c.in_ok-names.ensures.1 c.requires.differ

pub numbers_of-requires-clause-names : goal.numbers_of-requires-clause-names
numbers_of-requires-clause-names c =
    let shape = c.args.shape.now in
    let ms = members_given_view c.args.members.items in
    subst (λ rows. AreNamesIn (ids_of rows) shape c.as_slice.result.now) (sym c.as_slice-2.ensures.value)
    (subst (AreNamesIn (ids_of c.rows_in_order-rows.result.items) shape) (sym (c.as_slice.ensures.value ∙ c.in_ok-names.ensures.0))
    (sorted_names shape ms c.in_ok-names.field-0.rows.items c.rows_in_order-rows.result.items c.in_ok-names.ensures.1 c.requires.members
    c.rows_in_order-rows.ensures.moved))

pub numbers_of-requires-clause-few : goal.numbers_of-requires-clause-few
numbers_of-requires-clause-few c =
    let shape = c.args.shape.now in
    let ms = members_given_view c.args.members.items in
    let many = as_many_sorted shape ms c.in_ok-names.field-0.rows.items c.rows_in_order-rows.result.items c.in_ok-names.ensures.1
    c.requires.members
    c.rows_in_order-rows.ensures.moved in
    omega (arith, c.requires.few, many, length-map c.args.members.items member_given_view, ap length c.as_slice-2.ensures.value)

pub returns : goal.returns
returns c =
    let shape = c.args.shape.now in
    let ms = members_given_view c.args.members.items in
    let numbers = c.in_ok-numbers.numbers in
    member_block shape ms c.in_ok-names.field-0.rows.items c.rows_in_order-rows.result.items c.in_ok-names.ensures.1 c.requires.members
    c.rows_in_order-rows.ensures.moved c.args.first numbers c.rows_in_order-rows.ensures.rise
    (subst (λ rows. AreNumbers c.args.first rows shape (given_names ms) numbers) c.as_slice-2.ensures.value
    (subst (λ names. AreNumbers c.args.first c.as_slice-2.result.now shape names numbers)
    (c.as_slice.ensures.value ∙ c.in_ok-names.ensures.0)
    c.in_ok-numbers.ensures))
