use Rattle.std.proofs.Common.{◌++◌, sym, ap, ◌∙◌, arith}
use Rattle.sm_merge.specs.steps.Filling.{kept_by, kept_of, member_lists}
use Rattle.sm_merge.specs.steps.MemberLists.{rows_under}
use Rattle.sm_merge.proofs.MemberListsMade.{last_step}
use Rattle.sm_merge.proofs.effective_members.put_mixed.Goals as goal

pub mixin_entry-entry-requires-clause-inside : goal.mixin_entry-entry-requires-clause-inside
mixin_entry-entry-requires-clause-inside c =
    omega (arith, c.loop-left-test.true, c.loop-left.invariant.left)

pub loop-left-preserved : goal.loop-left-preserved
loop-left-preserved c =
    let one = c.mixin_entry-entry.ensures in
    record {
      left = omega (arith, c.loop-left.invariant.left);
      rows = λ name.
          last_step (kept_by name c.args.all.now) (rows_under name c.args.lists.now.items) (rows_under name c.loop-left.lists.items)
          (rows_under name c.put_copies.new.lists.items) c.args.mixed.now c.loop-left.left one.mixin c.loop-left-test.true
          one.there (c.loop-left.invariant.rows name)
          (c.in_ok-put_copies.ensures name
          ∙ ap (λ ms. rows_under name c.loop-left.lists.items ++ kept_of ms name)
          (c.as_slice.ensures.value ∙ sym (ap member_lists one.entry)));
    }
