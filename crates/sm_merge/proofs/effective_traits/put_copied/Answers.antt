use Rattle.std.proofs.Common.{◌++◌, sym, ap, ◌∙◌, arith}
use Rattle.sm_merge.specs.steps.Filling.{copied_at, copied_traits, folded_rows}
use Rattle.sm_merge.proofs.MemberListsMade.{last_step, rows_joined}
use Rattle.sm_merge.proofs.effective_traits.put_copied.Goals as goal

pub mixin_entry-entry-requires-clause-inside : goal.mixin_entry-entry-requires-clause-inside
mixin_entry-entry-requires-clause-inside c =
    omega (arith, c.loop-left-test.true, c.loop-left.invariant.left)

pub loop-left-preserved : goal.loop-left-preserved
loop-left-preserved c =
    let one = c.mixin_entry-entry.ensures in
    record {
      left = omega (arith, c.loop-left.invariant.left);
      rows = last_step (copied_at c.args.all.now) (folded_rows c.args.rows.now.items) (folded_rows c.loop-left.rows.items)
          (folded_rows c.extend_from_slice.new.self.items) c.args.mixed.now c.loop-left.left one.mixin c.loop-left-test.true
          one.there c.loop-left.invariant.rows
          (ap folded_rows c.in_ok-extend_from_slice.ensures.items ∙ rows_joined c.loop-left.rows.items c.as_slice.result.now
          ∙ ap (λ ts. folded_rows c.loop-left.rows.items ++ folded_rows ts) (c.as_slice.ensures.value ∙ sym (ap copied_traits one.entry)));
    }
