use Rattle.std.proofs.Common.{◌<◌, ◌+◌, [], ◌∷◌, length, sym, ap, subst, ◌∙◌, arith, length-append}
use Rattle.sm_merge.specs.Limits.{most_members}
use Rattle.sm_merge.specs.steps.Made.{HaveManyMembers}
use Rattle.sm_merge.proofs.Stopped.{put_short}
use Rattle.sm_merge.proofs.members.no_members.Goals as goal

pub loop-preserved : goal.loop-preserved
loop-preserved c = record {
  size = ap length c.in_ok-push.ensures.items ∙ length-append c.loop.all.items (c.new-none.result ∷ []) ∙ ap (λ n. n + 1)
      c.loop.invariant.size;
  short =
      subst (λ all. HaveManyMembers all → ⊥) (sym c.in_ok-push.ensures.items)
      (put_short c.loop.all.items c.new-none.result c.loop.invariant.short (λ many.
      let some : most_members < 0 = subst (λ xs. most_members < length xs) c.new-none.ensures.items many in omega (arith, some)));
}
