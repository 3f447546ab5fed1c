use Rattle.std.proofs.Common.{◌+◌, [], ◌∷◌, length, sym, ap, subst, ◌∙◌, arith, length-append}
use Rattle.std.proofs.lemmas.Option.{none-some}
use Rattle.sm_merge.specs.steps.MixedIn.{AllBelow}
use Rattle.sm_merge.proofs.MixedMade.{MixedSoFar, all_below_more, mixed_more}
use Rattle.sm_merge.proofs.effective_mixins.all_mixed_in.Goals as goal

pub loop-row-init : goal.loop-row-init
loop-row-init c = record {
  size = ap length c.in_ok-all.ensures.items;
  below = subst (AllBelow (length c.args.rows.now)) (sym c.in_ok-all.ensures.items) tt;
  mixed = λ ss t.
      subst (MixedSoFar ss c.args.rows.now) (sym c.in_ok-all.ensures.items) (λ v id s cs at_v there none. absurd (none-some cs none));
}

pub loop-row-preserved : goal.loop-row-preserved
loop-row-preserved c = record {
  size = ap length c.in_ok-push.ensures.items ∙ length-append c.loop-row.all.items (c.in_ok-found.found ∷ [])
      ∙ ap (λ n. n + 1) c.loop-row.invariant.size;
  below = subst (AllBelow (length c.args.rows.now)) (sym c.in_ok-push.ensures.items)
      (all_below_more (length c.args.rows.now) c.loop-row.all.items c.in_ok-found.found c.loop-row.invariant.below
      c.in_ok-found.ensures.below);
  mixed = λ ss t.
      subst (MixedSoFar ss c.args.rows.now) (sym c.in_ok-push.ensures.items)
      (mixed_more ss c.args.rows.now c.args.traits.now c.args.walk.now t c.loop-row.row-index c.row-item.result c.loop-row-test.true
      c.row-item.is c.loop-row.all.items c.in_ok-found.found c.loop-row.invariant.size (c.loop-row.invariant.mixed ss t)
      (λ s kind. c.in_ok-found.ensures.mixed ss s t kind));
}

pub returns-clause-mixed : goal.returns-clause-mixed
returns-clause-mixed c = λ ss t. record {
  size = c.loop-row.invariant.size ∙ omega (arith, c.loop-row-test.false);
  each = c.loop-row.invariant.mixed ss t;
}
