use Rattle.std.proofs.Common.{inl, inr, refl, sym, subst}
use Rattle.sm_merge.specs.steps.MixedIn.{AreBelow}
use Rattle.sm_merge.proofs.MixedMade.{below_more}
use Rattle.sm_merge.proofs.effective_mixins.put_mixin.Goals as goal

pub returns-in-None-clause-put : goal.returns-in-None-clause-put
returns-in-None-clause-put c = λ ss s t same. inl (c.in-None.ensures.told ss s t same, refl)

pub returns-in_ok-push-in-Some-clause-below : goal.returns-in_ok-push-in-Some-clause-below
returns-in_ok-push-in-Some-clause-below c = λ h.
    subst (AreBelow _) (sym c.in_ok-push-in-Some.ensures.items)
    (below_more _ c.args.found.now.items c.in-Some.one h c.in-Some.ensures.inside)

pub returns-in_ok-push-in-Some-clause-put : goal.returns-in_ok-push-in-Some-clause-put
returns-in_ok-push-in-Some-clause-put c = λ ss s t same.
    inr (c.in-Some.one, c.in-Some.ensures.told ss s t same, c.in_ok-push-in-Some.ensures.items)
