use Rattle.std.proofs.Common.{sym, refl, ◌∙◌}
use Rattle.sm_merge.proofs.MixinsTold.{contributes, given_none, given_some, may_not, unmarked}
use Rattle.sm_merge.proofs.Walked.{true_is_false}
use Rattle.sm_merge.proofs.mixins.contribution_by.Goals as goal

pub returns-then-not-may_contribute-clause-told : goal.returns-then-not-may_contribute-clause-told
returns-then-not-may_contribute-clause-told c = λ ss s t same.
    may_not ss c.args.rows.now c.args.traits.now c.args.walk.now t s c.args.mixin.now c.args.number c.args.kind same c.requires.number
    (λ may. true_is_false (sym (c.may_contribute.ensures.1 may) ∙ c.if-not-may_contribute.true))

pub returns-in-None-clause-told : goal.returns-in-None-clause-told
returns-in-None-clause-told c = λ ss s t same.
    unmarked ss c.args.rows.now c.args.traits.now c.args.walk.now t s c.args.mixin.now
    (given_none ss c.args.rows.now c.args.traits.now c.args.walk.now t s c.args.mixin.now c.traits_at.result.now c.traits_at.ensures
    c.in-None.ensures)

pub returns-in-Some-clause-told : goal.returns-in-Some-clause-told
returns-in-Some-clause-told c = λ ss s t same.
    contributes ss c.args.rows.now c.args.traits.now c.args.walk.now t s c.args.mixin.now _ c.args.kind c.in-Some.folded.now refl same
    c.requires.number (c.may_contribute.ensures.0 c.if-not-may_contribute.false)
    (given_some ss c.args.rows.now c.args.traits.now c.args.walk.now t s c.args.mixin.now c.traits_at.result.now
    c.in-Some.folded.now c.traits_at.ensures c.in-Some.ensures)
