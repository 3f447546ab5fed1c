use Rattle.std.proofs.Common.{inl, inr, get_or, take, sym, ◌∙◌, subst}
use Rattle.std.specs.List.{Contains}
use Rattle.std.proofs.lemmas.List.{take_all, take_more}
use Rattle.std.proofs.lemmas.List.Elements.{Contains-get_or, Contains-push_cases}
use Rattle.sm_name_rules.specs.steps.Naming.{GivesNone}
use Rattle.sm_name_rules.proofs.GivenNames.{none_there}
use Rattle.sm_name_rules.proofs.names.give_none.Goals as goal

pub renames_of-requires : goal.renames_of-requires
renames_of-requires c =
    (c.requires _ (Contains-get_or c.args.services.now c.loop-service.service-index 0 c.loop-service-test.true)).0

pub loop-service-preserved : goal.loop-service-preserved
loop-service-preserved c = λ k among.
    let services = c.args.services.now in
    let i = c.loop-service.service-index in
    let none : GivesNone c.args.graph.now (get_or services i 0) =
    sym c.renames_of.ensures ∙ none_there c.renames_of.result.now (sym c.is_empty.ensures ∙ c.if-not-is_empty.false) in
    elim (Contains-push_cases (take i services) (get_or services i 0) k
    (subst (λ ks. Contains ks k) (take_more services i 0 c.loop-service-test.true) among)) [
      | inl before ↦ c.loop-service.invariant k before
      | inr same ↦ subst (GivesNone c.args.graph.now) same none
    ]

pub returns : goal.returns
returns c = λ h k among.
    c.loop-service.invariant k
    (subst (λ ks. Contains ks k) (sym (take_all c.loop-service.service-index c.args.services.now c.loop-service-test.false)) among)
