use Rattle.std.proofs.Common.{subst}
use Rattle.std.proofs.lemmas.List.{take_all}
use Rattle.sm_rules.specs.RuleEvents.{Puts}
use Rattle.sm_passes.specs.Putting.{ToldOf}
use Rattle.sm_passes.proofs.EntriesThere.{numbers_behind}
use Rattle.sm_passes.proofs.ListPut.{none_of, put_place}
use Rattle.sm_http_rules.specs.steps.BoundTargets.{ToldBoundMember}
use Rattle.sm_http_rules.proofs.bound_targets.put_of_members.Goals as goal

pub loop-member-init : goal.loop-member-init
loop-member-init c = record {
  numbers = c.requires.members;
  told = none_of (ToldBoundMember c.args.graph.now c.args.leading.now c.args.side c.has_payload-payload.result) c.args.events.now.items;
}

pub loop-member-preserved : goal.loop-member-preserved
loop-member-preserved c =
    record {
      numbers = numbers_behind c.args.graph.now c.args.members.now c.loop-member.member-index c.loop-member-test.true
          c.loop-member.invariant.numbers;
      told = put_place (ToldBoundMember c.args.graph.now c.args.leading.now c.args.side c.has_payload-payload.result)
          c.args.members.now c.loop-member.member-index 0 c.loop-member-test.true c.args.events.now.items c.loop-member.events.items
          c.put_member.new.events.items c.loop-member.invariant.told c.in_ok-put_member.ensures;
    }

pub returns : goal.returns
returns c =
    subst (λ p. Puts (ToldOf (ToldBoundMember c.args.graph.now c.args.leading.now c.args.side p) c.args.members.now)
    c.args.events.now.items c.loop-member.events.items) c.has_payload-payload.ensures
    (subst (λ ks. Puts (ToldOf (ToldBoundMember c.args.graph.now c.args.leading.now c.args.side c.has_payload-payload.result) ks)
    c.args.events.now.items c.loop-member.events.items)
    (take_all c.loop-member.member-index c.args.members.now c.loop-member-test.false) c.loop-member.invariant.told)
