use Rattle.std.proofs.Common.{subst}
use Rattle.std.proofs.lemmas.List.{take_all}
use Rattle.sm_rules.specs.RuleEvents.{Puts}
use Rattle.sm_passes.specs.Putting.{ToldOf}
use Rattle.sm_passes.proofs.EntriesThere.{numbers_behind}
use Rattle.sm_passes.proofs.ListPut.{none_of, put_place}
use Rattle.sm_reference_rules.specs.steps.Targets.{ToldMember}
use Rattle.sm_reference_rules.proofs.kinds.put_members.Goals as goal

pub loop-member-init : goal.loop-member-init
loop-member-init c = record {
  numbers = c.requires.numbers;
  puts = none_of (ToldMember c.args.graph.now c.args.home c.args.shape) c.args.events.now.items;
}

pub loop-member-preserved : goal.loop-member-preserved
loop-member-preserved c =
    record {
      numbers = numbers_behind c.args.graph.now c.args.members.now c.loop-member.member-index c.loop-member-test.true
          c.loop-member.invariant.numbers;
      puts = put_place (ToldMember c.args.graph.now c.args.home c.args.shape)
          c.args.members.now c.loop-member.member-index 0 c.loop-member-test.true c.args.events.now.items c.loop-member.events.items
          c.put_member.new.events.items c.loop-member.invariant.puts c.in_ok-put_member.ensures;
    }

pub returns : goal.returns
returns c =
    subst (λ ks. Puts (ToldOf (ToldMember c.args.graph.now c.args.home c.args.shape) ks) c.args.events.now.items c.loop-member.events.items)
    (take_all c.loop-member.member-index c.args.members.now c.loop-member-test.false) c.loop-member.invariant.puts
