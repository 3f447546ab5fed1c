use Rattle.std.proofs.Common.{subst}
use Rattle.std.proofs.lemmas.List.{take_all}
use Rattle.sm_rules.specs.RuleEvents.{Puts}
use Rattle.sm_passes.specs.Putting.{ToldOf}
use Rattle.sm_passes.proofs.EntriesThere.{numbers_behind}
use Rattle.sm_passes.proofs.ListPut.{none_of, put_place}
use Rattle.sm_http_rules.specs.steps.WireNames.{ToldBegun}
use Rattle.sm_http_rules.proofs.prefixes.put_each_begun.Goals as goal

pub loop-member-init : goal.loop-member-init
loop-member-init c = record {
  numbers = c.requires.members;
  puts = none_of (ToldBegun c.args.graph.now c.args.prefixes.now) c.args.events.now.items;
}

pub loop-member-preserved : goal.loop-member-preserved
loop-member-preserved c =
    record {
      numbers = numbers_behind c.args.graph.now c.args.members.now c.loop-member.member-index c.loop-member-test.true
          c.loop-member.invariant.numbers;
      puts = put_place (ToldBegun c.args.graph.now c.args.prefixes.now)
          c.args.members.now c.loop-member.member-index 0 c.loop-member-test.true c.args.events.now.items c.loop-member.events.items
          c.put_begun_at.new.events.items c.loop-member.invariant.puts c.in_ok-put_begun_at.ensures;
    }

pub returns : goal.returns
returns c =
    subst (λ ks. Puts (ToldOf (ToldBegun c.args.graph.now c.args.prefixes.now) ks) c.args.events.now.items c.loop-member.events.items)
    (take_all c.loop-member.member-index c.args.members.now c.loop-member-test.false) c.loop-member.invariant.puts
