use Rattle.std.proofs.Common.{subst}
use Rattle.std.proofs.lemmas.List.{take_all}
use Rattle.sm_model.specs.GraphView.{maps_of}
use Rattle.sm_model.specs.Reaching.{id_of_number}
use Rattle.sm_rules.specs.RuleEvents.{Puts}
use Rattle.sm_trait_rules.specs.steps.Judging.{ToldMember}
use Rattle.sm_passes.specs.Putting.{ToldOf}
use Rattle.sm_passes.proofs.EntriesThere.{numbers_behind}
use Rattle.sm_passes.proofs.ListPut.{none_of, put_place}
use Rattle.sm_trait_rules.proofs.judged.put_members.Goals as goal

pub loop-member-init : goal.loop-member-init
loop-member-init g c = record {
  numbers = c.requires;
  puts = none_of (λ k. ToldMember (g.J.Judge.rule c.args.judge.now) (g.J.Judge.wrong c.args.judge.now)
      (maps_of c.args.graph.now) c.args.home
      (id_of_number c.args.graph.now k)) c.args.events.now.items;
}

pub loop-member-preserved : goal.loop-member-preserved
loop-member-preserved g c =
    record {
      numbers = numbers_behind c.args.graph.now c.args.members.now c.loop-member.member-index c.loop-member-test.true
          c.loop-member.invariant.numbers;
      puts = put_place (λ k. ToldMember (g.J.Judge.rule c.args.judge.now) (g.J.Judge.wrong c.args.judge.now) (maps_of c.args.graph.now)
          c.args.home (id_of_number c.args.graph.now k))
          c.args.members.now c.loop-member.member-index 0 c.loop-member-test.true c.args.events.now.items c.loop-member.events.items
          c.put_member.new.events.items c.loop-member.invariant.puts c.in_ok-put_member.ensures;
    }

pub returns : goal.returns
returns g c =
    subst (λ ks. Puts (ToldOf (λ k. ToldMember (g.J.Judge.rule c.args.judge.now) (g.J.Judge.wrong c.args.judge.now)
    (maps_of c.args.graph.now)
    c.args.home (id_of_number c.args.graph.now k)) ks) c.args.events.now.items c.loop-member.events.items)
    (take_all c.loop-member.member-index c.args.members.now c.loop-member-test.false) c.loop-member.invariant.puts
