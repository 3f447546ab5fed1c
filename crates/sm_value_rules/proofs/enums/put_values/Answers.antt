use Rattle.std.proofs.Common.{◌≡◌, length, subst, sym, ◌∙◌, arith}
use Rattle.sm_model.proofs.Worklist.{apart}
use Rattle.sm_rules.specs.RuleEvents.{Puts}
use Rattle.sm_passes.specs.Putting.{Below}
use Rattle.sm_passes.proofs.EntriesThere.{numbers_behind}
use Rattle.sm_passes.proofs.EventsPut.{puts_begun, puts_next}
use Rattle.sm_value_rules.specs.steps.Enums.{ToldValueAt}
use Rattle.sm_value_rules.specs.steps.SeenValues.{Holds}
use Rattle.sm_value_rules.proofs.EnumMembers.{among_next, none_among, told_here}
use Rattle.sm_value_rules.proofs.enums.put_values.Goals as goal

pub loop-member-init : goal.loop-member-init
loop-member-init c = record {
  within = omega arith;
  numbers = c.requires;
  seen = none_among c.args.graph.now c.args.kind (Holds c.new-seen.result) (λ n h. apart (sym (c.new-seen.ensures n) ∙ h));
  puts = puts_begun (ToldValueAt c.args.graph.now c.args.kind c.args.members.now) c.args.events.now.items;
}

pub loop-member-preserved : goal.loop-member-preserved
loop-member-preserved c =
    let ms = c.args.members.now in
    let i = c.loop-member.member-index in
    let seen = Holds c.loop-member.seen in
    record {
      within = omega (arith, c.loop-member-test.true);
      numbers = numbers_behind c.args.graph.now ms i c.loop-member-test.true c.loop-member.invariant.numbers;
      seen = among_next c.args.graph.now c.args.kind ms i 0 c.loop-member-test.true seen
          (Holds c.put_value.new.seen) c.loop-member.invariant.seen
          c.in_ok-put_value.ensures.seen;
      puts = puts_next (ToldValueAt c.args.graph.now c.args.kind ms) i c.args.events.now.items c.loop-member.events.items
          c.put_value.new.events.items c.loop-member.invariant.puts
          (told_here c.args.graph.now c.args.kind ms i 0 c.loop-member-test.true seen c.loop-member.invariant.seen
          c.loop-member.events.items
          c.put_value.new.events.items c.in_ok-put_value.ensures.told);
    }

pub returns : goal.returns
returns c =
    let all : c.loop-member.member-index ≡ length c.args.members.now =
    omega (arith, c.loop-member-test.false, c.loop-member.invariant.within) in
    subst (λ n. Puts (Below (ToldValueAt c.args.graph.now c.args.kind c.args.members.now) n) c.args.events.now.items
    c.loop-member.events.items) all
    c.loop-member.invariant.puts
