use Rattle.std.proofs.Common.{◌≡◌, ◌+◌, ◌∷◌, get_or, drop, subst}
use Rattle.std.proofs.lemmas.List.{drop_more, get_or_default, take_all}
use Rattle.sm_model.specs.GraphView.{AreShapeNumbers, maps_of}
use Rattle.sm_model.specs.Reaching.{id_of_number}
use Rattle.sm_rules.specs.RuleEvents.{Puts}
use Rattle.sm_passes.specs.Putting.{ToldOf}
use Rattle.sm_passes.proofs.ListPut.{none_of, put_next}
use Rattle.sm_value_rules.specs.steps.Defaulting.{ToldDefault}
use Rattle.sm_value_rules.proofs.defaults.put_of_members.Goals as goal

pub loop-member-init : goal.loop-member-init
loop-member-init c = record {
  numbers = c.requires.numbers;
  told = none_of (λ k. ToldDefault (maps_of c.args.graph.now) (id_of_number c.args.graph.now k)) c.args.events.now.items;
  nodes = c.requires.nodes;
}

pub loop-member-preserved : goal.loop-member-preserved
loop-member-preserved c =
    let at = c.loop-member in
    let ms = c.args.members.now in
    let i = at.member-index in
    let m = get_or ms i 0 in
    let parts : drop i ms ≡ m ∷ drop (i + 1) ms = drop_more ms i 0 c.loop-member-test.true in
    record {
      numbers = (subst (AreShapeNumbers c.args.graph.now) parts at.invariant.numbers).1;
      told = put_next (λ k. ToldDefault (maps_of c.args.graph.now) (id_of_number c.args.graph.now k)) ms i m c.loop-member-test.true
          (get_or_default ms i 0 m c.loop-member-test.true) c.args.events.now.items at.events.items c.put_of_member.new.events.items
          at.invariant.told c.in_ok-put_of_member.ensures.told;
      nodes = c.in_ok-put_of_member.ensures.nodes;
    }

pub returns-clause-told : goal.returns-clause-told
returns-clause-told c =
    subst (λ ks. Puts (ToldOf (λ k. ToldDefault (maps_of c.args.graph.now) (id_of_number c.args.graph.now k)) ks)
    c.args.events.now.items c.loop-member.events.items)
    (take_all c.loop-member.member-index c.args.members.now c.loop-member-test.false) c.loop-member.invariant.told
