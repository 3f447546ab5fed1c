use Rattle.sm_trait_rules.proofs.JudgedTraits.{shape_put}
use Rattle.sm_trait_rules.proofs.judged.put_shape.Goals as goal

pub returns : goal.returns
returns g c =
    shape_put (g.J.Judge.rule c.args.judge.now) (g.J.Judge.wrong c.args.judge.now) c.args.graph.now c.args.number c.args.kind
    c.members_of.result.now c.members_of.ensures.ids c.args.events.now.items c.put_judged.new.events.items
    c.put_members.new.events.items c.in_ok-put_judged.ensures c.in_ok-put_members.ensures
