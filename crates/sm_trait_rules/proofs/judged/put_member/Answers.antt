use Rattle.std.proofs.Common.{sym, ◌∙◌, subst}
use Rattle.sm_model.specs.GraphView.{maps_of}
use Rattle.sm_model.specs.Reaching.{id_of_number}
use Rattle.sm_rules.specs.RuleEvents.{Puts}
use Rattle.sm_passes.specs.declared.rows.place.Stand.TheVariants as stand
use Rattle.sm_trait_rules.specs.steps.Judging.{ToldTraits}
use Rattle.sm_trait_rules.proofs.JudgedTraits.{member_put, no_member_put}
use Rattle.sm_trait_rules.proofs.judged.put_member.Goals as goal

pub returns-else-is_own_member : goal.returns-else-is_own_member
returns-else-is_own_member g c =
    no_member_put (g.J.Judge.rule c.args.judge.now) (g.J.Judge.wrong c.args.judge.now) (maps_of c.args.graph.now)
    (id_of_number c.args.graph.now c.args.member) c.args.home (sym c.is_own_member.ensures ∙ c.if-is_own_member.false)
    c.args.events.now.items

pub returns-in_ok-put_judged : goal.returns-in_ok-put_judged
returns-in_ok-put_judged g c =
    let rule = g.J.Judge.rule c.args.judge.now in
    let wrong = g.J.Judge.wrong c.args.judge.now in
    let m = maps_of c.args.graph.now in
    let id = id_of_number c.args.graph.now c.args.member in
    member_put rule wrong m id c.args.home (sym c.is_own_member.ensures ∙ c.if-is_own_member.true) c.args.events.now.items
    c.put_judged.new.events.items
    (subst (λ b. Puts (ToldTraits rule wrong m id (stand.Member c.args.home b)) c.args.events.now.items c.put_judged.new.events.items)
    c.behind_of.ensures c.in_ok-put_judged.ensures)
