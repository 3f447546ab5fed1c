use Rattle.std.proofs.Common.{subst, sym}
use Rattle.std.specs.List.{Contains}
use Rattle.std.proofs.lemmas.List.{take_all}
use Rattle.std.proofs.lemmas.List.Elements.{Contains-get_or}
use Rattle.sm_model.specs.Reaching.{id_of_number}
use Rattle.sm_rules.specs.RuleEvents.{Puts}
use Rattle.sm_passes.specs.Firsts.{number_in}
use Rattle.sm_passes.specs.Putting.{ToldOf}
use Rattle.sm_passes.proofs.ListPut.{none_of, put_next}
use Rattle.sm_http_rules.specs.steps.Labels.{ToldMember}
use Rattle.sm_http_rules.proofs.label_told.put_bound.Goals as goal

pub loop-row-init : goal.loop-row-init
loop-row-init c = none_of (ToldMember c.args.graph.now (id_of_number c.args.graph.now c.args.operation) (number_in c.args.by_label.now)
    (number_in c.args.by_greedy.now)) c.args.events.now.items

pub loop-row-preserved : goal.loop-row-preserved
loop-row-preserved c =
    put_next (ToldMember c.args.graph.now (id_of_number c.args.graph.now c.args.operation) (number_in c.args.by_label.now)
    (number_in c.args.by_greedy.now)) c.args.bound.now
    c.loop-row.row-index c.row-item.result c.loop-row-test.true c.row-item.is c.args.events.now.items c.loop-row.events.items
    c.put_member.new.events.items c.loop-row.invariant c.in_ok-put_member.ensures

pub returns : goal.returns
returns c =
    subst (λ rs. Puts (ToldOf (ToldMember c.args.graph.now (id_of_number c.args.graph.now c.args.operation)
    (number_in c.args.by_label.now) (number_in c.args.by_greedy.now)) rs)
    c.args.events.now.items c.loop-row.events.items) (take_all c.loop-row.row-index c.args.bound.now c.loop-row-test.false)
    c.loop-row.invariant

pub put_member-requires-clause-member : goal.put_member-requires-clause-member
put_member-requires-clause-member c =
    let row = c.row-item.result in
    c.requires.members row
    (subst (Contains c.args.bound.now) (sym c.row-item.is) (Contains-get_or c.args.bound.now c.loop-row.row-index row c.loop-row-test.true))
