use Rattle.std.proofs.Common.{subst}
use Rattle.std.proofs.lemmas.List.{take_all}
use Rattle.sm_model.specs.Reaching.{id_of_number}
use Rattle.sm_rules.specs.RuleEvents.{Puts}
use Rattle.sm_passes.specs.Firsts.{number_in}
use Rattle.sm_passes.specs.Putting.{ToldOf}
use Rattle.sm_passes.proofs.ListPut.{none_of, put_next}
use Rattle.sm_http_rules.specs.steps.Labels.{ToldLabel}
use Rattle.sm_http_rules.proofs.label_told.put_unbound.Goals as goal

pub loop-row-init : goal.loop-row-init
loop-row-init c = none_of (ToldLabel (id_of_number c.args.graph.now c.args.operation) (number_in c.args.by_member.now))
    c.args.events.now.items

pub loop-row-preserved : goal.loop-row-preserved
loop-row-preserved c =
    put_next (ToldLabel (id_of_number c.args.graph.now c.args.operation) (number_in c.args.by_member.now)) c.args.labels.now
    c.loop-row.row-index c.row-item.result c.loop-row-test.true c.row-item.is c.args.events.now.items c.loop-row.events.items
    c.put_label.new.events.items c.loop-row.invariant c.in_ok-put_label.ensures

pub returns : goal.returns
returns c =
    subst (λ rs. Puts (ToldOf (ToldLabel (id_of_number c.args.graph.now c.args.operation) (number_in c.args.by_member.now)) rs)
    c.args.events.now.items c.loop-row.events.items) (take_all c.loop-row.row-index c.args.labels.now c.loop-row-test.false)
    c.loop-row.invariant
