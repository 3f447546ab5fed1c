use Rattle.std.proofs.Common.{get_or, subst}
use Rattle.std.proofs.lemmas.List.{take_all}
use Rattle.std.proofs.lemmas.List.Elements.{Contains-get_or}
use Rattle.sm_model.specs.declared.link.Link.{Link}
use Rattle.sm_model.specs.declared.relation.Relation.TheVariants.{Member}
use Rattle.sm_rules.specs.RuleEvents.{Puts}
use Rattle.sm_passes.specs.Putting.{ToldOf}
use Rattle.sm_passes.proofs.ListPut.{none_of, put_place}
use Rattle.sm_http_rules.specs.steps.Labels.{ToldByLink}
use Rattle.sm_http_rules.proofs.labels.put_by_links.Goals as goal

abbrev nowhere : Link
nowhere = record { relation = Member; from = 0; to = 0 }

pub loop-link-init : goal.loop-link-init
loop-link-init c = none_of (ToldByLink c.args.graph.now) c.args.events.now.items

pub put_by_link-requires-clause-link : goal.put_by_link-requires-clause-link
put_by_link-requires-clause-link c =
    let ls = c.args.links.now in
    let i = c.loop-link.link-index in
    c.requires.links (get_or ls i nowhere) (Contains-get_or ls i nowhere c.loop-link-test.true)

pub loop-link-preserved : goal.loop-link-preserved
loop-link-preserved c =
    put_place (ToldByLink c.args.graph.now) c.args.links.now c.loop-link.link-index nowhere c.loop-link-test.true
    c.args.events.now.items c.loop-link.events.items c.put_by_link.new.events.items c.loop-link.invariant c.in_ok-put_by_link.ensures

pub returns : goal.returns
returns c =
    subst (λ ls. Puts (ToldOf (ToldByLink c.args.graph.now) ls) c.args.events.now.items c.loop-link.events.items)
    (take_all c.loop-link.link-index c.args.links.now c.loop-link-test.false) c.loop-link.invariant
