use Rattle.sm_model.specs.declared.link.Link.{Link}
use Rattle.sm_model.specs.declared.relation.Relation.TheVariants.{Member}
use Rattle.sm_http_rules.specs.steps.LeftOut.{value_link}
use Rattle.sm_http_rules.proofs.Splits.{kept_next}
use Rattle.sm_http_rules.proofs.left_out.value_links.Goals as goal

abbrev nowhere : Link
nowhere = record { relation = Member; from = 0; to = 0 }

pub loop-link-preserved : goal.loop-link-preserved
loop-link-preserved c =
    kept_next value_link c.args.links.now c.loop-link.link-index nowhere c.loop-link-test.true c.loop-link.kept.items
    c.add_link.new.kept.items c.loop-link.invariant c.in_ok-add_link.ensures
