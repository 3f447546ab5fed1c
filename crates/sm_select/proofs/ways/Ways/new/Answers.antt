use Rattle.std.proofs.Common.{subst, sym}
use Rattle.sm_model.specs.Links.{AreLinks}
use Rattle.sm_select.proofs.ways.Ways.new.Goals as goal

pub steps_of_links-requires : goal.steps_of_links-requires
steps_of_links-requires c = subst (AreLinks c.args.graph.now) (sym c.deref.ensures.value) c.in_ok-links.ensures

pub steps_of_links-requires-2 : goal.steps_of_links-requires-2
steps_of_links-requires-2 c = subst (AreLinks c.args.graph.now) (sym c.deref-2.ensures.value) c.in_ok-links.ensures
