use Rattle.std.proofs.Common.{subst, sym}
use Rattle.sm_model.specs.Links.{AreLinks}
use Rattle.sm_http_rules.specs.steps.LeftOut.{AreLeading}
use Rattle.sm_http_rules.proofs.bound_targets.put_bound_targets.Goals as goal

pub leading_to_left_out-requires : goal.leading_to_left_out-requires
leading_to_left_out-requires c = subst (AreLinks c.args.graph.now) (sym c.deref.ensures.value) c.requires.ways.are_links

pub put_by_marks-requires-clause-leading : goal.put_by_marks-requires-clause-leading
put_by_marks-requires-clause-leading c =
    subst (AreLeading c.args.graph.now) (sym c.as_slice.ensures.value) c.in_ok-leading.ensures
