use Rattle.std.proofs.Common.{subst, sym}
use Rattle.sm_model.specs.Links.{AreLinks}
use Rattle.sm_value_rules.proofs.value_marks.ValueMarks.new.Goals as goal

pub checked_shapes-requires : goal.checked_shapes-requires
checked_shapes-requires c = subst (AreLinks c.args.graph.now) (sym c.deref.ensures.value) c.requires.are_links
