use Rattle.std.proofs.Common.{subst, sym}
use Rattle.sm_value_rules.specs.Marking.{AreCheckedMarks}
use Rattle.sm_value_rules.proofs.defaults.put_defaults.Goals as goal

pub put_by_marks-requires : goal.put_by_marks-requires
put_by_marks-requires c = subst (AreCheckedMarks c.args.graph.now) (sym c.as_slice.ensures.value) c.requires.are_checked
