use Rattle.std.proofs.Common.{subst, sym}
use Rattle.sm_value_rules.specs.Marking.{AreCheckedMarks}
use Rattle.sm_value_rules.specs.Used.{AreUsed}
use Rattle.sm_value_rules.proofs.values.put_faulty_values.Goals as goal

pub put_by_marks-requires-clause-checked : goal.put_by_marks-requires-clause-checked
put_by_marks-requires-clause-checked c = subst (AreCheckedMarks c.args.graph.now) (sym c.as_slice.ensures.value) c.requires.are_checked

pub put_by_marks-requires-clause-used : goal.put_by_marks-requires-clause-used
put_by_marks-requires-clause-used c = subst (AreUsed c.args.graph.now) (sym c.as_slice-2.ensures.value) c.requires.are_used
