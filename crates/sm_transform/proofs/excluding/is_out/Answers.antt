use Rattle.std.proofs.Common.{sym, ◌∙◌}
use Rattle.sm_transform.proofs.OutNumbers.{marked_at, marked_nowhere}
use Rattle.sm_transform.proofs.excluding.is_out.Goals as goal

pub returns-in-Some : goal.returns-in-Some
returns-in-Some c =
    c.mark_at.ensures ∙ sym (marked_at c.args.graph.now c.args.out.now c.in-Some.number c.args.id.now c.in-Some.ensures)

pub returns-in-None : goal.returns-in-None
returns-in-None c = sym (marked_nowhere c.args.graph.now c.args.out.now c.args.id.now c.in-None.ensures)
