use Rattle.std.proofs.Common.{false, get_or, refl}
use Rattle.std.specs.Prelude.{not}
use Rattle.sm_model.specs.Reaching.{IsMarked, id_of_number}
use Rattle.sm_reference_rules.proofs.FiniteMoves.{open_is, open_nowhere}
use Rattle.sm_reference_rules.proofs.finite.is_open.Goals as goal

pub returns-in-Some : goal.returns-in-Some
returns-in-Some c =
    open_is c.args.graph.now c.args.marks.now (id_of_number c.args.graph.now c.args.member) c.in-Some.target c.in-Some.ensures.0
    c.in-Some.ensures.1 (not (get_or c.args.marks.now c.in-Some.target false)) refl

pub returns-in-None : goal.returns-in-None
returns-in-None c =
    open_nowhere c.args.graph.now (IsMarked c.args.marks.now) (id_of_number c.args.graph.now c.args.member) c.in-None.ensures
