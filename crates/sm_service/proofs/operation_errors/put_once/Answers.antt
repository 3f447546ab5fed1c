use Rattle.std.proofs.Common.{false, subst, sym, true, ◌∙◌}
use Rattle.std.specs.Prelude.{slice_set}
use Rattle.std.proofs.lemmas.List.{get_or_default}
use Rattle.sm_model.specs.Reaching.{AreFound}
use Rattle.sm_model.proofs.Worklist.{mark_new}
use Rattle.sm_service.proofs.operation_errors.put_once.Goals as goal

pub returns-clause-found : goal.returns-clause-found
returns-clause-found c =
    subst (AreFound (slice_set c.args.marks.now.items c.args.number true)) (sym c.in_ok-push.ensures.items)
    (mark_new c.args.marks.now.items c.args.numbers.now.items c.args.number c.requires.within c.requires.found
    (get_or_default c.args.marks.now.items c.args.number false c.index.result.now c.requires.within ∙ sym c.index.ensures
    ∙ c.if-index.false)).are
