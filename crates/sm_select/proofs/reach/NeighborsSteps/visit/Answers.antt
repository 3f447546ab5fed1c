use Rattle.std.proofs.Common.{◌<◌, subst, sym}
use Rattle.std.specs.List.{Contains}
use Rattle.std.proofs.lemmas.Result.{on_ok_weaker}
use Rattle.sm_model.specs.Reaching.{Finds}
use Rattle.sm_select.proofs.reach.NeighborsSteps.visit.Goals as goal

pub mark_all-requires-clause-within : goal.mark_all-requires-clause-within
mark_all-requires-clause-within c k h =
    subst (λ n. k < n) (sym c.requires.marks) (c.requires.steps c.args.number k (subst (λ xs. Contains xs k) c.row.ensures h))

pub returns : goal.returns
returns c =
    on_ok_weaker c.mark_all.result
    (subst (λ xs. Finds (Contains xs) c.args.marks.now.items c.args.found.now.items c.mark_all.new.marks.items
    c.mark_all.new.found.items) c.row.ensures)
    c.mark_all.ensures
