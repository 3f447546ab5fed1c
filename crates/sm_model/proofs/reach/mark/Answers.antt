use Rattle.std.proofs.Common.{◌≡◌, false, subst, sym, true, ◌∙◌}
use Rattle.std.specs.Prelude.{slice_set}
use Rattle.sm_model.specs.Reaching.{Finds}
use Rattle.std.proofs.lemmas.List.{get_or_default}
use Rattle.sm_model.proofs.Worklist.{mark_known, mark_new}
use Rattle.sm_model.proofs.reach.mark.Goals as goal

pub returns-then-index : goal.returns-then-index
returns-then-index c = mark_known c.args.marks.now.items c.args.found.now.items c.args.number c.requires.are
    (get_or_default c.args.marks.now.items c.args.number false c.index.result.now c.requires.within ∙ sym c.index.ensures ∙ c.if-index.true)

pub returns : goal.returns
returns c =
    subst (Finds (λ k. c.args.number ≡ k) c.args.marks.now.items c.args.found.now.items
    (slice_set c.args.marks.now.items c.args.number true))
    (sym c.in_ok-push.ensures.items)
    (mark_new c.args.marks.now.items c.args.found.now.items c.args.number c.requires.within c.requires.are
    (get_or_default c.args.marks.now.items c.args.number false c.index.result.now c.requires.within ∙ sym c.index.ensures
    ∙ c.if-index.false))
