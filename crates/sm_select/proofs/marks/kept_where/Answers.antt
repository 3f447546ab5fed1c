use Rattle.std.proofs.Common.{◌≡◌, ◌+◌, ℕ, false, get_or, subst, sym}
use Rattle.sm_model.specs.Reaching.{AreMarks, IsMarked}
use Rattle.sm_select.proofs.MarkedNumbers.{marks_more, marks_none}
use Rattle.sm_select.proofs.marks.kept_where.Goals as goal

pub loop-number-init : goal.loop-number-init
loop-number-init c =
    let Holds : ℕ → Type 0 = λ k. IsMarked c.args.starts.now k × (get_or c.args.marks.now k false ≡ c.args.marked) in
    subst (AreMarks 0 Holds) (sym c.in_ok-kept.ensures.items) (marks_none Holds)

pub loop-number-preserved : goal.loop-number-preserved
loop-number-preserved c =
    let at = c.loop-number in
    let Holds : ℕ → Type 0 = λ k. IsMarked c.args.starts.now k × (get_or c.args.marks.now k false ≡ c.args.marked) in
    subst (AreMarks (at.number + 1) Holds) (sym c.in_ok-push.ensures.items)
    (marks_more Holds at.number at.kept.items c.is_marked_so.result at.invariant c.is_marked_so.ensures)
