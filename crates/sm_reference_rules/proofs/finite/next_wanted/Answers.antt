use Rattle.std.proofs.Common.{sym, ◌∙◌}
use Rattle.sm_model.specs.Reaching.{IsMarked}
use Rattle.sm_model.proofs.Worklist.{apart}
use Rattle.sm_reference_rules.proofs.FiniteMoves.{next_here, passed_more, shape_at}
use Rattle.sm_reference_rules.proofs.finite.next_wanted.Goals as goal

pub is_wanted-requires-clause-member : goal.is_wanted-requires-clause-member
is_wanted-requires-clause-member c =
    shape_at c.args.graph.now c.args.members.now c.requires.members c.loop-place.place c.loop-place-test.true

pub returns-then-is_wanted : goal.returns-then-is_wanted
returns-then-is_wanted c =
    next_here c.args.graph.now (IsMarked c.args.marks.now) c.args.members.now c.args.from c.loop-place.place c.loop-place-test.true
    c.loop-place.invariant (c.is_wanted.ensures.0 c.if-is_wanted.true)

pub loop-place-preserved : goal.loop-place-preserved
loop-place-preserved c =
    passed_more c.args.graph.now (IsMarked c.args.marks.now) c.args.members.now c.args.from c.loop-place.place c.loop-place-test.true
    c.loop-place.invariant (λ w. apart (sym c.if-is_wanted.false ∙ c.is_wanted.ensures.1 w))
