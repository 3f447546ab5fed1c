use Rattle.std.proofs.Common.{inl, inr, subst, sym, ◌∙◌}
use Rattle.sm_model.specs.Reaching.{IsMarked, id_of_number}
use Rattle.sm_model.proofs.Worklist.{apart, numbers_more}
use Rattle.sm_reference_rules.specs.steps.Finding.{Lacks}
use Rattle.sm_reference_rules.proofs.FiniteMoves.{closed_here, closed_none, shape_at}
use Rattle.sm_reference_rules.proofs.finite.some_closed.Goals as goal

pub is_closed-requires-clause-member : goal.is_closed-requires-clause-member
is_closed-requires-clause-member c =
    shape_at c.args.graph.now c.args.members.now c.requires.members c.loop-member.member-index c.loop-member-test.true

pub returns-then-is_closed : goal.returns-then-is_closed
returns-then-is_closed c =
    closed_here c.args.graph.now (IsMarked c.args.marks.now) c.args.members.now c.loop-member.member-index c.loop-member-test.true
    (λ lacks. apart (sym (c.is_closed.ensures.1 lacks) ∙ c.if-is_closed.true))

pub loop-member-preserved : goal.loop-member-preserved
loop-member-preserved c k among =
    elim ((numbers_more c.args.members.now c.loop-member.member-index c.loop-member-test.true k).1 among) [
      | inl before ↦ c.loop-member.invariant k before
      | inr is ↦
          subst (λ j. Lacks c.args.graph.now (IsMarked c.args.marks.now) (id_of_number c.args.graph.now j)) is
          (c.is_closed.ensures.0 c.if-is_closed.false)
    ]

pub returns : goal.returns
returns c =
    closed_none c.args.graph.now (IsMarked c.args.marks.now) c.args.members.now c.loop-member.member-index c.loop-member-test.false
    c.loop-member.invariant
