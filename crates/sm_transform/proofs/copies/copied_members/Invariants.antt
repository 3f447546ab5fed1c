use Rattle.std.proofs.Common.{take}
use Rattle.sm_model.specs.GivenView.{members_given_view}
use Rattle.sm_transform.specs.steps.Copies.{AreMemberCopies}
use Rattle.sm_transform.proofs.copies.copied_members.Given as goal

abbrev pub invariant-loop-number : goal.invariant-loop-number
invariant-loop-number l = AreMemberCopies l.graph (take l.number-index l.numbers) (members_given_view l.members.items)
