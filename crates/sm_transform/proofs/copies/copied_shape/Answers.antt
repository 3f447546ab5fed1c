use Rattle.sm_transform.proofs.CopiedShapes.{are_members, numbers_in}
use Rattle.sm_transform.proofs.copies.copied_shape.Goals as goal

pub copied_members-requires-clause-numbers : goal.copied_members-requires-clause-numbers
copied_members-requires-clause-numbers c = numbers_in c.args.graph.now c.members.result.now c.members.ensures.numbers

pub copied_members-requires-clause-are_members : goal.copied_members-requires-clause-are_members
copied_members-requires-clause-are_members c =
    are_members c.args.graph.now c.requires.formed c.args.number c.members.result.now c.requires.is_shape c.members.ensures.ids
    c.members.ensures.numbers
