use Rattle.sm_transform.proofs.CopiedShapes.{are_members, numbers_in}
use Rattle.sm_transform.proofs.changed_shapes.changed_shape.Goals as goal

pub changed_members-requires-clause-numbers : goal.changed_members-requires-clause-numbers
changed_members-requires-clause-numbers g c = numbers_in c.args.graph.now c.members.result.now c.members.ensures.numbers

pub changed_members-requires-clause-are_members : goal.changed_members-requires-clause-are_members
changed_members-requires-clause-are_members g c =
    are_members c.args.graph.now c.requires.formed c.args.number c.members.result.now c.requires.is_shape c.members.ensures.ids
    c.members.ensures.numbers
