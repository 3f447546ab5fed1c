use Rattle.sm_bind.specs.BindingsView.{parts_data}
use Rattle.sm_bind.specs.BoundView.{bound_of}
use Rattle.sm_bind_read.proofs.MapMembers.{members_are}
use Rattle.sm_bind_read.proofs.joining.join_parts.Goals as goal

pub joined-requires-clause-members : goal.joined-requires-clause-members
joined-requires-clause-members g c = members_are (bound_of c.args.place.now) c.requires.targets c.requires.shaped c.requires.shape

pub returns-in-Ok-clause-joins : goal.returns-in-Ok-clause-joins
returns-in-Ok-clause-joins g c = λ content h. c.joined.ensures.joins content (c.body_coming-coming.ensures.comes (parts_data c.args.parts.now) content h)
