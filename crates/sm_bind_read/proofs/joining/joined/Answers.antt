use Rattle.std.proofs.Common.{[], sym, ap, subst, ◌∙◌}
use Rattle.std.specs.List.{AllByRecursion}
use Rattle.std.specs.Prelude.{Ok}
use Rattle.sm_bind.specs.BindingsView.{parts_data}
use Rattle.sm_bind.specs.BoundView.{bound_of}
use Rattle.sm_bind_read.specs.steps.Bodies.{ComingIs}
use Rattle.sm_bind_read.specs.steps.Coming.{FaultComes, IsMemberOf, PendingComes, came_of}
use Rattle.sm_codec.specs.FrameView.{fault_at}
use Rattle.sm_bind_read.proofs.MembersJoined.{whole_bad, whole_fault, whole_good}
use Rattle.sm_bind_read.proofs.joining.joined.Goals as goal

pub each_field-requires-clause-members : goal.each_field-requires-clause-members
each_field-requires-clause-members g c =
    subst (AllByRecursion (IsMemberOf (bound_of c.args.place.now))) (sym c.members-members.ensures) c.requires.members

pub first_fault-requires-clause-members : goal.first_fault-requires-clause-members
first_fault-requires-clause-members g c =
    subst (AllByRecursion (IsMemberOf (bound_of c.args.place.now))) (sym c.members-members.ensures) c.requires.members

pub returns-in-Ok-clause-joins : goal.returns-in-Ok-clause-joins
returns-in-Ok-clause-joins g c = λ content h.
    let b = bound_of c.args.place.now in
    let test = g.P.Patterns.test in
    let parts = parts_data c.args.parts.now in
    let ms = c.members-members.result.now in
    let comes = subst (ComingIs b test parts content) c.in-Fields.is h in
    whole_good b test parts content ms c.in-Ok.fields comes.0 c.members-members.ensures
    (c.in-Ok.ensures.joins content
    (subst (λ ks. PendingComes b (came_of b test parts content) ks c.in-Fields.pending) (sym c.members-members.ensures) comes.1))
    ∙ ap Ok (sym c.structure_of.ensures)

pub returns-in-Err-clause-joins : goal.returns-in-Err-clause-joins
returns-in-Err-clause-joins g c = λ content h.
    let b = bound_of c.args.place.now in
    let test = g.P.Patterns.test in
    let parts = parts_data c.args.parts.now in
    let ms = c.members-members.result.now in
    let comes = subst (ComingIs b test parts content) c.in-Fields.is h in
    whole_bad b test parts content ms c.in-Err.refusal comes.0 c.members-members.ensures
    (c.in-Err.ensures.joins content
    (subst (λ ks. PendingComes b (came_of b test parts content) ks c.in-Fields.pending) (sym c.members-members.ensures) comes.1))

pub returns-in-Fault-clause-joins : goal.returns-in-Fault-clause-joins
returns-in-Fault-clause-joins g c = λ content h.
    let b = bound_of c.args.place.now in
    let test = g.P.Patterns.test in
    let parts = parts_data c.args.parts.now in
    let ms = c.members-members.result.now in
    let comes = subst (ComingIs b test parts content) c.in-Fault.is h in
    whole_fault b test parts content ms c.first_fault.result comes.0 c.members-members.ensures
    (c.first_fault.ensures.joins content
    (subst (FaultComes b (came_of b test parts content) (fault_at c.in-Fault.fault)) (sym c.members-members.ensures) comes.1))

pub returns-in-Alone-clause-joins : goal.returns-in-Alone-clause-joins
returns-in-Alone-clause-joins g c = λ content h.
    ([], subst (ComingIs (bound_of c.args.place.now) g.P.Patterns.test (parts_data c.args.parts.now) content) c.in-Alone.is h)
