use Rattle.std.proofs.Common.{◌<◌, get_or, sym, ap, subst, ◌∙◌}
use Rattle.std.specs.List.{AllByRecursion}
use Rattle.sm_shapes.specs.TableData.{member_count}
use Rattle.sm_excerpts.proofs.Extending.{members_there}
use Rattle.sm_bind.specs.BoundView.{bound_of}
use Rattle.sm_bind.specs.Roles.{bound_members}
use Rattle.sm_bind_read.specs.steps.Bodies.{PayloadGives, SomeGives, payload_place}
use Rattle.sm_bind_read.proofs.BodyGives.{one_there}
use Rattle.sm_bind_read.proofs.PayloadComes.{placed}
use Rattle.sm_bind_read.proofs.bodies.payload_coming.Goals as goal

pub some_payload-requires-clause-member : goal.some_payload-requires-clause-member
some_payload-requires-clause-member g c =
    let b = bound_of c.args.place.now in
    let ms = c.members-members.result.now in
    subst (λ k. k < member_count b.table) c.in-Some.ensures.1
    (one_there (λ k. k < member_count b.table) ms c.in-Some.found.0 (placed b ms c.in-Some.found.0 c.in-Some.ensures.0).0
    (subst (AllByRecursion (λ k. k < member_count b.table)) (sym c.members-members.ensures)
    (members_there b.table b.shape (bound_members b) (c.requires.shaped.members b.shape c.requires.shape))))

pub returns-in-Some-clause-gives : goal.returns-in-Some-clause-gives
returns-in-Some-clause-gives g c =
    let b = bound_of c.args.place.now in
    let test = g.P.Patterns.test in
    let n = c.in-Some.found.0 in
    let r = c.some_payload.result in
    subst (λ o. PayloadGives b test o c.args.body r) (sym (ap (payload_place b) (sym c.members-members.ensures) ∙ c.in-Some.ensures.0))
    (subst (λ ks. SomeGives b.table test ks n (get_or ks n 0) c.args.body r) c.members-members.ensures
    (subst (λ k. SomeGives b.table test c.members-members.result.now n k c.args.body r) (sym c.in-Some.ensures.1) c.some_payload.ensures.gives))

pub returns-in-None-clause-gives : goal.returns-in-None-clause-gives
returns-in-None-clause-gives g c =
    let b = bound_of c.args.place.now in
    subst (λ o. PayloadGives b g.P.Patterns.test o c.args.body c.nothing.result)
    (sym (ap (payload_place b) (sym c.members-members.ensures) ∙ c.in-None.ensures)) c.nothing.ensures
