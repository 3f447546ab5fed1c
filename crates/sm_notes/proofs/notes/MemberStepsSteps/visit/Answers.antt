use Rattle.std.proofs.Common.{◌≡◌, ◌<◌, subst, sym}
use Rattle.std.specs.List.{Contains}
use Rattle.std.proofs.lemmas.Result.{on_ok_weaker}
use Rattle.sm_model.proofs.Worklist.{finds_same}
use Rattle.sm_compile.specs.steps.Looked.{LeadsByNumber}
use Rattle.sm_compile.proofs.ReachedNumbers.{by_members, by_target, each_number}
use Rattle.sm_notes.proofs.notes.MemberStepsSteps.visit.Goals as goal

pub mark-requires-clause-within : goal.mark-requires-clause-within
mark-requires-clause-within c = subst (λ n. c.in-Some.target < n) (sym c.requires.marks) c.in-Some.ensures.0

pub returns-in-Some : goal.returns-in-Some
returns-in-Some c =
    let g = c.args.self.now.graph.now in
    on_ok_weaker c.mark.result
    (finds_same (λ k. c.in-Some.target ≡ k) (LeadsByNumber g c.args.number) c.args.marks.now.items c.args.found.now.items
    c.mark.new.marks.items c.mark.new.found.items
    (by_target g c.args.number c.in-Some.target c.requires.within c.in-Some.ensures.0 c.in-Some.ensures.1)) c.mark.ensures

pub mark_all-requires-clause-within : goal.mark_all-requires-clause-within
mark_all-requires-clause-within c k h =
    subst (λ n. k < n) (sym c.requires.marks)
    (each_number c.args.self.now.graph.now c.members_of.result.now c.members_of.ensures.numbers k h)

pub returns-in-None : goal.returns-in-None
returns-in-None c =
    let g = c.args.self.now.graph.now in
    on_ok_weaker c.mark_all.result
    (finds_same (Contains c.members_of.result.now) (LeadsByNumber g c.args.number) c.args.marks.now.items c.args.found.now.items
    c.mark_all.new.marks.items c.mark_all.new.found.items
    (by_members g c.args.number c.members_of.result.now c.requires.within c.members_of.ensures.numbers c.members_of.ensures.ids
    c.in-None.ensures)) c.mark_all.ensures
