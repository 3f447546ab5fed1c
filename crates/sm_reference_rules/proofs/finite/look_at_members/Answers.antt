use Rattle.std.proofs.Common.{◌⊎◌, ◌+◌, [], get_or, subst, take}
use Rattle.std.proofs.lemmas.List.{take_all}
use Rattle.std.proofs.lemmas.List.Elements.{Contains-get_or}
use Rattle.sm_reference_rules.specs.steps.Finding.{IsHome, IsHomeOf, Moves}
use Rattle.sm_reference_rules.proofs.FiniteMoves.{homes_next, homes_none, moves_none, moves_same, moves_then}
use Rattle.sm_reference_rules.proofs.finite.look_at_members.Goals as goal

pub loop-member-init : goal.loop-member-init
loop-member-init c =
    moves_none c.args.graph.now (IsHomeOf c.args.graph.now c.args.back.now []) c.args.known.now c.requires.knows
    (λ k h. absurd (homes_none c.args.graph.now c.args.back.now k h))

pub look_at_homes-requires-clause-member : goal.look_at_homes-requires-clause-member
look_at_homes-requires-clause-member c =
    let ms = c.args.members.now in
    c.requires.members (get_or ms c.loop-member.member-index 0) (Contains-get_or ms c.loop-member.member-index 0 c.loop-member-test.true)

pub look_at_homes-requires-clause-knows : goal.look_at_homes-requires-clause-knows
look_at_homes-requires-clause-knows c = c.loop-member.invariant.knows

pub loop-member-preserved : goal.loop-member-preserved
loop-member-preserved c =
    let g = c.args.graph.now in
    let back = c.args.back.now in
    let ms = c.args.members.now in
    let i = c.loop-member.member-index in
    moves_same g (λ k. IsHomeOf g back (take i ms) k ⊎ IsHome g back (get_or ms i 0) k) (IsHomeOf g back (take (i + 1) ms)) c.args.known.now
    c.look_at_homes.new.known (homes_next g back ms i c.loop-member-test.true)
    (moves_then g (IsHomeOf g back (take i ms)) (IsHome g back (get_or ms i 0)) c.args.known.now c.loop-member.known
    c.look_at_homes.new.known c.loop-member.invariant c.in_ok-look_at_homes.ensures)

pub returns : goal.returns
returns c =
    subst (λ ms. Moves c.args.graph.now (IsHomeOf c.args.graph.now c.args.back.now ms) c.args.known.now c.loop-member.known)
    (take_all c.loop-member.member-index c.args.members.now c.loop-member-test.false) c.loop-member.invariant
