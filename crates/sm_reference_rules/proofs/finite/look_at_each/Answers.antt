use Rattle.std.proofs.Common.{◌≡◌, ◌⊎◌, ◌+◌, [], arith, get_or, subst, take}
use Rattle.std.specs.List.{Contains}
use Rattle.std.proofs.lemmas.List.{take_all}
use Rattle.std.proofs.lemmas.List.Elements.{Contains-get_or}
use Rattle.sm_model.proofs.Worklist.{numbers_more}
use Rattle.sm_reference_rules.specs.steps.Finding.{Moves}
use Rattle.sm_reference_rules.proofs.FiniteMoves.{moves_none, moves_same, moves_then}
use Rattle.sm_reference_rules.proofs.finite.look_at_each.Goals as goal

pub loop-shape-init : goal.loop-shape-init
loop-shape-init c =
    moves_none c.args.graph.now (Contains []) c.args.known.now c.requires.knows (λ k h. absurd (omega (arith, h.1)))

pub look_at-requires-clause-number : goal.look_at-requires-clause-number
look_at-requires-clause-number c =
    let ks = c.args.shapes.now in
    c.requires.shapes (get_or ks c.loop-shape.shape-index 0) (Contains-get_or ks c.loop-shape.shape-index 0 c.loop-shape-test.true)

pub look_at-requires-clause-knows : goal.look_at-requires-clause-knows
look_at-requires-clause-knows c = c.loop-shape.invariant.knows

pub loop-shape-preserved : goal.loop-shape-preserved
loop-shape-preserved c =
    let g = c.args.graph.now in
    let ks = c.args.shapes.now in
    let i = c.loop-shape.shape-index in
    moves_same g (λ k. Contains (take i ks) k ⊎ (get_or ks i 0 ≡ k)) (Contains (take (i + 1) ks)) c.args.known.now c.look_at.new.known
    (λ k. (numbers_more ks i c.loop-shape-test.true k).1)
    (moves_then g (Contains (take i ks)) (λ k. get_or ks i 0 ≡ k) c.args.known.now c.loop-shape.known c.look_at.new.known
    c.loop-shape.invariant c.in_ok-look_at.ensures)

pub returns : goal.returns
returns c =
    subst (λ ks. Moves c.args.graph.now (Contains ks) c.args.known.now c.loop-shape.known)
    (take_all c.loop-shape.shape-index c.args.shapes.now c.loop-shape-test.false) c.loop-shape.invariant
