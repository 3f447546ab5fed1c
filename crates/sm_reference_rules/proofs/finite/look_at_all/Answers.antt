use Rattle.std.proofs.Common.{◌≡◌, ◌⊎◌, ◌<◌, ◌+◌, length, subst, arith}
use Rattle.sm_model.specs.GraphView.{entries_of}
use Rattle.sm_reference_rules.specs.steps.Finding.{Moves}
use Rattle.sm_reference_rules.proofs.FiniteMoves.{moves_none, moves_same, moves_then, upto_next}
use Rattle.sm_reference_rules.proofs.finite.look_at_all.Goals as goal

pub loop-number-init : goal.loop-number-init
loop-number-init c = record {
  within = omega arith;
  moves = moves_none c.args.graph.now (λ k. k < 0) c.args.known.now c.requires (λ k small. absurd (omega (arith, small)));
}

pub look_at-requires-clause-knows : goal.look_at-requires-clause-knows
look_at-requires-clause-knows c = c.loop-number.invariant.moves.knows

pub loop-number-preserved : goal.loop-number-preserved
loop-number-preserved c =
    let n = c.loop-number.number in
    record {
      within = omega (arith, c.loop-number-test.true, c.count-number-end.ensures);
      moves = moves_same c.args.graph.now (λ k. (k < n) ⊎ (n ≡ k)) (λ k. k < n + 1) c.args.known.now c.look_at.new.known (upto_next n)
          (moves_then c.args.graph.now (λ k. k < n) (λ k. n ≡ k) c.args.known.now c.loop-number.known c.look_at.new.known
          c.loop-number.invariant.moves c.in_ok-look_at.ensures);
    }

pub returns : goal.returns
returns c =
    let all : c.loop-number.number ≡ length (entries_of c.args.graph.now) =
    omega (arith, c.loop-number-test.false, c.count-number-end.ensures, c.loop-number.invariant.within) in
    subst (λ n. Moves c.args.graph.now (λ k. k < n) c.args.known.now c.loop-number.known) all c.loop-number.invariant.moves
