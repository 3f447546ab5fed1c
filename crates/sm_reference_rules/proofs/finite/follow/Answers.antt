use Rattle.std.proofs.Common.{◌<◌, ◌≤◌, [], arith, get_or, length, subst, ◌∙◌}
use Rattle.std.specs.List.{Contains}
use Rattle.std.proofs.lemmas.List.{get_or_default}
use Rattle.sm_model.specs.GraphView.{entries_of}
use Rattle.sm_model.proofs.Worklist.{found_within}
use Rattle.sm_reference_rules.specs.steps.Finding.{IsUser, Moves}
use Rattle.sm_reference_rules.proofs.FiniteMoves.{stuck_less, waits_last, waits_next}
use Rattle.sm_reference_rules.proofs.FiniteTold.{user_there}
use Rattle.sm_reference_rules.proofs.finite.follow.Goals as goal

pub loop-at-init : goal.loop-at-init
loop-at-init c = record {
  knows = c.requires.knows;
  waits = λ k within fresh. stuck_less c.args.graph.now (Contains []) (λ i. ⊥) (λ i none. absurd (omega (arith, none.1))) k _
      (c.requires.waits k within fresh);
}

pub returns-then-at-len : goal.returns-then-at-len
returns-then-at-len c =
    let at = c.loop-at in
    let all : length at.known.found.items ≤ at.at = omega (arith, c.len.ensures, c.if-at-len.true) in
    record {
      knows = at.invariant.knows;
      waits = waits_last c.args.graph.now at.at at.known at.invariant.knows all at.invariant.waits;
    }

pub look_at_users-requires-clause-target : goal.look_at_users-requires-clause-target
look_at_users-requires-clause-target c =
    let at = c.loop-at in
    let lt : at.at < length at.known.found.items = omega (arith, c.len.ensures, c.if-at-len.false) in
    let is = c.index-target.ensures ∙ get_or_default at.known.found.items at.at c.index-target.result.now 0 lt in
    let below = found_within at.known.marks.items at.known.found.items at.at at.invariant.knows.are lt in
    omega (arith, is, below, at.invariant.knows.whole)

pub loop-at-preserved : goal.loop-at-preserved
loop-at-preserved c =
    let g = c.args.graph.now in
    let at = c.loop-at in
    let lt : at.at < length at.known.found.items = omega (arith, c.len.ensures, c.if-at-len.false) in
    let is = c.index-target.ensures ∙ get_or_default at.known.found.items at.at c.index-target.result.now 0 lt in
    let below = found_within at.known.marks.items at.known.found.items at.at at.invariant.knows.are lt in
    let small : get_or at.known.found.items at.at 0 < length (entries_of g) = omega (arith, below, at.invariant.knows.whole) in
    let moves = subst (λ t. Moves g (IsUser g c.args.back.now t) at.known c.look_at_users.new.known) is c.in_ok-look_at_users.ensures in
    record {
      knows = moves.knows;
      waits = waits_next g (IsUser g c.args.back.now (get_or at.known.found.items at.at 0)) at.at at.known c.look_at_users.new.known lt
          moves
          at.invariant.knows at.invariant.waits
          (λ k id within listed target. user_there g c.args.back.now c.requires.ways (get_or at.known.found.items at.at 0) k id small within
          listed target);
    }

pub returns : goal.returns
returns c =
    let at = c.loop-at in
    let all : length at.known.found.items ≤ at.at =
    omega (
      arith,
      c.len-at-end.ensures,
      c.loop-at-test.false,
      at.invariant.knows.are.few,
      at.invariant.knows.whole,
      c.requires.knows.whole,
    ) in
    record {
      knows = at.invariant.knows;
      waits = waits_last c.args.graph.now at.at at.known at.invariant.knows all at.invariant.waits;
    }
