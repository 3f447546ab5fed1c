use Rattle.std.proofs.Common.{◌<◌, List, ℕ, subst, sym, ◌∙◌}
use Rattle.std.specs.List.{Contains}
use Rattle.std.proofs.lemmas.Result.{on_ok_weaker}
use Rattle.sm_model.proofs.Worklist.{apart}
use Rattle.sm_reference_rules.specs.steps.Finding.{IsHome}
use Rattle.sm_reference_rules.proofs.FiniteMoves.{moves_none, moves_same}
use Rattle.sm_reference_rules.proofs.finite.look_at_homes.Goals as goal

pub row-requires : goal.row-requires
row-requires c = subst (λ n. c.args.member < n) (sym c.requires.ways.whole) c.requires.member

pub look_at_each-requires-clause-shapes : goal.look_at_each-requires-clause-shapes
look_at_each-requires-clause-shapes c k among =
    ((c.requires.ways.steps c.args.member k).0 (subst (λ (ks : List ℕ). Contains ks k) c.row.ensures among)).1

pub returns-then-is_member : goal.returns-then-is_member
returns-then-is_member c =
    on_ok_weaker c.look_at_each.result
    (moves_same c.args.graph.now (Contains c.row.result.now) (IsHome c.args.graph.now c.args.back.now c.args.member) c.args.known.now
    c.look_at_each.new.known (λ k h. subst (λ (ks : List ℕ). Contains ks k) (sym c.row.ensures) h.1)) c.look_at_each.ensures

pub returns-else-is_member : goal.returns-else-is_member
returns-else-is_member c =
    moves_none c.args.graph.now (IsHome c.args.graph.now c.args.back.now c.args.member) c.args.known.now c.requires.knows
    (λ k h. absurd (apart (sym c.if-is_member.false ∙ c.is_member.ensures ∙ h.0)))
