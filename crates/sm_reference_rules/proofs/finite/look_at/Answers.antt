use Rattle.std.proofs.Common.{◌≡◌, ◌<◌, false, length, refl, subst, sym, arith, ◌∙◌}
use Rattle.std.proofs.lemmas.List.{get_or_default}
use Rattle.sm_model.specs.Reaching.{IsMarked}
use Rattle.sm_reference_rules.specs.steps.Finding.{Sees}
use Rattle.sm_reference_rules.proofs.FiniteMoves.{marks_one, moves_none, stays}
use Rattle.sm_reference_rules.proofs.finite.look_at.Goals as goal

pub returns-then-index : goal.returns-then-index
returns-then-index c =
    let known = c.args.known.now in
    let lt : c.args.shape < length known.marks.items = omega (arith, c.requires.number, c.requires.knows.whole) in
    let is = get_or_default known.marks.items c.args.shape false c.index.result.now lt ∙ sym c.index.ensures ∙ c.if-index.true in
    moves_none c.args.graph.now (λ k. c.args.shape ≡ k) known c.requires.knows (λ k same. subst (IsMarked known.marks.items) same is)

pub returns-in_ok-mark : goal.returns-in_ok-mark
returns-in_ok-mark c =
    marks_one c.args.graph.now c.args.shape c.args.known.now c.is_seen.new.known _
    (subst (λ b. Sees c.args.graph.now c.args.shape c.args.known.now b c.is_seen.new.known) c.if-is_seen.true c.is_seen.ensures) refl
    c.in_ok-mark.ensures

pub returns-else-is_seen : goal.returns-else-is_seen
returns-else-is_seen c =
    stays c.args.graph.now c.args.shape c.args.known.now c.is_seen.new.known
    (subst (λ b. Sees c.args.graph.now c.args.shape c.args.known.now b c.is_seen.new.known) c.if-is_seen.false c.is_seen.ensures)
