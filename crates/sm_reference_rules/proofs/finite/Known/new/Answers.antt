use Rattle.std.proofs.Common.{◌≡◌, List, ℕ, replicate, subst, sym, ◌∙◌}
use Rattle.sm_reference_rules.proofs.FiniteMoves.{knows_nothing}
use Rattle.sm_reference_rules.proofs.finite.Known.new.Goals as goal

pub returns : goal.returns
returns c =
    knows_nothing c.args.graph.now
    (record { marks = c.in_ok-marks.marks; found = c.new.result; places = c.in_ok-places.places })
    c.count.result c.in_ok-marks.ensures c.new.ensures.items
    (subst (λ n. ◌≡◌ {A = List ℕ} c.in_ok-places.places.items (replicate n 0))
    (c.count-2.ensures ∙ sym c.count.ensures) c.in_ok-places.ensures)
    c.count.ensures
