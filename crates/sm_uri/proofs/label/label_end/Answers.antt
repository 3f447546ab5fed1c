use Rattle.std.proofs.Common.{◌≡◌, ◌∷◌, inl, inr, ℕ, List, sym, subst, refl, ◌∙◌}
use Rattle.sm_uri.proofs.UriCuts.{IsMarked, closing_goes_on, closing_none}
use Rattle.sm_uri.proofs.label.label_end.Goals as goal
use Rattle.sm_uri.proofs.label.label_end.Goals.{in-Some, in-None}

pub returns-else-may_end : goal.returns-else-may_end
returns-else-may_end c =
    let marked : IsMarked c.args.text.now c.match-strip.greedy.1.now = elim c.match-strip.branch [
      | in-Some w ↦ inl (subst (λ g. c.args.text.now ≡ 43 ∷ g.1.now) (sym w.greedy-is) w.in-Some.ensures)
      | in-None w ↦ inr (subst (λ g. (c.args.text.now ≡ g.1.now) × ((more : List ℕ) → c.args.text.now ≡ 43 ∷ more → ⊥)) (sym w.greedy-is)
          (refl, w.in-None.ensures))
    ] in
    closing_goes_on c.args.text.now c.match-strip.greedy.1.now c.in-Some-strip.behind.now marked c.in-Some-strip.ensures
    (sym c.may_end.ensures ∙ c.if-may_end.false)

pub returns-in-None-strip : goal.returns-in-None-strip
returns-in-None-strip c =
    let marked : IsMarked c.args.text.now c.match-strip.greedy.1.now = elim c.match-strip.branch [
      | in-Some w ↦ inl (subst (λ g. c.args.text.now ≡ 43 ∷ g.1.now) (sym w.greedy-is) w.in-Some.ensures)
      | in-None w ↦ inr (subst (λ g. (c.args.text.now ≡ g.1.now) × ((more : List ℕ) → c.args.text.now ≡ 43 ∷ more → ⊥)) (sym w.greedy-is)
          (refl, w.in-None.ensures))
    ] in
    closing_none c.args.text.now c.match-strip.greedy.1.now marked c.in-None-strip.ensures
