-- What is told of each two rows with one first.
use Rattle.std.proofs.Common.{◌≡◌, ◌⊎◌, ◌<◌, inl, inr, ℕ, List, [], ◌∷◌, ◌++◌, Option, Some, refl, sym, ap, subst, ◌∙◌, arith}
use Rattle.std.specs.Prelude.{◌↔◌}
use Rattle.std.specs.List.{Contains}
use Rattle.std.proofs.lemmas.List.Elements.{Contains-append_left, Contains-push, Contains-push_cases}
use Rattle.sm_model.specs.EventView.{EventTold}
use Rattle.sm_model.specs.declared.event.ModelEvent.{ModelEvent}
use Rattle.sm_model.specs.declared.graph.Graph.{Graph}
use Rattle.sm_model.proofs.OneRising.{contains_none}
use Rattle.sm_rules.specs.RuleEvents.{Puts}
use Rattle.sm_passes.specs.Putting.{ToldOf}
use Rattle.sm_passes.proofs.EventsPut.{puts_both, puts_none, puts_same}
use Rattle.sm_http_rules.specs.steps.SameRoutes.{AreUnder, IsEitherTold, IsPairTold, ToldOfNumbers, ToldOfRows}

module _ (g : Graph) where
  pub no_pairs : (es : List ModelEvent) → Puts (ToldOfRows g []) es es
  no_pairs es = puts_none (ToldOfRows g []) es (λ e h. contains_none h.0 h.2)

  -- with one more, told with those of its first
  module _ (rows : List (ℕ × ℕ)) (x : ℕ × ℕ) (run : List (ℕ × ℕ))
      (are : (r : ℕ × ℕ) → Contains run r ↔ (Contains rows r × (r.0 ≡ x.0))) where
    abbrev ToldWith : EventTold → Type 0
    ToldWith = ToldOf (λ r. IsEitherTold g r.1 x.1) run

    forth : (e : EventTold) → ToldOfRows g rows e ⊎ ToldWith e → ToldOfRows g (rows ++ x ∷ []) e
    forth e (inl (r, s, at_r, at_s, same, told)) =
        (r, s, Contains-append_left rows (x ∷ []) r at_r, Contains-append_left rows (x ∷ []) s at_s, same, told)
    forth e (inr (r, at_r, inl told)) =
        let a = (are r).0 at_r in (r, x, Contains-append_left rows (x ∷ []) r a.0, Contains-push rows x, a.1, told)
    forth e (inr (r, at_r, inr told)) =
        let a = (are r).0 at_r in (x, r, Contains-push rows x, Contains-append_left rows (x ∷ []) r a.0, sym a.1, told)

    back : (e : EventTold) → ToldOfRows g (rows ++ x ∷ []) e → ToldOfRows g rows e ⊎ ToldWith e
    back e (r, s, at_r, at_s, same, told) = by (Contains-push_cases rows x r at_r) (Contains-push_cases rows x s at_s)
      where
        by : Contains rows r ⊎ (x ≡ r) → Contains rows s ⊎ (x ≡ s) → ToldOfRows g rows e ⊎ ToldWith e
        by (inl a) (inl b) = inl (r, s, a, b, same, told)
        by (inl a) (inr is) =
            inr (r, (are r).1 (a, same ∙ ap (λ t. t.0) (sym is)), inl (subst (λ t. IsPairTold g r.1 t.1 e) (sym is) told))
        by (inr is) (inl b) =
            inr (s, (are s).1 (b, sym same ∙ ap (λ t. t.0) (sym is)), inr (subst (λ t. IsPairTold g t.1 s.1 e) (sym is) told))
        by (inr is) (inr also) =
            let less = told.0 in let one : r.1 ≡ s.1 = ap (λ t. t.1) (sym is ∙ also) in absurd (omega (arith, less, one))

    pub pairs_next : (a b c : List ModelEvent) → Puts (ToldOfRows g rows) a b → Puts ToldWith b c
        → Puts (ToldOfRows g (rows ++ x ∷ [])) a c
    pairs_next a b c h k =
        puts_same (λ e. ToldOfRows g rows e ⊎ ToldWith e) (ToldOfRows g (rows ++ x ∷ [])) a c (λ e. (forth e, back e))
        (puts_both (ToldOfRows g rows) ToldWith a b c h k)

  -- where they are those of numbers
  pub numbers_told : (firsts : List (Option ℕ)) (ks : List ℕ) (rows : List (ℕ × ℕ)) → AreUnder firsts ks rows → (a b : List ModelEvent)
      → Puts (ToldOfRows g rows) a b → Puts (ToldOfNumbers g firsts ks) a b
  numbers_told firsts ks rows are a b h =
      puts_same (ToldOfRows g rows) (ToldOfNumbers g firsts ks) a b (λ e. (into e, from e)) h
    where
      into : (e : EventTold) → ToldOfRows g rows e → ToldOfNumbers g firsts ks e
      into e (r, s, at_r, at_s, same, told) =
          let x = (are r).0 at_r in
          let y = (are s).0 at_s in (r.1, s.1, r.0, x.0, y.0, x.1, y.1 ∙ ap (λ n. Some n) (sym same), told)

      from : (e : EventTold) → ToldOfNumbers g firsts ks e → ToldOfRows g rows e
      from e (j, k, first, at_j, at_k, is_j, is_k, told) =
          ((first, j), (first, k), (are (first, j)).1 (at_j, is_j), (are (first, k)).1 (at_k, is_k), refl, told)

  -- one is greater than the other, or they are one
  pub told_less : (j k : ℕ) → j < k → (a b : List ModelEvent) → Puts (IsPairTold g j k) a b → Puts (IsEitherTold g j k) a b
  told_less j k less a b h =
      puts_same (IsPairTold g j k) (IsEitherTold g j k) a b
      (λ e. (λ t. inl t, λ t. elim t [ inl here ↦ here | inr other ↦ (let more = other.0 in absurd (omega (arith, less, more))) ])) h

  pub told_more : (j k : ℕ) → k < j → (a b : List ModelEvent) → Puts (IsPairTold g k j) a b → Puts (IsEitherTold g j k) a b
  told_more j k more a b h =
      puts_same (IsPairTold g k j) (IsEitherTold g j k) a b
      (λ e. (λ t. inr t, λ t. elim t [ inl other ↦ (let less = other.0 in absurd (omega (arith, less, more))) | inr here ↦ here ])) h

  pub told_neither : (j k : ℕ) → (j < k → ⊥) → (k < j → ⊥) → (es : List ModelEvent) → Puts (IsEitherTold g j k) es es
  told_neither j k less more es =
      puts_none (IsEitherTold g j k) es (λ e t. elim t [ inl here ↦ less here.0 | inr other ↦ more other.0 ])
