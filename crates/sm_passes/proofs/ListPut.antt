-- Events that are put for one element of a list after the other.
use Rattle.std.proofs.Common.{◌≡◌, ◌⊎◌, ◌<◌, ◌+◌, inl, inr, ℕ, List, [], ◌∷◌, ◌++◌, get_or, length, take, sym, ap, ◌∙◌, subst}
use Rattle.std.specs.Prelude.{◌↔◌}
use Rattle.std.proofs.lemmas.List.{take_more}
use Rattle.std.proofs.lemmas.List.Elements.{Contains-append_cases, Contains-append_left, Contains-append_right, Contains-push}
use Rattle.std.proofs.lemmas.List.Elements.{Contains-push_cases}
use Rattle.sm_model.specs.EventView.{EventTold}
use Rattle.sm_model.specs.declared.event.ModelEvent.{ModelEvent}
use Rattle.sm_model.proofs.OneRising.{contains_none}
use Rattle.sm_rules.specs.RuleEvents.{Puts}
use Rattle.sm_passes.specs.Putting.{ToldOf}
use Rattle.sm_passes.proofs.EventsPut.{puts_both, puts_none, puts_same}

module _ {X : Type 0} (Told : X → EventTold → Type 0) where
  pub none_of : (es : List ModelEvent) → Puts (ToldOf Told []) es es
  none_of es = puts_none (ToldOf Told []) es (λ e h. contains_none h.0 h.1)

  one_more : (xs : List X) (x : X) (e : EventTold) → (ToldOf Told xs e ⊎ Told x e) ↔ ToldOf Told (xs ++ x ∷ []) e
  one_more xs x e = (
    λ h. elim h [
      | inl old ↦ (old.0, Contains-append_left xs (x ∷ []) old.0 old.1, old.2)
      | inr last ↦ (x, Contains-push xs x, last)
    ],
    λ h. elim (Contains-push_cases xs x h.0 h.1) [
      | inl old ↦ inl (h.0, old, h.2)
      | inr same ↦ inr (subst (λ y. Told y e) (sym same) h.2)
    ],
  )

  -- of one more
  pub put_behind : (xs : List X) (x : X) (before mid now : List ModelEvent) → Puts (ToldOf Told xs) before mid → Puts (Told x) mid now
      → Puts (ToldOf Told (xs ++ x ∷ [])) before now
  put_behind xs x before mid now h k =
      puts_same (λ e. ToldOf Told xs e ⊎ Told x e) (ToldOf Told (xs ++ x ∷ [])) before now (one_more xs x)
      (puts_both (ToldOf Told xs) (Told x) before mid now h k)

  -- of the one at a place, where those before it are done
  pub put_next : (xs : List X) (i : ℕ) (x : X) → i < length xs → x ≡ get_or xs i x → (before mid now : List ModelEvent)
      → Puts (ToldOf Told (take i xs)) before mid → Puts (Told x) mid now → Puts (ToldOf Told (take (i + 1) xs)) before now
  put_next xs i x within is before mid now h k =
      let parts : take (i + 1) xs ≡ take i xs ++ x ∷ [] = take_more xs i x within ∙ ap (λ y. take i xs ++ y ∷ []) (sym is) in
      subst (λ ys. Puts (ToldOf Told ys) before now) (sym parts) (put_behind (take i xs) x before mid now h k)

  -- the same, where nothing else is known of it
  pub put_place : (xs : List X) (i : ℕ) (d : X) → i < length xs → (before mid now : List ModelEvent)
      → Puts (ToldOf Told (take i xs)) before mid
      → Puts (Told (get_or xs i d)) mid now → Puts (ToldOf Told (take (i + 1) xs)) before now
  put_place xs i d within before mid now h k =
      subst (λ ys. Puts (ToldOf Told ys) before now) (sym (take_more xs i d within))
      (put_behind (take i xs) (get_or xs i d) before mid now h k)

  both_lists : (xs ys : List X) (e : EventTold) → (ToldOf Told xs e ⊎ ToldOf Told ys e) ↔ ToldOf Told (xs ++ ys) e
  both_lists xs ys e = (
    λ h. elim h [
      | inl t ↦ (t.0, Contains-append_left xs ys t.0 t.1, t.2)
      | inr t ↦ (t.0, Contains-append_right xs ys t.0 t.1, t.2)
    ],
    λ t. elim (Contains-append_cases xs ys t.0 t.1) [ inl left ↦ inl (t.0, left, t.2) | inr right ↦ inr (t.0, right, t.2) ],
  )

  -- of one list and then of another
  pub put_joined : (xs ys : List X) (before mid now : List ModelEvent) → Puts (ToldOf Told xs) before mid → Puts (ToldOf Told ys) mid now
      → Puts (ToldOf Told (xs ++ ys)) before now
  put_joined xs ys before mid now h k =
      puts_same (λ e. ToldOf Told xs e ⊎ ToldOf Told ys e) (ToldOf Told (xs ++ ys)) before now (both_lists xs ys)
      (puts_both (ToldOf Told xs) (ToldOf Told ys) before mid now h k)
