-- Events that are put, one by one and number by number.
use Rattle.std.proofs.Common.{◌≡◌, ◌⊎◌, ◌<◌, ◌≤◌, ◌+◌, inl, inr, ℕ, Bool, true, List, [], ◌∷◌, ◌++◌, refl, sym, ap, subst, ◌∙◌, arith}
use Rattle.std.specs.Prelude.{◌↔◌}
use Rattle.std.specs.List.{Contains}
use Rattle.std.proofs.lemmas.Bool.{cases_lt}
use Rattle.std.proofs.lemmas.List.Elements.{Contains-push_cases}
use Rattle.sm_model.specs.EventView.{EventTold, event_view, events_view}
use Rattle.sm_model.specs.declared.event.ModelEvent.{ModelEvent}
use Rattle.sm_model.specs.Joins.{Joins}
use Rattle.sm_model.proofs.Linking.{joins_both, joins_none, joins_one, joins_same}
use Rattle.sm_rules.specs.RuleEvents.{HasItsSeverity, Puts}
use Rattle.sm_passes.specs.Putting.{Below, IsWhere}

views_more : (es : List ModelEvent) (e : ModelEvent) → events_view (es ++ e ∷ []) ≡ events_view es ++ event_view e ∷ []
views_more [] e = refl
views_more (f ∷ es) e = ap (λ ts. event_view f ∷ ts) (views_more es e)

-- one event behind others
pub put_one : (before now : List ModelEvent) (e : ModelEvent) (told : EventTold) → now ≡ before ++ e ∷ [] → event_view e ≡ told
    → HasItsSeverity e → Puts (λ x. x ≡ told) before now
put_one before now e told is seen grave = record {
  told = subst (λ t. Joins (Contains (events_view before)) (λ x. x ≡ t) (Contains (events_view now))) seen
      (subst (λ es. Joins (Contains (events_view before)) (λ x. x ≡ event_view e) (Contains es))
      (sym (ap events_view is ∙ views_more before e)) (joins_one (event_view e) (events_view before)));
  severities = λ h x c. elim (Contains-push_cases before e x (subst (λ es. Contains es x) is c)) [
    | inl old ↦ h x old
    | inr same ↦ subst HasItsSeverity same grave
  ];
}

pub puts_none : (Told : EventTold → Type 0) (es : List ModelEvent) → ((e : EventTold) → Told e → ⊥) → Puts Told es es
puts_none Told es none = record {
  told = joins_none (Contains (events_view es)) Told none;
  severities = λ h. h;
}

-- in other words
pub puts_same : (Told Other : EventTold → Type 0) (before now : List ModelEvent) → ((e : EventTold) → Told e ↔ Other e)
    → Puts Told before now → Puts Other before now
puts_same Told Other before now same h = record {
  told = joins_same (Contains (events_view before)) Told Other (Contains (events_view now)) same h.told;
  severities = h.severities;
}

-- these, and then those
pub puts_both : (Told Other : EventTold → Type 0) (before mid now : List ModelEvent) → Puts Told before mid → Puts Other mid now
    → Puts (λ e. Told e ⊎ Other e) before now
puts_both Told Other before mid now h k = record {
  told = joins_both (Contains (events_view before)) Told (Contains (events_view mid)) Other (Contains (events_view now)) h.told k.told;
  severities = λ s. k.severities (h.severities s);
}

-- and then the same events each once
pub puts_kept : (Told : EventTold → Type 0) (before mid now : List ModelEvent)
    → ((e : EventTold) → Contains (events_view mid) e ↔ Contains (events_view now) e)
    → ((e : ModelEvent) → Contains now e → Contains mid e) → Puts Told before mid → Puts Told before now
puts_kept Told before mid now same kept h = record {
  told = λ e. (λ there. (h.told e).0 ((same e).1 there), λ told. (same e).0 ((h.told e).1 told));
  severities = λ s e there. h.severities s e (kept e there);
}

-- one where a test passes
pub puts_where : (test : Bool) (told : EventTold) (before now : List ModelEvent) → test ≡ true → Puts (λ x. x ≡ told) before now
    → Puts (IsWhere test told) before now
puts_where test told before now passes h = puts_same _ (IsWhere test told) before now (λ e. (λ is. (passes, is), λ w. w.1)) h

-- number by number
pub puts_begun : (Told : ℕ → EventTold → Type 0) (es : List ModelEvent) → Puts (Below Told 0) es es
puts_begun Told es = puts_none (Below Told 0) es (λ e h. let small = h.1 in absurd (omega (arith, small)))

below_next : (Told : ℕ → EventTold → Type 0) (n : ℕ) (e : EventTold) → (Below Told n e ⊎ Told n e) ↔ Below Told (n + 1) e
below_next Told n e = (
  λ h. elim h [
    | inl b ↦ let small = b.1 in (b.0, omega (arith, small), b.2)
    | inr last ↦ (n, omega arith, last)
  ],
  λ b. by_order b.0 b.2 b.1 (cases_lt b.0 n),
)
  where
    by_order : (k : ℕ) → Told k e → k < n + 1 → (k < n) ⊎ (n ≤ k) → Below Told n e ⊎ Told n e
    by_order k t small (inl less) = inl (k, less, t)
    by_order k t small (inr more) = let is : k ≡ n = omega (arith, small, more) in inr (subst (λ j. Told j e) is t)

pub puts_next : (Told : ℕ → EventTold → Type 0) (n : ℕ) (before mid now : List ModelEvent) → Puts (Below Told n) before mid
    → Puts (Told n) mid now → Puts (Below Told (n + 1)) before now
puts_next Told n before mid now h k =
    puts_same (λ e. Below Told n e ⊎ Told n e) (Below Told (n + 1)) before now (below_next Told n)
    (puts_both (Below Told n) (Told n) before mid now h k)
