-- The one list: of what was put, without what is suppressed, in order.
use Rattle.std.proofs.Common.{◌≡◌, ◌⊎◌, inl, inr, Bool, true, false, cond, List, [], ◌∷◌, refl, sym, ap, ◌∙◌, subst}
use Rattle.std.specs.Prelude.{◌↔◌, ◌&&◌, not}
use Rattle.std.specs.List.{Contains, filter}
use Rattle.std.proofs.lemmas.Bool.{true≢false}
use Rattle.sm_model.specs.EventView.{EventTold, AreInOrder, event_view, events_view}
use Rattle.sm_model.specs.Graphs.{GraphMaps}
use Rattle.sm_model.specs.declared.event.ModelEvent.{ModelEvent}
use Rattle.sm_model.specs.declared.event.Severity.{Severity}
use Rattle.sm_model.specs.declared.event.Severity.TheVariants.{Danger, Error, Note, Warning}
use Rattle.sm_model.proofs.OneRising.{contains_behind, contains_either, contains_head, contains_none}
use Rattle.sm_rules.specs.RuleEvents.{HaveSeverities, Puts}
use Rattle.sm_rules.specs.RuleList.{is_error, rule_id, severity_of}
use Rattle.sm_rules.specs.declared.rule.Rule.{Rule}
use Rattle.sm_rules.proofs.AllRules.{named}
use Rattle.sm_load.specs.Events.{AreModelEvents, IsTold}
use Rattle.sm_load.specs.Suppressions.{is_suppressed}
use Rattle.sm_load.specs.steps.Passes.{IsOfRule}
use Rattle.sm_load.specs.steps.Suppressing.{is_suppressible, stays, suppressible_where}

-- what a filter leaves
module _ {X : Type 0} (test : X → Bool) where
  pub left_passes : (xs : List X) (x : X) → Contains (filter test xs) x → Contains xs x × (test x ≡ true)
  left_passes [] x h = absurd (contains_none x h)
  left_passes (y ∷ ys) x h = by (test y) refl (left_passes ys x) h
    where
      later : Contains ys x × (test x ≡ true) → Contains (y ∷ ys) x × (test x ≡ true)
      later r = (contains_behind y x ys r.0, r.1)

      by : (b : Bool) → test y ≡ b → (Contains (filter test ys) x → Contains ys x × (test x ≡ true))
          → Contains (cond b (y ∷ filter test ys) (filter test ys)) x → Contains (y ∷ ys) x × (test x ≡ true)
      by true is rest h = elim (contains_either y x (filter test ys) h) [
        | inl same ↦ (subst (Contains (y ∷ ys)) same (contains_head y ys), ap test (sym same) ∙ is)
        | inr more ↦ later (rest more)
      ]
      by false is rest h = later (rest h)

  pub passing_left : (xs : List X) (x : X) → Contains xs x → test x ≡ true → Contains (filter test xs) x
  passing_left [] x h passes = absurd (contains_none x h)
  passing_left (y ∷ ys) x h passes = elim (contains_either y x ys h) [
    | inl same ↦
        subst (λ b. Contains (cond b (y ∷ filter test ys) (filter test ys)) x) (sym (ap test same ∙ passes))
        (subst (Contains (y ∷ filter test ys)) same (contains_head y (filter test ys)))
    | inr more ↦ by (test y) (passing_left ys x more passes)
  ]
    where
      by : (b : Bool) → Contains (filter test ys) x → Contains (cond b (y ∷ filter test ys) (filter test ys)) x
      by true h = contains_behind y x (filter test ys) h
      by false h = h

-- a filter by what is seen of events
views_left : (test : EventTold → Bool) (es : List ModelEvent)
    → events_view (filter (λ e. test (event_view e)) es) ≡ filter test (events_view es)
views_left test [] = refl
views_left test (e ∷ es) = by (test (event_view e)) (views_left test es)
  where
    by : (b : Bool) → events_view (filter (λ f. test (event_view f)) es) ≡ filter test (events_view es)
        → events_view (cond b (e ∷ filter (λ f. test (event_view f)) es) (filter (λ f. test (event_view f)) es))
        ≡ cond b (event_view e ∷ filter test (events_view es)) (filter test (events_view es))
    by true h = ap (λ fs. event_view e ∷ fs) h
    by false h = h

-- events that may be suppressed are those for which no model is rejected
pub error_from : (s : Severity) → is_error s ≡ true → s ≡ Error
error_from Error h = refl
error_from Danger h = absurd (true≢false (sym h))
error_from Warning h = absurd (true≢false (sym h))
error_from Note h = absurd (true≢false (sym h))

grave : (r : Rule) → is_suppressible (rule_id r) ≡ not (is_error (severity_of r))
grave r = ap suppressible_where (named r)

module _ (g : GraphMaps) (r : Rule) (e : EventTold) (of : e.event ≡ rule_id r) where
  stays_as : stays g e ≡ not (not (is_error (severity_of r)) && is_suppressed g e.shape e.event)
  stays_as = ap (λ b. not (b && is_suppressed g e.shape e.event)) (ap is_suppressible of ∙ grave r)

  told_from : stays g e ≡ true → (severity_of r ≡ Error) ⊎ (is_suppressed g e.shape e.event ≡ false)
  told_from h = by (is_error (severity_of r)) (is_suppressed g e.shape e.event) refl refl (sym stays_as ∙ h)
    where
      by : (a b : Bool) → is_error (severity_of r) ≡ a → is_suppressed g e.shape e.event ≡ b → not (not a && b) ≡ true
          → (severity_of r ≡ Error) ⊎ (is_suppressed g e.shape e.event ≡ false)
      by true b is_grave is h = inl (error_from (severity_of r) is_grave)
      by false false is_grave is h = inr is
      by false true is_grave is h = absurd (true≢false (sym h))

  stays_from : (severity_of r ≡ Error) ⊎ (is_suppressed g e.shape e.event ≡ false) → stays g e ≡ true
  stays_from (inl is_grave) = stays_as ∙ ap (λ s. not (not (is_error s) && is_suppressed g e.shape e.event)) is_grave
  stays_from (inr is) = stays_as ∙ ap (λ b. not (not (is_error (severity_of r)) && b)) is ∙ by (is_error (severity_of r))
    where
      by : (a : Bool) → not (not a && false) ≡ true
      by true = refl
      by false = refl

module _ (g : GraphMaps) (put kept sorted : List ModelEvent) (puts : Puts (IsOfRule g) [] put)
    (left : kept ≡ filter (λ e. stays g (event_view e)) put)
    (same : (e : EventTold) → Contains (events_view kept) e ↔ Contains (events_view sorted) e)
    (among : (e : ModelEvent) → Contains sorted e → Contains kept e) where
  told_here : (e : EventTold) → Contains (filter (stays g) (events_view put)) e ↔ IsTold g e
  told_here e = (
    λ h.
        let it = left_passes (stays g) (events_view put) e h in
        of ((puts.told e).0 it.0) it.1,
    λ t.
        let h = t.1.fails in
        passing_left (stays g) (events_view put) e ((puts.told e).1 (inr (t.0, h)))
        (stays_from g t.0 e (ap (λ (x : EventTold). x.event) h.3) t.1.told),
  )
    where
      of : Contains (events_view []) e ⊎ IsOfRule g e → stays g e ≡ true → IsTold g e
      of (inl nothing) stays = absurd (contains_none e nothing)
      of (inr h) stays = (h.0, record { fails = h.1; told = told_from g h.0 e (ap (λ (x : EventTold). x.event) h.1.3) stays })

  all_here : (e : EventTold) → Contains (events_view kept) e ↔ IsTold g e
  all_here e = subst (λ es. Contains es e ↔ IsTold g e) (sym (ap events_view left ∙ views_left (stays g) put)) (told_here e)

  grave_each : HaveSeverities sorted
  grave_each e h =
      puts.severities (λ x k. absurd (contains_none x k)) e
      (left_passes (λ x. stays g (event_view x)) put e (subst (λ es. Contains es e) left (among e h))).0

  pub events_told : AreInOrder (events_view sorted) → AreModelEvents g sorted
  events_told order = record {
    events = record {
      in_order = order;
      all = λ e. (λ h. (all_here e).0 ((same e).1 h), λ t. (same e).0 ((all_here e).1 t));
    };
    severities = grave_each;
  }
