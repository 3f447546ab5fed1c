-- What suppresses the events of a rule is made for each that may be suppressed, and found by the ids of events.
use Rattle.std.proofs.Common.{◌≡◌, ◌<◌, ◌+◌, inl, inr, ℕ, Bool, true, false, List, [], ◌∷◌, ◌++◌, Option, Some, None, get_or, length, take}
use Rattle.std.proofs.Common.{bytes_eq, refl, sym, ap, ◌∙◌, subst}
use Rattle.std.specs.Prelude.{◌&&◌, not}
use Rattle.std.specs.List.{Contains}
use Rattle.std.proofs.lemmas.Bool.{true≢false}
use Rattle.std.proofs.lemmas.List.{take_more}
use Rattle.std.proofs.lemmas.List.Elements.{Contains-append_left, Contains-push, Contains-push_cases}
use Rattle.std.proofs.lemmas.Slice.Eq.{bytes_eq-Decides}
use Rattle.sm_model.specs.EventView.{EventTold}
use Rattle.sm_model.specs.GraphView.{maps_of}
use Rattle.sm_model.specs.declared.graph.Graph.{Graph}
use Rattle.sm_model.proofs.OneRising.{contains_none}
use Rattle.sm_rules.specs.RuleList.{all_rules, may_be_suppressed, rule_id, rule_named}
use Rattle.sm_rules.specs.declared.rule.Rule.{Rule}
use Rattle.sm_rules.proofs.AllRules.{each_listed, id_found, named}
use Rattle.sm_load.specs.Suppressions.{is_suppressed}
use Rattle.sm_load.specs.declared.suppressed.Suppressor.{Suppressor}
use Rattle.sm_load.specs.steps.Suppressing.{AreOfRules, AreSuppressors, HaveOnes, IsMade, IsSuppressor, MadeWhere, is_suppressible}
use Rattle.sm_load.specs.steps.Suppressing.{stays, suppressible_where}

-- they are made one after the other
pub none_made : (g : Graph) → AreOfRules g []
none_made g s h = absurd (contains_none s h)

pub no_rules : (ss : List Suppressor) → HaveOnes [] ss
no_rules ss r h may = absurd (contains_none r h)

more_made : (g : Graph) (ss : List Suppressor) (s : Suppressor) → AreOfRules g ss → IsSuppressor g s → may_be_suppressed s.rule ≡ true
    → AreOfRules g (ss ++ s ∷ [])
more_made g ss s are is may t h = elim (Contains-push_cases ss s t h) [
  | inl old ↦ are t old
  | inr new ↦ subst (λ x. IsSuppressor g x × (may_be_suppressed x.rule ≡ true)) new (is, may)
]

module _ (rules : List Rule) (i : ℕ) (d : Rule) (within : i < length rules) where
  abbrev r : Rule
  r = get_or rules i d

  parts : take (i + 1) rules ≡ take i rules ++ r ∷ []
  parts = take_more rules i d within

  -- a rule whose events are never suppressed has none
  rule_without : (ss : List Suppressor) → HaveOnes (take i rules) ss → may_be_suppressed r ≡ false → HaveOnes (take (i + 1) rules) ss
  rule_without ss have never x h may = elim (Contains-push_cases (take i rules) r x (subst (λ xs. Contains xs x) parts h)) [
    | inl old ↦ have x old may
    | inr new ↦ absurd (true≢false (sym may ∙ ap may_be_suppressed (sym new) ∙ never))
  ]

  -- any other has the one that is put behind those there
  rule_with : (ss : List Suppressor) (s : Suppressor) → HaveOnes (take i rules) ss → s.rule ≡ r
      → HaveOnes (take (i + 1) rules) (ss ++ s ∷ [])
  rule_with ss s have of x h may = elim (Contains-push_cases (take i rules) r x (subst (λ xs. Contains xs x) parts h)) [
    | inl old ↦ let one = have x old may in (one.0, Contains-append_left ss (s ∷ []) one.0 one.1, one.2)
    | inr new ↦ (s, Contains-push ss s, of ∙ new)
  ]

  pub made_next : (g : Graph) (old new : List Suppressor) → AreOfRules g old → HaveOnes (take i rules) old → IsMade g r old new
      → AreOfRules g new × HaveOnes (take (i + 1) rules) new
  made_next g old new are have made = by (may_be_suppressed r) refl made
    where
      by : (b : Bool) → may_be_suppressed r ≡ b → MadeWhere b g r old new → AreOfRules g new × HaveOnes (take (i + 1) rules) new
      by true may (s, now, good, of) =
          subst (λ ss. AreOfRules g ss × HaveOnes (take (i + 1) rules) ss) (sym now)
          (more_made g old s are good (ap may_be_suppressed of ∙ may), rule_with old s have of)
      by false never now =
          subst (λ ss. AreOfRules g ss × HaveOnes (take (i + 1) rules) ss) (sym now) (are, rule_without old have never)

pub all_made : (g : Graph) (ss : List Suppressor) → AreOfRules g ss → HaveOnes all_rules ss → AreSuppressors g ss
all_made g ss are have = record { each = are; all = λ r may. have r (each_listed r) may }

-- none of those before is of the event's rule
pub none_yet : (ss : List Suppressor) (i : ℕ) (x : Suppressor) (event id : List ℕ) (same : Bool) → i < length ss → x ≡ get_or ss i x
    → ((s : Suppressor) → Contains (take i ss) s → rule_id s.rule ≡ event → ⊥) → id ≡ rule_id x.rule → same ≡ bytes_eq id event
    → same ≡ false → (s : Suppressor) → Contains (take (i + 1) ss) s → rule_id s.rule ≡ event → ⊥
none_yet ss i x event id same within at none is eq other s h of =
    let parts : take (i + 1) ss ≡ take i ss ++ x ∷ [] = take_more ss i x within ∙ ap (λ y. take i ss ++ y ∷ []) (sym at) in
    elim (Contains-push_cases (take i ss) x s (subst (λ ys. Contains ys s) parts h)) [
      | inl old ↦ none s old of
      | inr new ↦
          let alike : id ≡ event = is ∙ ap (λ (y : Suppressor). rule_id y.rule) new ∙ of in
          true≢false (sym ((bytes_eq-Decides id event).1 alike) ∙ sym eq ∙ other)
    ]

-- whether an event stays, by what suppresses the events of its rule
module _ (g : Graph) (ss : List Suppressor) (are : AreSuppressors g ss) (e : EventTold) where
  pub stays_by : (s : Suppressor) → Contains ss s → rule_id s.rule ≡ e.event → (suppressed : Bool)
      → suppressed ≡ is_suppressed (maps_of g) e.shape (rule_id s.rule) → not suppressed ≡ stays (maps_of g) e
  stays_by s among of suppressed is =
      let here : is_suppressible e.event ≡ true =
      ap is_suppressible (sym of) ∙ ap suppressible_where (named s.rule) ∙ (are.each s among).1 in
      ap not (is ∙ ap (is_suppressed (maps_of g) e.shape) of)
      ∙ sym (ap (λ b. not (b && is_suppressed (maps_of g) e.shape e.event)) here)

  pub stays_without : ((s : Suppressor) → Contains ss s → rule_id s.rule ≡ e.event → ⊥) → true ≡ stays (maps_of g) e
  stays_without none = sym (ap (λ b. not (b && is_suppressed (maps_of g) e.shape e.event)) (never (rule_named e.event) refl))
    where
      by : (r : Rule) → rule_named e.event ≡ Some r → (b : Bool) → may_be_suppressed r ≡ b → b ≡ false
      by r found true may = let s = are.all r may in absurd (none s.0 s.1 (ap rule_id s.2 ∙ sym (id_found e.event r found)))
      by r found false may = refl

      never : (o : Option Rule) → rule_named e.event ≡ o → is_suppressible e.event ≡ false
      never None at = ap suppressible_where at
      never (Some r) at = ap suppressible_where at ∙ by r at (may_be_suppressed r) refl
