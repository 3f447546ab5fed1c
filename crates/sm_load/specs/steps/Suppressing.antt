-- What suppresses the events of a rule, as it is kept: namespaces, and marks of shapes and members.
use Rattle.std.specs.Prelude.{◌≡◌, ◌&&◌, ◌++◌, ◌∷◌, [], ℕ, Bool, true, false, not, List, Option, Some, None, length}
use Rattle.std.specs.List.{Contains}
use Rattle.sm_model.specs.EventView.{EventTold}
use Rattle.sm_model.specs.Graphs.{GraphMaps}
use Rattle.sm_model.specs.GraphView.{entries_of, maps_of}
use Rattle.sm_model.specs.Reaching.{AreMarks, id_of_number}
use Rattle.sm_model.specs.declared.graph.Graph.{Graph}
use Rattle.sm_merge.specs.steps.Known.{has_text}
use Rattle.sm_rules.specs.RuleList.{may_be_suppressed, rule_id, rule_named}
use Rattle.sm_rules.specs.declared.rule.Rule.{Rule}
use Rattle.sm_load.specs.Suppressions.{is_suppressed, is_suppressed_in, is_suppressed_there}
use Rattle.sm_load.specs.declared.suppressed.Suppressor.{Suppressor}

-- numbers at which the trait names the event
abbrev pub AreNamedThere : Graph → List ℕ → List Bool → Type 0
AreNamedThere g event marks =
    AreMarks (length (entries_of g)) (λ k. is_suppressed_there (maps_of g) (id_of_number g k) event ≡ true) marks

-- what suppresses the events of its rule
pub record IsSuppressor (g : Graph) (s : Suppressor) : Type 0 where
  pub namespaces : (namespace : List ℕ) → has_text s.namespaces namespace ≡ is_suppressed_in (maps_of g) namespace (rule_id s.rule)
  pub marks : AreNamedThere g (rule_id s.rule) s.marks.items

-- each is of a rule whose events may be suppressed
abbrev pub AreOfRules : Graph → List Suppressor → Type 0
AreOfRules g ss = (s : Suppressor) → Contains ss s → IsSuppressor g s × (may_be_suppressed s.rule ≡ true)

-- and each such rule of some has one
abbrev pub HaveOnes : List Rule → List Suppressor → Type 0
HaveOnes rules ss = (r : Rule) → Contains rules r → may_be_suppressed r ≡ true → (s : Suppressor) × Contains ss s × (s.rule ≡ r)

-- that of a rule is put behind those there, if its events may be suppressed
abbrev pub MadeWhere : Bool → Graph → Rule → List Suppressor → List Suppressor → Type 0
MadeWhere true g r old new = (s : Suppressor) × (new ≡ old ++ s ∷ []) × IsSuppressor g s × (s.rule ≡ r)
MadeWhere false g r old new = new ≡ old

abbrev pub IsMade : Graph → Rule → List Suppressor → List Suppressor → Type 0
IsMade g r old new = MadeWhere (may_be_suppressed r) g r old new

pub record AreSuppressors (g : Graph) (ss : List Suppressor) : Type 0 where
  pub each : AreOfRules g ss
  pub all : (r : Rule) → may_be_suppressed r ≡ true → (s : Suppressor) × Contains ss s × (s.rule ≡ r)

-- an event of a rule whose events may be suppressed
abbrev pub suppressible_where : Option Rule → Bool
suppressible_where None = false
suppressible_where (Some r) = may_be_suppressed r

abbrev pub is_suppressible : List ℕ → Bool
is_suppressible event = suppressible_where (rule_named event)

-- an event that isn't suppressed
abbrev pub stays : GraphMaps → EventTold → Bool
stays g e = not (is_suppressible e.event && is_suppressed g e.shape e.event)
