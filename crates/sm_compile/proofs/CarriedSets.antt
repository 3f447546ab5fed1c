-- The patterns that marked numbers carry are those of the set that is marked.
use Rattle.std.proofs.Common.{◌≡◌, inl, inr, ℕ, ◌<◌, ◌≤◌, Bool, List, [], ◌∷◌, ◌++◌, map, length, sym, ap, ◌∙◌, subst, arith}
use Rattle.std.specs.Prelude.{cond}
use Rattle.std.specs.Cmp.{tied_itself}
use Rattle.std.specs.Cmp.Lexicographic.{nat_list_cmp_total}
use Rattle.std.specs.Ordering.{is_gt}
use Rattle.std.specs.declared.cmp.Ordering.{Ordering}
use Rattle.std.specs.declared.cmp.Ordering.TheVariants.{Equal, Greater, Less}
use Rattle.std.proofs.lemmas.Bool.{cases_eq, cases_lt}
use Rattle.std.proofs.lemmas.List.{map-append}
use Rattle.sm_model.specs.Graphs.{Entry, GraphMaps, shape_entry, member_entry, text_cmp}
use Rattle.sm_model.specs.GraphView.{IsShapeNumber, entries_of, maps_of}
use Rattle.sm_model.specs.Reaching.{AreMarks, id_of_number}
use Rattle.sm_model.specs.Relations.{HasEntry}
use Rattle.sm_model.specs.declared.graph.Graph.{Graph}
use Rattle.sm_model.proofs.NumberedIds.{number_of}
use Rattle.sm_compile.specs.Answers.{IsPatternOfSetRefused, StoreSeen}
use Rattle.sm_compile.specs.Compiled.{ArePatternsOf, CarriesPattern, EachSays, IsFirstCarrier, PatternRows, texts_of}
use Rattle.sm_compile.specs.declared.patterns.CarriedTexts.{CarriedTexts}
use Rattle.sm_compile.specs.steps.Carrying.{AreCarried, AreFirstAt, IsFirstAt, carriers_of, rows_in, texts_in}
use Rattle.sm_compile.specs.steps.Storing.{IsRefusedAmong}
use Rattle.sm_compile.proofs.CarriedPatterns.{carries_told}
use Rattle.sm_compile.proofs.TabledShapes.{ids_rise}

-- what carries a pattern is in the graph
pub carrier_there : (g : GraphMaps) (id u : List ℕ) → CarriesPattern g id u → (e : Entry) × HasEntry g id e
carrier_there g id u (inl s) = (shape_entry s.0, s.1)
carrier_there g id u (inr m) = (member_entry m.0, m.2)

pub not_greater : (r : Ordering) → r ≡ Less → r ≡ Greater → ⊥
not_greater r h k = subst (λ x. cond (is_gt x) ⊥ (Unit {0})) (sym h ∙ k) tt

pub not_tied : (r : Ordering) → r ≡ Equal → r ≡ Greater → ⊥
not_tied r h k = subst (λ x. cond (is_gt x) ⊥ (Unit {0})) (sym h ∙ k) tt

module _ (g : Graph) (marks : List Bool) (In : List ℕ → Type 0)
    (are : AreMarks (length (entries_of g)) (λ k. In (id_of_number g k)) marks) where
  -- a greater id stands at a greater number
  before_it : (j k : ℕ) → IsShapeNumber g j → text_cmp (id_of_number g k) (id_of_number g j) ≡ Greater → j < k
  before_it j k lt h = elim (cases_lt j k) [
    | inl less ↦ less
    | inr ge ↦ elim (cases_eq j k) [
      | inl same ↦
          absurd (not_tied (text_cmp (id_of_number g k) (id_of_number g j))
          (ap (λ i. text_cmp (id_of_number g k) (id_of_number g i)) same ∙ tied_itself nat_list_cmp_total (id_of_number g k)) h)
      | inr other ↦ absurd (not_greater (text_cmp (id_of_number g k) (id_of_number g j)) (ids_rise g k j (above ge other) lt) h)
    ]
  ]
    where
      above : k ≤ j → (j ≡ k → ⊥) → k < j
      above ge other = elim (cases_lt k j) [ inl less ↦ less | inr le ↦ absurd (other (omega (arith, ge, le))) ]

  pub first_carrier : (u : List ℕ) (k : ℕ) → IsFirstAt g marks u k → IsFirstCarrier (maps_of g) In u (id_of_number g k)
  first_carrier u k h = record {
    carries = (((are.marked k).0 h.carries.0).1, (carries_told (maps_of g) (id_of_number g k) u).0 h.carries.1);
    least = λ other c greater.
        let x = number_of g other (carrier_there (maps_of g) other u c.1) in
        let marked = (are.marked x.0).1 (x.1, subst In (sym x.2) c.0) in
        h.least x.0 (before_it x.0 k x.1 (subst (λ i. text_cmp (id_of_number g k) i ≡ Greater) (sym x.2) greater))
        (marked, (carries_told (maps_of g) (id_of_number g x.0) u).1 (subst (λ i. CarriesPattern (maps_of g) i u) (sym x.2) c.1));
  }

  firsts_carry : (rs : PatternRows) → AreFirstAt g marks rs
      → EachSays (λ u id. IsFirstCarrier (maps_of g) In u id) (texts_of rs) (map (id_of_number g) (carriers_of rs))
  firsts_carry [] h = tt
  firsts_carry (r ∷ rs) h = (first_carrier r.1 r.0 h.0, firsts_carry rs h.1)

  pub carried_patterns : (c : CarriedTexts) → AreCarried g marks c → ArePatternsOf (maps_of g) In (texts_in c)
  carried_patterns c h = record {
    firsts = map (id_of_number g) (carriers_of (rows_in c));
    each = firsts_carry (rows_in c) h.rows.first;
    rise = h.rows.rise;
    all = λ u id k.
        let x = number_of g id (carrier_there (maps_of g) id u k.1) in
        h.rows.all x.0 u x.1 (
          (are.marked x.0).1 (x.1, subst In (sym x.2) k.0),
          (carries_told (maps_of g) (id_of_number g x.0) u).1 (subst (λ i. CarriesPattern (maps_of g) i u) (sym x.2) k.1),
        );
  }

first_among : (g : Graph) (marks : List Bool) (earlier later : PatternRows) (number : ℕ) (text : List ℕ)
    → AreFirstAt g marks (earlier ++ (number, text) ∷ later) → IsFirstAt g marks text number
first_among g marks [] later number text h = h.0
first_among g marks (r ∷ earlier) later number text h = first_among g marks earlier later number text h.1

-- a refused pattern is refused of the set
pub pattern_refused : (g : Graph) (marks : List Bool) (In : List ℕ → Type 0) (before now : StoreSeen) (id : List ℕ) (c : CarriedTexts)
    → AreMarks (length (entries_of g)) (λ k. In (id_of_number g k)) marks → AreCarried g marks c
    → IsRefusedAmong g (rows_in c) before now id → IsPatternOfSetRefused (maps_of g) In before now id
pattern_refused g marks In before now id c are h r =
    let parts : texts_in c ≡ texts_of r.earlier ++ r.text ∷ texts_of r.later =
    ap texts_of r.parts ∙ map-append (λ p. p.1) r.earlier ((r.number, r.text) ∷ r.later) in
    record {
      text = r.text;
      earlier = texts_of r.earlier;
      later = texts_of r.later;
      patterns = subst (ArePatternsOf (maps_of g) In) parts (carried_patterns g marks In are c h);
      added = r.added;
      refused = r.refused;
      refusals = r.refusals;
      carrier = subst (IsFirstCarrier (maps_of g) In r.text) (sym r.carrier)
          (first_carrier g marks In are r.text r.number
          (first_among g marks r.earlier r.later r.number r.text (subst (AreFirstAt g marks) r.parts h.rows.first)));
    }
