-- Steps between the numbers of a graph: those along links, those to the shapes of traits, and both together.
use Rattle.std.proofs.Common.{◌≡◌, ◌⊎◌, inl, inr, ℕ, ◌+◌, ◌<◌, suc, false, List, [], ◌∷◌, length, drop, Some, refl, sym, ap, ◌∙◌, subst}
use Rattle.std.proofs.Common.{arith}
use Rattle.std.specs.Prelude.{◌↔◌}
use Rattle.std.specs.FinMap as fin
use Rattle.std.specs.List.{Contains}
use Rattle.std.proofs.lemmas.Bool.{cases_lt}
use Rattle.std.proofs.lemmas.Option.{same_Some}
use Rattle.sm_tree.specs.Node.{Node}
use Rattle.sm_model.specs.Formed.{StandsAmong}
use Rattle.sm_model.specs.Given.{are_under}
use Rattle.sm_model.specs.Graphs.{Entry, traits_in}
use Rattle.sm_model.specs.GraphView.{At, IsShapeNumber, entries_of, maps_of}
use Rattle.sm_model.specs.Joins.{Joins}
use Rattle.sm_model.specs.Links.{AreLinks}
use Rattle.sm_model.specs.Reaching.{id_of_number}
use Rattle.sm_model.specs.Relations.{IsInGraph}
use Rattle.sm_model.specs.declared.graph.Graph.{Graph}
use Rattle.sm_model.specs.declared.link.Link.{Link}
use Rattle.sm_model.specs.declared.relation.Relation.TheVariants.{Container, Member}
use Rattle.sm_model.specs.steps.Linking.{Adds, AddsUpTo, RunsTo}
use Rattle.sm_model.proofs.GraphFacts.{entry_under, id_at}
use Rattle.sm_model.proofs.LinkFacts.{link_is, runs_either, runs_same}
use Rattle.sm_model.proofs.LinkNumbers.{at_from, at_opened, stands_at, within}
use Rattle.sm_model.proofs.LinkedEntries.{cons_cases, cons_here}
use Rattle.sm_model.proofs.Linking.{up_to_more, up_to_same}
use Rattle.sm_model.proofs.NumberedIds.{entry_here}
use Rattle.sm_select.specs.Neighbors.{AreBelow, AreNeighbors}
use Rattle.sm_transform.specs.Included.{CarriesTrait}
use Rattle.sm_transform.specs.steps.Steps.{AreLedBy, IsLedBy, IsNeeded, IsStepAlong, LeadBy, StepsToTraits, TraitSteps, TraitStepsBelow}
use Rattle.sm_transform.specs.steps.Steps.{step_between}
use Rattle.sm_transform.proofs.FoundEntries.{get_stands, key_found}

pub behind_head : {X : Type 0} (x : X) (xs : List X) (y : X) → Contains xs y → Contains (x ∷ xs) y
behind_head x xs y h = (suc h.0, omega (arith, h.1), h.2)

-- the id that is told of a number
pub id_told : (g : Graph) (k : ℕ) (id : List ℕ) → At g k (λ i e. id ≡ i) → id ≡ id_of_number g k
id_told g k id h = let o = at_opened g k (λ i e. id ≡ i) h in o.is ∙ sym (id_at g k o.id o.entry o.there)

-- along links, one after the other
pub along_either : (l : Link) (ls : List Link) (s : Link)
    → IsStepAlong (l ∷ ls) s ↔ ((s ≡ step_between l.from l.to) ⊎ IsStepAlong ls s)
along_either l ls s = (
  λ h. elim (cons_cases l ls h.0 h.1) [
    | inl is ↦ inl (h.2 ∙ ap (λ (x : Link). step_between x.from x.to) (sym is))
    | inr later ↦ inr (h.0, later, h.2)
  ],
  λ h. elim h [
    | inl here ↦ (l, cons_here l ls, here)
    | inr later ↦ (later.0, behind_head l ls later.0 later.1, later.2)
  ],
)

pub along_none : (s : Link) → IsStepAlong [] s → ⊥
along_none s h = omega (arith, h.1.1)

pub along_more : (links : List Link) (i : ℕ) (link : Link) (old now next : List Link) → drop i links ≡ link ∷ drop (i + 1) links
    → AddsUpTo (IsStepAlong links) (IsStepAlong (drop i links)) old now → Adds (λ s. s ≡ step_between link.from link.to) now next
    → AddsUpTo (IsStepAlong links) (IsStepAlong (drop (i + 1) links)) old next
along_more links i link old now next cut so adds =
    let Here : Link → Type 0 = λ s. s ≡ step_between link.from link.to in
    up_to_more (IsStepAlong links) Here (IsStepAlong (drop (i + 1) links)) (Contains old) (Contains now) (Contains next) adds
    (up_to_same (IsStepAlong links) (IsStepAlong (link ∷ drop (i + 1) links)) (λ s. Here s ⊎ IsStepAlong (drop (i + 1) links) s)
    (Contains old) (Contains now) (along_either link (drop (i + 1) links))
    (subst (λ ls. AddsUpTo (IsStepAlong links) (IsStepAlong ls) old now) cut so))

-- to the shapes of traits, one after the other
pub traits_either : (g : Graph) (number : ℕ) (t : List ℕ × Node) (ts : List (List ℕ × Node)) (s : Link)
    → TraitSteps g number (t ∷ ts) s ↔ (RunsTo g Member number (λ id. t.0 ≡ id) s ⊎ TraitSteps g number ts s)
traits_either g number t ts s =
    let A : List ℕ → Type 0 = λ id. id ≡ t.0 in
    let B : List ℕ → Type 0 = λ id. StandsAmong id (are_under ts) in
    let either = runs_either g Member number A B s in
    let turned = runs_same g Member number (λ id. t.0 ≡ id) A (λ id. (λ e. sym e, λ e. sym e)) s in (
      λ h. elim (either.0 h) [ inl a ↦ inl (turned.1 a) | inr b ↦ inr b ],
      λ h. either.1 (elim h [ inl a ↦ inl (turned.0 a) | inr b ↦ inr b ]),
    )

pub traits_none : (g : Graph) (number : ℕ) (s : Link) → TraitSteps g number [] s → ⊥
traits_none g number s h = let o = at_opened g s.to (λ id e. StandsAmong id (are_under [])) h.2 in o.is

-- the shapes of the traits of a number
pub in_graph : (g : Graph) (k : ℕ) → IsShapeNumber g k → IsInGraph (maps_of g) (id_of_number g k)
in_graph g k lt =
    let s = stands_at g k lt in
    subst (IsInGraph (maps_of g)) (sym (id_at g k s.0 s.1 s.2)) (s.1, entry_under g k s.0 s.1 s.2)

module _ (g : Graph) (number : ℕ) (ts : List (List ℕ × Node)) (told : At g number (λ id e. fin.entries (traits_in e) ≡ ts)) where
  steps_carried : (s : Link) → TraitSteps g number ts s → StepsToTraits g number s
  steps_carried s h =
      let o = at_opened g s.to (λ id e. StandsAmong id (are_under ts)) h.2 in
      let e = entry_here g number (λ id e. fin.entries (traits_in e) ≡ ts) told in
      let same : o.id ≡ id_of_number g s.to = sym (id_at g s.to o.id o.entry o.there) in
      let among : StandsAmong (id_of_number g s.to) (are_under (fin.entries (traits_in e.0))) =
      subst (λ xs. StandsAmong (id_of_number g s.to) (are_under xs)) (sym e.2)
      (subst (λ i. StandsAmong i (are_under ts)) same o.is) in
      let found = key_found (traits_in e.0) (id_of_number g s.to) among in (
        h.0,
        h.1,
        within g s.to o.id o.entry o.there,
        record { entry = e.0; there = e.1; value = found.0; found = found.1 },
      )

  carried_steps : (s : Link) → StepsToTraits g number s → TraitSteps g number ts s
  carried_steps s h =
      let c = h.3 in
      let e = entry_here g number (λ id e. fin.entries (traits_in e) ≡ ts) told in
      let o = stands_at g s.to h.2 in
      let same : id_of_number g s.to ≡ o.0 = id_at g s.to o.0 o.1 o.2 in
      let one : e.0 ≡ c.entry = same_entry e.0 c.entry e.1 c.there in
      let stands = get_stands (traits_in c.entry) (id_of_number g s.to) c.value c.found in
      let among : StandsAmong o.0 (are_under ts) =
      subst (λ i. StandsAmong i (are_under ts)) same
      (subst (λ xs. StandsAmong (id_of_number g s.to) (are_under xs)) e.2
      (subst (λ x. StandsAmong (id_of_number g s.to) (are_under (fin.entries (traits_in x)))) (sym one) stands)) in
      (h.0, h.1, at_from g s.to (λ id e. StandsAmong id (are_under ts)) o.0 o.1 o.2 among)
    where
      same_entry : (x y : Entry) → fin.get (maps_of g).shapes (id_of_number g number) ≡ Some x
          → fin.get (maps_of g).shapes (id_of_number g number) ≡ Some y → x ≡ y
      same_entry x y a b = same_Some x y (sym a ∙ b)

  pub own_steps : (s : Link) → TraitSteps g number ts s ↔ StepsToTraits g number s
  own_steps s = (steps_carried s, carried_steps s)

-- from all numbers below one
pub below_none : (g : Graph) (s : Link) → TraitStepsBelow g 0 s → ⊥
below_none g s h = omega (arith, h.1)

pub below_more : (g : Graph) (n : ℕ) (s : Link) → (TraitStepsBelow g n s ⊎ StepsToTraits g n s) ↔ TraitStepsBelow g (n + 1) s
below_more g n s = (
  λ h. elim h [
    | inl below ↦ let lt : below.0 < n + 1 = omega (arith, below.1) in (below.0, lt, below.2)
    | inr here ↦ let lt : n < n + 1 = omega arith in (n, lt, here)
  ],
  λ h. elim (cases_lt h.0 n) [
    | inl less ↦ inl (h.0, less, h.2)
    | inr ge ↦ let is : h.0 ≡ n = omega (arith, ge, h.1) in inr (subst (λ k. StepsToTraits g k s) is h.2)
  ],
)

-- both together are the steps to what is needed
module _ (g : Graph) (links : List Link) (are : AreLinks g links) where
  abbrev Both : Link → Type 0
  Both s = IsStepAlong links s ⊎ TraitStepsBelow g (length (entries_of g)) s

  along_led : (s : Link) → IsStepAlong links s → IsLedBy g (IsNeeded (maps_of g)) s
  along_led s h =
      let at = (are h.0).0 h.1 in
      subst (IsLedBy g (IsNeeded (maps_of g))) (sym h.2) (refl, at.from, at.to, inl (h.0.relation, at.related))

  traits_led : (s : Link) → TraitStepsBelow g (length (entries_of g)) s → IsLedBy g (IsNeeded (maps_of g)) s
  traits_led s h =
      let t = h.2 in (
        t.0,
        subst (IsShapeNumber g) (sym t.1) h.1,
        t.2,
        inr (subst (λ k. CarriesTrait (maps_of g) (id_of_number g k) (id_of_number g s.to)) (sym t.1) t.3, in_graph g s.to t.2),
      )

  led_both : (s : Link) → IsLedBy g (IsNeeded (maps_of g)) s → Both s
  led_both s h = elim h.3 [
    | inl by ↦ inl (
      record { relation = by.0; from = s.from; to = s.to },
      (are (record { relation = by.0; from = s.from; to = s.to })).1 (record { from = h.1; to = h.2; related = by.1 }),
      link_is s Member s.from s.to h.0 refl refl,
    )
    | inr by ↦ inr (s.from, h.1, (h.0, refl, h.2, by.0))
  ]

  pub needed_led : (steps : List Link) → Joins (Contains []) Both (Contains steps) → AreLedBy g (IsNeeded (maps_of g)) steps
  needed_led steps joins s = (
    λ h. elim ((joins s).0 h) [
      | inl none ↦ absurd (nothing none)
      | inr both ↦ elim both [ inl a ↦ along_led s a | inr b ↦ traits_led s b ]
    ],
    λ h. (joins s).1 (inr (led_both s h)),
  )
    where
      nothing : Contains [] s → ⊥
      nothing h = omega (arith, h.1)

-- as lists for each number
module _ (g : Graph) (Leads : List ℕ → List ℕ → Type 0) (steps : List Link) (led : AreLedBy g Leads steps) where
  pub led_below : (count : ℕ) → count ≡ length (entries_of g) → AreBelow count steps
  led_below count long l among =
      let at = (led l).0 among in (subst (λ n. l.from < n) (sym long) at.1, subst (λ n. l.to < n) (sym long) at.2)

  other : Member ≡ Container → ⊥
  other e = cc

  pub led_rows : (count : ℕ) (rows : List (List ℕ)) → count ≡ length (entries_of g) → AreNeighbors count steps false rows
      → LeadBy g Leads rows
  led_rows count rows long near = record {
    whole = near.whole ∙ long;
    steps = λ a b. (
      λ h.
          let s = (near.steps a b).0 h in
          let at = (led s.0).0 s.1 in (
            subst (IsShapeNumber g) s.2.1 at.1,
            subst (IsShapeNumber g) s.2.2 at.2,
            subst (λ k. Leads (id_of_number g k) (id_of_number g b)) s.2.1
                (subst (λ k. Leads (id_of_number g s.0.from) (id_of_number g k)) s.2.2 at.3),
          ),
      λ h. (near.steps a b).1 (step_between a b, (led (step_between a b)).1 (refl, h.0, h.1, h.2), (other, refl, refl)),
    );
  }
