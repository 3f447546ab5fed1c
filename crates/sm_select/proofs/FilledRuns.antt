-- Steps that are put at the next free place of their number, until each has its place.
use Rattle.std.proofs.Common.{◌≡◌, ◌≢◌, ◌⊎◌, inl, inr, ℕ, ◌<◌, ◌≤◌, ◌+◌, zero, suc, Bool, true, false, List, [], ◌∷◌}
use Rattle.std.proofs.Common.{get_or, length, refl, sym, ap, ◌∙◌, subst, arith}
use Rattle.std.specs.Prelude.{◌↔◌, set}
use Rattle.std.specs.List.{Contains}
use Rattle.std.proofs.lemmas.Bool.{cases_lt, false≢true}
use Rattle.std.proofs.lemmas.List.{get_or-set_other, get_or-set_same, get_or_past, length-set}
use Rattle.std.proofs.lemmas.List.Elements.{Contains-get_or}
use Rattle.sm_model.specs.declared.link.Link.{Link}
use Rattle.sm_model.specs.declared.relation.Relation.{Relation}
use Rattle.sm_model.specs.declared.relation.Relation.TheVariants.{Container, Error, Identifier, Input, Member, Operation}
use Rattle.sm_model.specs.declared.relation.Relation.TheVariants.{Output, Property, Resource, Target}
use Rattle.sm_select.specs.Followed.{end_of, start_of}
use Rattle.sm_select.specs.Neighbors.{AreBelow, AreNeighbors, HasStep, IsBelow, IsStepOf}
use Rattle.sm_select.specs.steps.Runs.{Fills, IsPlaced, RiseFrom, followed, runs_from, steps_at, sums}
use Rattle.sm_select.proofs.RunLists.{count_runs, in_run, no_step, one_step, rise_sums, run_at, sums_rise}
use Rattle.sm_select.proofs.RunLists.{sums_same, takes_here, takes_none, takes_other}
use Rattle.sm_select.proofs.StepLists.{any_in, in_any, same_or_not}

-- only a number below the count has a place
placed_below : (ends : List ℕ) (a p : ℕ) → p < get_or ends a 0 → a < length ends
placed_below ends a p lt = elim (cases_lt a (length ends)) [
  | inl below ↦ below
  | inr past ↦ absurd (omega (arith, lt, get_or_past ends a 0 past))
]

-- at first each number is free from where its steps start
pub fills_begun : (count : ℕ) (back : Bool) (links : List Link) (numbers ends : List ℕ) → length ends ≡ count
    → length numbers ≡ sums (steps_at back links) count → ((k : ℕ) → k < count → get_or ends k 0 ≡ sums (steps_at back links) k)
    → Fills count back links links numbers ends
fills_begun count back links numbers ends whole long starts = record {
  whole = whole;
  long = long;
  begun = λ k lt. omega (arith, starts k lt);
  free = λ k lt. omega (arith, starts k lt);
  steps = λ a b. (
    λ h. elim h [
      | inl placed ↦
          absurd (omega (arith, placed.1, placed.2, starts a (subst (λ n. a < n) whole (placed_below ends a placed.0 placed.2))))
      | inr step ↦ step
    ],
    λ h. inr h,
  );
}

-- at the end each step has its place
start_at : (count : ℕ) (back : Bool) (links : List Link) (numbers ends : List ℕ) → Fills count back links [] numbers ends
    → (a : ℕ) → a < count → get_or (0 ∷ ends) a 0 ≡ sums (steps_at back links) a
start_at count back links numbers ends f zero lt = refl
start_at count back links numbers ends f (suc a) lt = omega (arith, f.free a (omega (arith, lt)))

pub fills_rise : (count : ℕ) (back : Bool) (links : List Link) (numbers ends : List ℕ) → Fills count back links [] numbers ends
    → RiseFrom 0 ends (length numbers)
fills_rise count back links numbers ends f =
    rise_sums (steps_at back links) 0 ends (length numbers)
    (λ i lt. omega (arith, f.free i (subst (λ n. i < n) f.whole lt)) ∙ ap (λ n. sums (steps_at back links) n) (next i))
    (subst (λ n. sums (steps_at back links) n ≤ length numbers) (sym f.whole ∙ none (length ends)) (omega (arith, f.long)))
  where
    next : (i : ℕ) → suc i ≡ suc (0 + i)
    next i = omega arith

    none : (n : ℕ) → n ≡ 0 + n
    none n = omega arith

pub fills_ended : (count : ℕ) (back : Bool) (links : List Link) (numbers ends : List ℕ) → Fills count back links [] numbers ends
    → AreNeighbors count links back (runs_from numbers 0 ends)
fills_ended count back links numbers ends f = record {
  whole = count_runs numbers 0 ends ∙ f.whole;
  steps = λ a b. (
    λ h. any_in (λ l. IsStepOf back l a b) links ((f.steps a b).0 (inl (placed a b (step_below a b h) h))),
    λ h. elim ((f.steps a b).1 (in_any (λ l. IsStepOf back l a b) links h.0 h.1 h.2)) [
      | inl at ↦ step a b (subst (λ n. a < n) f.whole (placed_below ends a at.0 at.2)) at
      | inr none ↦ absurd none
    ],
  );
}
  where
    step_below : (a b : ℕ) → HasStep (runs_from numbers 0 ends) a b → a < count
    step_below a b h = elim (cases_lt a count) [
      | inl below ↦ below
      | inr past ↦
          let none : get_or (runs_from numbers 0 ends) a [] ≡ [] =
          get_or_past (runs_from numbers 0 ends) a [] (omega (arith, past, count_runs numbers 0 ends, f.whole)) in
          absurd (omega (arith, (subst (λ xs. Contains xs b) none h).1))
    ]

    fits : (a : ℕ) → a < count → get_or ends a 0 ≤ length numbers
    fits a lt = omega (arith, f.free a lt, f.long, sums_rise (steps_at back links) (suc a) count (omega (arith, lt)))

    placed : (a b : ℕ) → a < count → HasStep (runs_from numbers 0 ends) a b → IsPlaced (sums (steps_at back links)) numbers ends a b
    placed a b lt h =
        let at = (in_run numbers (get_or (0 ∷ ends) a 0) (get_or ends a 0) b (fits a lt)).0
        (subst (λ xs. Contains xs b) (run_at numbers 0 ends a (subst (λ n. a < n) (sym f.whole) lt)) h) in
        (at.0, omega (arith, at.1, start_at count back links numbers ends f a lt), at.2, at.3)

    step : (a b : ℕ) → a < count → IsPlaced (sums (steps_at back links)) numbers ends a b → HasStep (runs_from numbers 0 ends) a b
    step a b lt at =
        subst (λ xs. Contains xs b) (sym (run_at numbers 0 ends a (subst (λ n. a < n) (sym f.whole) lt)))
        ((in_run numbers (get_or (0 ∷ ends) a 0) (get_or ends a 0) b (fits a lt)).1
        (at.0, omega (arith, at.1, start_at count back links numbers ends f a lt), at.2, at.3))

-- a link that is no step changes nothing
pub fills_passed : (count : ℕ) (back : Bool) (all rest : List Link) (l : Link) (numbers ends : List ℕ) → l.relation ≡ Container
    → Fills count back all (l ∷ rest) numbers ends → Fills count back all rest numbers ends
fills_passed count back all rest l numbers ends is f = record {
  whole = f.whole;
  long = f.long;
  begun = f.begun;
  free = λ k lt. omega (arith, f.free k lt, takes_none back l k is);
  steps = λ a b. (
    λ h. (f.steps a b).0 (elim h [ inl at ↦ inl at | inr later ↦ inr (inr later) ]),
    λ h. elim ((f.steps a b).1 h) [
      | inl at ↦ inl at
      | inr s ↦ elim s [ inl here ↦ absurd (no_step back l a b is here) | inr later ↦ inr later ]
    ],
  );
}

module _ (count : ℕ) (back : Bool) (all rest : List Link) (l : Link) (numbers ends : List ℕ) (other : l.relation ≡ Container → ⊥)
    (below : start_of back l < count) (f : Fills count back all (l ∷ rest) numbers ends) where
  -- there is room for a step
  before_next : get_or ends (start_of back l) 0 < sums (steps_at back all) (suc (start_of back l))
  before_next = omega (arith, f.free (start_of back l) below, takes_here back l (start_of back l) other refl)

  pub has_room : get_or ends (start_of back l) 0 < length numbers
  has_room = omega (arith, before_next, f.long, sums_rise (steps_at back all) (suc (start_of back l)) count (omega (arith, below)))

  -- its place is none of another number's
  apart : (a p : ℕ) → a ≢ start_of back l → sums (steps_at back all) a ≤ p → p < get_or ends a 0 → p ≢ get_or ends (start_of back l) 0
  apart a p differ ge lt is =
      let within : a < count = subst (λ n. a < n) f.whole (placed_below ends a p lt) in
      elim (cases_lt a (start_of back l)) [
        | inl less ↦ absurd (omega (
          arith,
          is,
          lt,
          f.free a within,
          f.begun (start_of back l) below,
          sums_rise (steps_at back all) (suc a) (start_of back l) (omega (arith, less)),
        ))
        | inr le ↦ elim (cases_lt (start_of back l) a) [
          | inl more ↦ absurd (omega (
            arith,
            is,
            ge,
            before_next,
            sums_rise (steps_at back all) (suc (start_of back l)) a (omega (arith, more)),
          ))
          | inr ge_too ↦ differ (omega (arith, le, ge_too))
        ]
      ]

  abbrev now : List ℕ
  now = set numbers (get_or ends (start_of back l) 0) (end_of back l)

  abbrev free_now : List ℕ
  free_now = set ends (start_of back l) (get_or ends (start_of back l) 0 + 1)

  from_fits : start_of back l < length ends
  from_fits = subst (λ n. start_of back l < n) (sym f.whole) below

  at_from : (a : ℕ) → a ≡ start_of back l → get_or free_now a 0 ≡ get_or ends a 0 + 1
  at_from a is =
      ap (λ k. get_or free_now k 0) is ∙ get_or-set_same ends (start_of back l) (get_or ends (start_of back l) 0 + 1) 0 from_fits
      ∙ ap (λ k. get_or ends k 0 + 1) (sym is)

  at_other : (a : ℕ) → a ≢ start_of back l → get_or free_now a 0 ≡ get_or ends a 0
  at_other a differ = get_or-set_other ends (start_of back l) a (get_or ends (start_of back l) 0 + 1) 0 differ

  kept : (p b : ℕ) → p ≢ get_or ends (start_of back l) 0 → (get_or now p 0 ≡ b) ↔ (get_or numbers p 0 ≡ b)
  kept p b differ =
      let same = get_or-set_other numbers (get_or ends (start_of back l) 0) p (end_of back l) 0 differ in (
        λ h. sym same ∙ h,
        λ h. same ∙ h,
      )

  before : (p q r : ℕ) → r ≡ q → p < r + 1 → p ≢ q → p < r
  before p q r is lt differ = elim (cases_lt p q) [
    | inl less ↦ omega (arith, is, less)
    | inr le ↦ absurd (differ (omega (arith, is, lt, le)))
  ]

  -- what has a place then: what had one, and the step of the link
  placed_then : (a b : ℕ) → IsPlaced (sums (steps_at back all)) now free_now a b
      → IsPlaced (sums (steps_at back all)) numbers ends a b ⊎ IsStepOf back l a b
  placed_then a b at = elim (same_or_not a (start_of back l)) [
    | inr differ ↦
        let lt : at.0 < get_or ends a 0 = omega (arith, at.2, at_other a differ) in
        inl (at.0, at.1, lt, (kept at.0 b (apart a at.0 differ at.1 lt)).0 at.3)
    | inl is ↦ elim (same_or_not at.0 (get_or ends (start_of back l) 0)) [
      | inl new ↦ inr ((one_step back l a b other).1 (
        sym is,
        sym (get_or-set_same numbers (get_or ends (start_of back l) 0) (end_of back l) 0 has_room)
            ∙ ap (λ p. get_or now p 0) (sym new) ∙ at.3,
      ))
      | inr old ↦ inl (
        at.0,
        at.1,
        before at.0 (get_or ends (start_of back l) 0) (get_or ends a 0)
            (ap (λ k. get_or ends k 0) is) (omega (arith, at.2, at_from a is)) old,
        (kept at.0 b old).0 at.3,
      )
    ]
  ]

  placed_still : (a b : ℕ) → IsPlaced (sums (steps_at back all)) numbers ends a b → IsPlaced (sums (steps_at back all)) now free_now a b
  placed_still a b at = elim (same_or_not a (start_of back l)) [
    | inr differ ↦
        (at.0, at.1, omega (arith, at.2, at_other a differ), (kept at.0 b (apart a at.0 differ at.1 at.2)).1 at.3)
    | inl is ↦ (
      at.0,
      at.1,
      omega (arith, at.2, at_from a is),
      (kept at.0 b (λ same. omega (arith, same, at.2, ap (λ k. get_or ends k 0) is))).1 at.3,
    )
  ]

  placed_new : (a b : ℕ) → IsStepOf back l a b → IsPlaced (sums (steps_at back all)) now free_now a b
  placed_new a b step =
      let ends_are = (one_step back l a b other).0 step in
      let is : a ≡ start_of back l = sym ends_are.0 in (
        get_or ends (start_of back l) 0,
        subst (λ k. sums (steps_at back all) k ≤ get_or ends (start_of back l) 0) ends_are.0 (f.begun (start_of back l) below),
        omega (arith, at_from a is, ap (λ k. get_or ends k 0) is),
        get_or-set_same numbers (get_or ends (start_of back l) 0) (end_of back l) 0 has_room ∙ ends_are.1,
      )

  pub fills_put : Fills count back all rest
      (set numbers (get_or ends (start_of back l) 0) (end_of back l)) (set ends (start_of back l) (get_or ends (start_of back l) 0 + 1))
  fills_put = record {
    whole = length-set ends (start_of back l) (get_or ends (start_of back l) 0 + 1) ∙ f.whole;
    long = length-set numbers (get_or ends (start_of back l) 0) (end_of back l) ∙ f.long;
    begun = λ k lt. elim (same_or_not k (start_of back l)) [
      | inl is ↦ omega (arith, f.begun k lt, at_from k is)
      | inr differ ↦ omega (arith, f.begun k lt, at_other k differ)
    ];
    free = λ k lt. elim (same_or_not k (start_of back l)) [
      | inl is ↦ omega (arith, f.free k lt, at_from k is, takes_here back l k other (sym is))
      | inr differ ↦ omega (arith, f.free k lt, at_other k differ, takes_other back l k (λ h. differ (sym h)))
    ];
    steps = λ a b. (
      λ h. (f.steps a b).0 (elim h [
        | inl at ↦ elim (placed_then a b at) [ inl old ↦ inl old | inr new ↦ inr (inl new) ]
        | inr later ↦ inr (inr later)
      ]),
      λ h. elim ((f.steps a b).1 h) [
        | inl old ↦ inl (placed_still a b old)
        | inr s ↦ elim s [ inl here ↦ inl (placed_new a b here) | inr later ↦ inr later ]
      ],
    );
  }

-- what is read where there is no link
abbrev pub nowhere : Link
nowhere = record { relation = Member; from = 0; to = 0 }

pub below_at : (count n : ℕ) (links : List Link) (i : ℕ) → n ≡ count → AreBelow count links → i < length links
    → IsBelow n (get_or links i nowhere)
below_at count n links i same below lt =
    subst (λ m. IsBelow m (get_or links i nowhere)) (sym same) (below (get_or links i nowhere) (Contains-get_or links i nowhere lt))

-- a link starts below the count
pub step_below : (back : Bool) (count : ℕ) (l : Link) → IsBelow count l → start_of back l < count
step_below false count l below = below.0
step_below true count l below = below.1

container_or_not : (r : Relation) → (r ≡ Container) ⊎ (r ≡ Container → ⊥)
container_or_not Container = inl refl
container_or_not Member = inr (λ h. false≢true (sym (ap (λ q. followed q) h)))
container_or_not Target = inr (λ h. false≢true (sym (ap (λ q. followed q) h)))
container_or_not Input = inr (λ h. false≢true (sym (ap (λ q. followed q) h)))
container_or_not Output = inr (λ h. false≢true (sym (ap (λ q. followed q) h)))
container_or_not Error = inr (λ h. false≢true (sym (ap (λ q. followed q) h)))
container_or_not Operation = inr (λ h. false≢true (sym (ap (λ q. followed q) h)))
container_or_not Resource = inr (λ h. false≢true (sym (ap (λ q. followed q) h)))
container_or_not Identifier = inr (λ h. false≢true (sym (ap (λ q. followed q) h)))
container_or_not Property = inr (λ h. false≢true (sym (ap (λ q. followed q) h)))

-- one link more, whether it is a step or not
pub fills_next : (count : ℕ) (back : Bool) (all rest : List Link) (l : Link) (numbers ends after after_ends : List ℕ)
    → IsBelow count l → Fills count back all (l ∷ rest) numbers ends
    → (l.relation ≡ Container → (after ≡ numbers) × (after_ends ≡ ends))
    → ((l.relation ≡ Container → ⊥) → (after ≡ set numbers (get_or ends (start_of back l) 0) (end_of back l))
    × (after_ends ≡ set ends (start_of back l) (get_or ends (start_of back l) 0 + 1)))
    → Fills count back all rest after after_ends
fills_next count back all rest l numbers ends after after_ends below f none put = elim (container_or_not l.relation) [
  | inl is ↦ moved (sym (none is).0) (sym (none is).1) (fills_passed count back all rest l numbers ends is f)
  | inr other ↦
      moved (sym (put other).0) (sym (put other).1)
      (fills_put count back all rest l numbers ends other (step_below back count l below) f)
]
  where
    moved : {xs ys : List ℕ} → xs ≡ after → ys ≡ after_ends → Fills count back all rest xs ys → Fills count back all rest after after_ends
    moved {xs} {ys} p q h = subst (λ ns. Fills count back all rest ns after_ends) p (subst (λ es. Fills count back all rest xs es) q h)

-- where counts stand, and then where steps start in their place
pub starts_begun : (back : Bool) (links : List Link) (counts starts numbers : List ℕ) (steps : ℕ)
    → ((k : ℕ) → k < length counts → get_or counts k 0 ≡ steps_at back links k) → length starts ≡ length counts
    → ((k : ℕ) → k < length counts → get_or starts k 0 ≡ sums (λ j. get_or counts j 0) k)
    → steps ≡ sums (λ j. get_or counts j 0) (length counts) → length numbers ≡ steps
    → Fills (length starts) back links links numbers starts
starts_begun back links counts starts numbers steps are whole so all long =
    fills_begun (length starts) back links numbers starts refl
    (long ∙ all ∙ upto (length counts) (omega arith) ∙ ap (λ n. sums (steps_at back links) n) (sym whole))
    (λ k lt. so k (omega (arith, lt, whole)) ∙ upto k (omega (arith, lt, whole)))
  where
    upto : (n : ℕ) → n ≤ length counts → sums (λ j. get_or counts j 0) n ≡ sums (steps_at back links) n
    upto n le = sums_same (λ j. get_or counts j 0) (steps_at back links) n (λ k lt. are k (omega (arith, lt, le)))
