-- A shape is served, or there is a first way to one that isn't: it can't be that neither is. Ways that enter no shape twice and keep off
-- some shapes are looked at; of their first numbers one is least, and behind it one way goes first.
use Rattle.std.proofs.Common.{◌≡◌, ◌⊎◌, inl, inr, ℕ, zero, suc, ◌+◌, ◌<◌, ◌≤◌, List, [], ◌∷◌, length, map, refl, sym, ap, ◌∙◌, subst, arith}
use Rattle.std.specs.Cmp.{nat_cmp_is}
use Rattle.std.specs.Cmp.Lexicographic.{slice_cmp}
use Rattle.std.specs.List.{Contains, join_with_byte}
use Rattle.std.specs.Ordering.{nat_cmp, ordering_then}
use Rattle.std.specs.declared.cmp.Ordering.{Ordering}
use Rattle.std.specs.declared.cmp.Ordering.TheVariants.{Less, Equal, Greater}
use Rattle.std.proofs.lemmas.Bool.{cases_eq, cases_lt}
use Rattle.sm_bytes.specs.Ascii.{slash}
use Rattle.sm_model.specs.Graphs.{GraphMaps}
use Rattle.sm_model.specs.Relations.{IsInGraph}
use Rattle.sm_model.proofs.OneRising.{contains_behind, contains_either, contains_head, contains_none}
use Rattle.sm_shapes.specs.Names.{AllDiffer}
use Rattle.sm_compile.specs.Answers.{TellsServed}
use Rattle.sm_compile.specs.Served.{IsUnserved, IsWay, WayStep, entered, names_of_way, numbers_of_way}
use Rattle.sm_compile.specs.declared.compiled.Served.{Served}
use Rattle.sm_compile.specs.declared.compiled.Served.TheVariants.{Yes, Unserved}
use Rattle.sm_compile.proofs.FirstWays.{KeepsOff, is_less, is_none, none_is, nothing_before, way_begins}
use Rattle.sm_compile.proofs.KeptIds.{among_graph, graph_ids}
use Rattle.sm_compile.proofs.OneWay.{same_step}

-- numbers of which something holds have a least one
module _ (P : ℕ → Type 0) (none : (n : ℕ) → P n → ((k : ℕ) → k < n → P k → ⊥) → ⊥) where
  below : (bound n : ℕ) → n < bound → P n → ⊥
  below zero n lt p = absurd (omega (arith, lt))
  below (suc bound) n lt p = none n p (λ k less q. below bound k (omega (arith, lt, less)) q)

  least_number : (n : ℕ) → P n → ⊥
  least_number n p = let lt : n < suc n = omega arith in below (suc n) n lt p

-- one id less
record IsLeft (xs ys : List (List ℕ)) (x : List ℕ) : Type 0 where
  pub fewer : length ys + 1 ≡ length xs
  pub rest : (y : List ℕ) → Contains xs y → (y ≡ x) ⊎ Contains ys y

taken_out : (x : List ℕ) (xs : List (List ℕ)) → Contains xs x → (ys : List (List ℕ)) × IsLeft xs ys x
taken_out x [] h = absurd (contains_none x h)
taken_out x (z ∷ zs) h = elim (contains_either z x zs h) [
  | inl same ↦ (
    zs,
    record {
      fewer = omega arith;
      rest = λ y there. elim (contains_either z y zs there) [ inl is ↦ inl (sym is ∙ same) | inr later ↦ inr later ];
    },
  )
  | inr later ↦
      let r = taken_out x zs later in (
        z ∷ r.0,
        record {
          fewer = let less = r.1.fewer in omega (arith, less);
          rest = λ y there. elim (contains_either z y zs there) [
            | inl is ↦ inr (subst (Contains (z ∷ r.0)) is (contains_head z r.0))
            | inr behind ↦ elim (r.1.rest y behind) [ inl is ↦ inl is | inr left ↦ inr (contains_behind z y r.0 left) ]
          ];
        },
      )
]

module _ (g : GraphMaps) where
  -- a way that enters no shape twice and keeps off some, and one before which no other goes
  record IsFree (avoid : List (List ℕ)) (id : List ℕ) (way : List WayStep) : Type 0 where
    pub leads : IsWay g id way
    pub differ : AllDiffer (entered id way)
    pub off : KeepsOff avoid (entered id way)

  record IsFirstFree (avoid : List (List ℕ)) (id : List ℕ) (way : List WayStep) : Type 0 where
    pub free : IsFree avoid id way
    pub first : (other : List WayStep) → IsFree avoid id other → slice_cmp nat_cmp (numbers_of_way other) (numbers_of_way way) ≡ Less → ⊥

  -- behind its first step
  behind_step : (avoid : List (List ℕ)) (id : List ℕ) (s : WayStep) (way : List WayStep) → IsFree avoid id (s ∷ way)
      → IsFree (id ∷ avoid) s.to way
  behind_step avoid id s way h = record {
    leads = h.leads.1;
    differ = h.differ.1;
    off = λ x there among. elim (contains_either id x avoid among) [
      | inl here ↦ is_none id (entered s.to way) h.differ.0 x there here
      | inr above ↦ h.off x (contains_behind id x (entered s.to way) there) above
    ];
  }

  before_step : (avoid : List (List ℕ)) (id : List ℕ) (s : WayStep) (way other : List WayStep) → IsFree avoid id (s ∷ other)
      → IsFree (id ∷ avoid) s.to way → IsFree avoid id (s ∷ way)
  before_step avoid id s way other by h = record {
    leads = (by.leads.0, h.leads);
    differ = (
      none_is id (entered s.to way) (λ y there same. h.off y there (subst (Contains (id ∷ avoid)) (sym same) (contains_head id avoid))),
      h.differ,
    );
    off = λ x there among. elim (contains_either id x (entered s.to way) there) [
      | inl same ↦ by.off x (subst (Contains (entered id (s ∷ other))) same (contains_head id (entered s.to other))) among
      | inr later ↦ h.off x later (contains_behind id x avoid among)
    ];
  }

  -- what goes first behind the least first number goes first
  first_by : (avoid : List (List ℕ)) (id : List ℕ) (s : WayStep) (way other : List WayStep) → (IsUnserved g id → ⊥)
      → IsFree avoid id (s ∷ other)
      → ((r : WayStep) (more : List WayStep) → r.at < s.at → IsFree avoid id (r ∷ more) → ⊥)
      → IsFirstFree (id ∷ avoid) s.to way → IsFirstFree avoid id (s ∷ way)
  first_by avoid id s way other served by least h = record {
    free = before_step avoid id s way other by h.free;
    first = first;
  }
    where
      first : (ways : List WayStep) → IsFree avoid id ways → slice_cmp nat_cmp (numbers_of_way ways) (numbers_of_way (s ∷ way)) ≡ Less → ⊥
      first [] free less = served free.leads
      first (r ∷ more) free less = elim (cases_lt r.at s.at) [
        | inl before ↦ least r more before free
        | inr ge ↦ elim (cases_eq r.at s.at) [
          | inl same ↦ at_same same
          | inr apart ↦
              let greater : s.at < r.at = omega (arith, ge, apart) in
              subst is_less (sym (ap (λ o. ordering_then o rest) (nat_cmp_is r.at s.at Greater greater) ∙ less)) tt
        ]
      ]
        where
          rest : Ordering
          rest = slice_cmp nat_cmp (numbers_of_way more) (numbers_of_way way)

          at_same : r.at ≡ s.at → ⊥
          at_same same =
              let to = (same_step g id r s free.leads.0 by.leads.0 same).1 in
              h.first more (subst (λ x. IsFree (id ∷ avoid) x more) to (behind_step avoid id r more free))
              (ap (λ o. ordering_then o rest) (nat_cmp_is r.at s.at Equal same) ∙ less)

  -- where a way keeps off some shapes, one of these goes first: the others are at most so many
  abbrev Covers : List (List ℕ) → List (List ℕ) → Type 0
  Covers left avoid = (x : List ℕ) → IsInGraph g x → Contains avoid x ⊎ Contains left x

  abbrev SomeFirst : ℕ → Type 0
  SomeFirst n = (left avoid : List (List ℕ)) (id : List ℕ) → length left ≤ n → Covers left avoid
      → ((way : List WayStep) → IsFirstFree avoid id way → ⊥) → (way : List WayStep) → IsFree avoid id way → ⊥

  abbrev Begins : List (List ℕ) → List ℕ → ℕ → Type 0
  Begins avoid id n = (s : WayStep) × (more : List WayStep) × (s.at ≡ n) × IsFree avoid id (s ∷ more)

  begins_by : (avoid : List (List ℕ)) (id : List ℕ) → (IsUnserved g id → ⊥) → ((n : ℕ) → Begins avoid id n → ⊥) → (way : List WayStep)
      → IsFree avoid id way → ⊥
  begins_by avoid id served never [] h = served h.leads
  begins_by avoid id served never (s ∷ more) h = never s.at (s, more, refl, h)

  -- the shape itself, where it is served by itself
  here_served : (avoid : List (List ℕ)) (id : List ℕ) → ((way : List WayStep) → IsFirstFree avoid id way → ⊥) → (Contains avoid id → ⊥)
      → IsUnserved g id → ⊥
  here_served avoid id none off is = none [] (record {
    free = record {
      leads = is;
      differ = (tt, tt);
      off = λ x there among. elim (contains_either id x [] there) [
        | inl same ↦ off (subst (Contains avoid) (sym same) among)
        | inr nothing ↦ contains_none x nothing
      ];
    };
    first = λ other h less. nothing_before other less;
  })

  still_covers : (left more avoid : List (List ℕ)) (id : List ℕ) → Covers left avoid → IsLeft left more id → Covers more (id ∷ avoid)
  still_covers left more avoid id covers out x h = elim (covers x h) [
    | inl off ↦ inl (contains_behind id x avoid off)
    | inr among ↦ elim (out.rest x among) [
      | inl same ↦ inl (subst (Contains (id ∷ avoid)) (sym same) (contains_head id avoid))
      | inr still ↦ inr still
    ]
  ]

  next_first : (n : ℕ) → SomeFirst n → SomeFirst (suc n)
  next_first n later left avoid id few covers none way free = elim (covers id (way_begins g id way free.leads)) [
    | inl among ↦ free.off id (contains_head id (map (λ (s : WayStep). s.to) way)) among
    | inr there ↦ from_here there
  ]
    where
      served : IsUnserved g id → ⊥
      served = here_served avoid id none (free.off id (contains_head id (map (λ (s : WayStep). s.to) way)))

      from_here : Contains left id → ⊥
      from_here there =
          let out = taken_out id left there in
          let fewer = out.1.fewer in
          let less : length out.0 ≤ n = omega (arith, few, fewer) in
          begins_by avoid id served (least_number (Begins avoid id) (λ k begins least.
          later out.0 (id ∷ avoid) begins.0.to less (still_covers left out.0 avoid id covers out.1) (λ ways first. none (begins.0 ∷ ways)
          (first_by avoid id begins.0 ways begins.1 served begins.3
          (λ r more smaller h. least r.at (subst (λ (m : ℕ). r.at < m) begins.2 smaller) (r, more, refl, h)) first)) begins.1
          (behind_step avoid id begins.0 begins.1 begins.3))) way free

  some_first : (n : ℕ) → SomeFirst n
  some_first zero left avoid id few covers none way free = elim (covers id (way_begins g id way free.leads)) [
    | inl among ↦ free.off id (contains_head id (map (λ (s : WayStep). s.to) way)) among
    | inr there ↦ let lt = there.1 in omega (arith, few, lt)
  ]
  some_first (suc n) left avoid id few covers none way free =
      next_first n (λ l a i f c e w h. some_first n l a i f c e w h) left avoid id few covers none way free

  -- a way that enters a shape twice goes round: it can be cut short
  cut_short : (id a : List ℕ) (way : List WayStep) → IsWay g a way → AllDiffer (entered a way) → Contains (entered a way) id
      → (w : List WayStep) × IsWay g id w × AllDiffer (entered id w)
  cut_short id a [] h differ there = elim (contains_either a id [] there) [
    | inl same ↦ ([], subst (IsUnserved g) same h, (tt, tt))
    | inr nothing ↦ absurd (contains_none id nothing)
  ]
  cut_short id a (s ∷ way) h differ there = elim (contains_either a id (entered s.to way) there) [
    | inl same ↦ (s ∷ way, subst (λ x. IsWay g x (s ∷ way)) same h, subst (λ x. AllDiffer (entered x (s ∷ way))) same differ)
    | inr later ↦ cut_short id s.to way h.1 differ.1 later
  ]

  some_simple : (id : List ℕ) (way : List WayStep) → IsWay g id way
      → ((w : List WayStep) → IsWay g id w → AllDiffer (entered id w) → ⊥) → ⊥
  some_simple id [] h none = none [] h (tt, tt)
  some_simple id (s ∷ way) h none = some_simple s.to way h.1 (λ w leads differ.
      let fresh : Contains (entered s.to w) id → ⊥ = λ there.
      let short = cut_short id s.to w leads differ there in none short.0 short.1 short.2 in
      none (s ∷ w) (h.0, leads)
      (none_is id (entered s.to w) (λ y there same. fresh (subst (Contains (entered s.to w)) same there)), differ))

  pub some_served : (root : List ℕ) → ((served : Served) → TellsServed g root served → ⊥) → ⊥
  some_served root none = none Yes (λ way leads. some_simple root way leads (λ w simple differ.
      some_first (length (graph_ids g)) (graph_ids g) [] root (omega arith) (λ x h. inr (among_graph g x h)) (λ ways first.
      none (Unserved (join_with_byte slash (names_of_way ways))) (
        ways,
        record {
          simple = (first.free.leads, first.free.differ);
          first = λ other is. first.first other
              (record { leads = is.0; differ = is.1; off = λ x there nothing. contains_none x nothing });
        },
        refl,
      ))
      w (record { leads = simple; differ = differ; off = λ x there nothing. contains_none x nothing })))
