-- A walk that enters each shape once, and none that is known to be served, finds the first way to a shape that isn't served, or there is
-- none.
use Rattle.std.proofs.Common.{◌≡◌, ◌⊎◌, inl, inr, ℕ, ◌<◌, Bool, List, [], ◌∷◌, ◌++◌, map, reverse, refl, sym, ap, ◌∙◌, subst, arith}
use Rattle.std.proofs.Common.{append_assoc}
use Rattle.std.specs.Cmp.{nat_cmp_is}
use Rattle.std.specs.Cmp.Lexicographic.{slice_cmp}
use Rattle.std.specs.List.{Contains}
use Rattle.std.specs.Ordering.{nat_cmp, ordering_then}
use Rattle.std.specs.declared.cmp.Ordering.{Ordering}
use Rattle.std.specs.declared.cmp.Ordering.TheVariants.{Less, Equal, Greater}
use Rattle.std.proofs.lemmas.Bool.{cases_eq, cases_lt}
use Rattle.std.proofs.lemmas.List.{map-append, reverse-append}
use Rattle.sm_model.specs.Graphs.{GraphMaps, shape_entry}
use Rattle.sm_model.specs.GraphView.{maps_of}
use Rattle.sm_model.specs.Reaching.{id_of_number}
use Rattle.sm_model.specs.Relations.{IsInGraph}
use Rattle.sm_model.specs.declared.graph.Graph.{Graph}
use Rattle.sm_model.proofs.OneRising.{contains_behind, contains_either, contains_head, contains_none}
use Rattle.sm_shapes.specs.Names.{AllDiffer, NoneIs}
use Rattle.sm_compile.specs.Served.{IsFirstWay, IsServed, IsStep, IsUnserved, IsWay, WayStep, entered, names_of_way, numbers_of_way}
use Rattle.sm_compile.specs.declared.way.Above.{Above}
use Rattle.sm_compile.specs.steps.Carrying.{IsMarkedId}
use Rattle.sm_compile.specs.steps.Walking.{IsOpen, IsPassed, StandsAt, ids_above, step_of}
use Rattle.sm_compile.proofs.OneWay.{same_step}

abbrev pub is_less : Ordering → Type 0
is_less Less = Unit {0}
is_less Equal = ⊥
is_less Greater = ⊥

-- no way goes before one without steps
pub nothing_before : (other : List WayStep) → slice_cmp nat_cmp (numbers_of_way other) [] ≡ Less → ⊥
nothing_before [] less = subst is_less (sym less) tt
nothing_before (s ∷ other) less = subst is_less (sym less) tt

-- none of some ids stands among others
abbrev pub KeepsOff : List (List ℕ) → List (List ℕ) → Type 0
KeepsOff open_ids ids = (x : List ℕ) → Contains ids x → Contains open_ids x → ⊥

pub none_is : (x : List ℕ) (ys : List (List ℕ)) → ((y : List ℕ) → Contains ys y → y ≡ x → ⊥) → NoneIs x ys
none_is x [] h = tt
none_is x (y ∷ ys) h = (h y (contains_head y ys), none_is x ys (λ z there. h z (contains_behind y z ys there)))

pub is_none : (x : List ℕ) (ys : List (List ℕ)) → NoneIs x ys → (y : List ℕ) → Contains ys y → x ≡ y → ⊥
is_none x [] h y there same = contains_none y there
is_none x (z ∷ ys) h y there same = elim (contains_either z y ys there) [
  | inl is ↦ h.0 (is ∙ sym same)
  | inr later ↦ is_none x ys h.1 y later same
]

-- a way begins at a shape of the graph
pub way_begins : (g : GraphMaps) (id : List ℕ) (way : List WayStep) → IsWay g id way → IsInGraph g id
way_begins g id [] (inl (s, there, is)) = (shape_entry s, there)
way_begins g id [] (inr (s, there, is)) = (shape_entry s, there)
way_begins g id (step ∷ way) h = (shape_entry h.0.s, h.0.there)

module _ (g : Graph) (known : List Bool) (sure : (x : List ℕ) → IsMarkedId g known x → IsServed (maps_of g) x) where
  abbrev AllServed : List Bool → Type 0
  AllServed marks = (x : List ℕ) → IsMarkedId g marks x → IsUnserved (maps_of g) x → ⊥

  abbrev AllTaken : List Bool → List ℕ → Type 0
  AllTaken marks id = (step : WayStep) → IsStep (maps_of g) id step → IsPassed g known marks step.to

  abbrev AreClosed : List Bool → List (List ℕ) → Type 0
  AreClosed marks open_ids = (x : List ℕ) → IsMarkedId g marks x → Contains open_ids x ⊎ AllTaken marks x

  -- from a shape that was entered no way leads out, but through one that is open, and none from one that is known to be served
  stuck : (marks : List Bool) (open_ids : List (List ℕ)) → AllServed marks → AreClosed marks open_ids
      → (id : List ℕ) (way : List WayStep) → IsMarkedId g marks id → IsWay (maps_of g) id way → KeepsOff open_ids (entered id way) → ⊥
  stuck marks open_ids served closed id [] here h off = served id here h
  stuck marks open_ids served closed id (step ∷ way) here h off = elim (closed id here) [
    | inl among ↦ off id (contains_head id (entered step.to way)) among
    | inr taken ↦ elim (taken step h.0 (way_begins (maps_of g) step.to way h.1)) [
      | inl marked ↦
          stuck marks open_ids served closed step.to way marked h.1 (λ x there. off x (contains_behind id x (entered step.to way) there))
      | inr safe ↦ sure step.to safe way h.1
    ]
  ]

  -- a way before which no other goes that enters no shape twice and keeps off what is open
  abbrev IsLeast : List (List ℕ) → List ℕ → List WayStep → Type 0
  IsLeast open_ids id way =
      (other : List WayStep) → IsWay (maps_of g) id other → AllDiffer (entered id other) → KeepsOff open_ids (entered id other)
      → slice_cmp nat_cmp (numbers_of_way other) (numbers_of_way way) ≡ Less → ⊥

  record IsFound (marks : List Bool) (open_ids : List (List ℕ)) (id : List ℕ) (way : List WayStep) : Type 0 where
    pub leads : IsWay (maps_of g) id way
    pub differ : AllDiffer (entered id way)
    pub fresh : (x : List ℕ) → Contains (entered id way) x → IsMarkedId g marks x → ⊥
    pub least : IsLeast open_ids id way

  found_here : (marks : List Bool) (open_ids : List (List ℕ)) (id : List ℕ) → IsUnserved (maps_of g) id → (IsMarkedId g marks id → ⊥)
      → IsFound marks open_ids id []
  found_here marks open_ids id is fresh = record {
    leads = is;
    differ = (tt, tt);
    fresh = λ x there marked. elim (contains_either id x [] there) [
      | inl same ↦ fresh (subst (IsMarkedId g marks) (sym same) marked)
      | inr none ↦ contains_none x none
    ];
    least = λ other h differ off less. nothing_before other less;
  }

  least_above : (marks : List Bool) (open_ids : List (List ℕ)) (id : List ℕ) (step : WayStep) (way : List WayStep)
      → IsOpen g known marks (id ∷ open_ids) id step.at → IsStep (maps_of g) id step → IsLeast (id ∷ open_ids) step.to way
      → IsLeast open_ids id (step ∷ way)
  least_above marks open_ids id step way o is least [] h differ off less = o.served id o.here h
  least_above marks open_ids id step way o is least (s ∷ other) h differ off less =
      elim (cases_lt s.at step.at) [
        | inl before ↦ elim (o.taken s h.0 before (way_begins (maps_of g) s.to other h.1)) [
          | inl marked ↦ stuck marks (id ∷ open_ids) o.served o.closed s.to other marked h.1 off_all
          | inr safe ↦ sure s.to safe other h.1
        ]
        | inr ge ↦ elim (cases_eq s.at step.at) [
          | inl same ↦ at_same same
          | inr apart ↦
              let greater : step.at < s.at = omega (arith, ge, apart) in
              subst is_less (sym (ap (λ r. ordering_then r rest) (nat_cmp_is s.at step.at Greater greater) ∙ less)) tt
        ]
      ]
    where
      rest : Ordering
      rest = slice_cmp nat_cmp (numbers_of_way other) (numbers_of_way way)

      off_all : KeepsOff (id ∷ open_ids) (entered s.to other)
      off_all x there among = elim (contains_either id x open_ids among) [
        | inl here ↦ is_none id (entered s.to other) differ.0 x there here
        | inr above ↦ off x (contains_behind id x (entered s.to other) there) above
      ]

      at_same : s.at ≡ step.at → ⊥
      at_same same =
          let to = (same_step (maps_of g) id s step h.0 is same).1 in
          least other (subst (λ x. IsWay (maps_of g) x other) to h.1) (subst (λ x. AllDiffer (entered x other)) to differ.1)
          (subst (λ x. KeepsOff (id ∷ open_ids) (entered x other)) to off_all)
          (ap (λ r. ordering_then r rest) (nat_cmp_is s.at step.at Equal same) ∙ less)

  differ_above : (marks : List Bool) (id : List ℕ) (xs : List (List ℕ)) → IsMarkedId g marks id
      → ((x : List ℕ) → Contains xs x → IsMarkedId g marks x → ⊥) → NoneIs id xs
  differ_above marks id xs here fresh = none_is id xs (λ y there same. fresh y there (subst (IsMarkedId g marks) (sym same) here))

  names_turned : (a : Above) (above : List Above) (names : List (List ℕ))
      → map (λ (b : Above). b.name.now) (reverse above) ++ a.name.now ∷ names ≡ map (λ (b : Above). b.name.now) (reverse (a ∷ above))
      ++ names
  names_turned a above names =
      sym (ap (λ xs. map (λ (b : Above). b.name.now) xs ++ names) (reverse-append (a ∷ []) above)
      ∙ ap (λ xs. xs ++ names) (map-append (λ (b : Above). b.name.now) (reverse above) (a ∷ []))
      ∙ append_assoc (map (λ (b : Above). b.name.now) (reverse above)) (a.name.now ∷ []) names)

  -- what is found from the innermost shape on, carried outwards
  first_found : (root : List ℕ) (marks : List Bool) (id : List ℕ) (above : List Above) (step : WayStep) (way : List WayStep)
      → StandsAt g known root marks id step.at above → IsStep (maps_of g) id step → IsFound marks (id ∷ ids_above g above) step.to way
      → (whole : List WayStep) × IsFirstWay (maps_of g) root whole
      × (names_of_way whole ≡ map (λ (b : Above). b.name.now) (reverse above) ++ step.name ∷ names_of_way way)
  first_found root marks id [] step way h is found = (
    step ∷ way,
    subst (λ x. IsFirstWay (maps_of g) x (step ∷ way)) h.1 (record {
      simple = ((is, found.leads), (differ_above marks id (entered step.to way) h.0.here found.fresh, found.differ));
      first = λ other simple.
          least_above marks [] id step way h.0 is found.least other simple.0 simple.1 (λ x there none. contains_none x none);
    }),
    refl,
  )
  first_found root marks id (a ∷ above) step way h is found =
      let before = h.2.0 in
      let more : IsFound before (ids_above g (a ∷ above)) id (step ∷ way) = record {
        leads = (is, found.leads);
        differ = (differ_above marks id (entered step.to way) h.0.here found.fresh, found.differ);
        fresh = λ x there marked. elim (contains_either id x (entered step.to way) there) [
          | inl same ↦ h.2.1 (subst (IsMarkedId g before) (sym same) marked)
          | inr later ↦ found.fresh x later (h.2.2 x marked)
        ];
        least = least_above marks (ids_above g (a ∷ above)) id step way h.0 is found.least;
      } in
      let whole = first_found root before (id_of_number g a.shape) above (step_of a id) (step ∷ way) h.2.3 h.1 more in
      (whole.0, whole.1, whole.2 ∙ names_turned a above (step.name ∷ names_of_way way))

  -- the way by which a walk came, and one more step to a shape that isn't served
  pub first_way : (root : List ℕ) (marks : List Bool) (id : List ℕ) (above : List Above) (step : WayStep)
      → StandsAt g known root marks id step.at above → IsStep (maps_of g) id step → IsUnserved (maps_of g) step.to
      → (IsMarkedId g marks step.to → ⊥)
      → (whole : List WayStep) × IsFirstWay (maps_of g) root whole
      × (names_of_way whole ≡ map (λ (b : Above). b.name.now) (reverse above) ++ step.name ∷ [])
  first_way root marks id above step h is unserved fresh =
      first_found root marks id above step [] h is (found_here marks (id ∷ ids_above g above) step.to unserved fresh)

  -- a walk that has come back to its root, and has nothing before it
  pub none_found : (root : List ℕ) (marks : List Bool) (id : List ℕ) (at : ℕ) → StandsAt g known root marks id at [] → AllTaken marks id
      → IsServed (maps_of g) root
  none_found root marks id at h taken way is =
      stuck marks [] h.0.served closed id way h.0.here (subst (λ x. IsWay (maps_of g) x way) (sym h.1) is)
      (λ x there none. contains_none x none)
    where
      closed : AreClosed marks []
      closed x marked = elim (h.0.closed x marked) [
        | inl among ↦ elim (contains_either id x [] among) [
          | inl same ↦ inr (subst (AllTaken marks) same taken)
          | inr none ↦ inl none
        ]
        | inr steps ↦ inr steps
      ]
