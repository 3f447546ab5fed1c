-- The steps of a walk that enters each shape once: into a shape, and back from one.
use Rattle.std.proofs.Common.{◌≡◌, ◌⊎◌, inl, inr, ℕ, ◌<◌, ◌≤◌, Bool, true, false, List, [], ◌∷◌, length, get_or, replicate, refl, sym, ap}
use Rattle.std.proofs.Common.{◌∙◌, subst, arith}
use Rattle.std.specs.Prelude.{set}
use Rattle.std.specs.List.{Contains}
use Rattle.std.proofs.lemmas.Bool.{cases_eq, cases_lt}
use Rattle.std.proofs.lemmas.List.{get_or-set_other, get_or-set_same}
use Rattle.sm_model.specs.GraphView.{IsShapeNumber, entries_of, maps_of}
use Rattle.sm_model.specs.Reaching.{id_of_number}
use Rattle.sm_model.specs.declared.graph.Graph.{Graph}
use Rattle.sm_model.proofs.OneRising.{contains_behind, contains_either, contains_head}
use Rattle.sm_model.proofs.Worklist.{apart, none_marked}
use Rattle.sm_compile.specs.Served.{IsStep, IsUnserved, WayStep}
use Rattle.sm_compile.specs.declared.way.Above.{Above}
use Rattle.sm_compile.specs.steps.Carrying.{IsMarkedId}
use Rattle.sm_compile.specs.steps.Walking.{IsOpen, IsPassed, StandsAt, ids_above, step_of}
use Rattle.sm_compile.proofs.ReachedNumbers.{same_number}

module _ (g : Graph) where
  -- one mark more
  marked_before : (marks : List Bool) (k : ℕ) (x : List ℕ) → IsMarkedId g (set marks k true) x
      → IsMarkedId g marks x ⊎ (id_of_number g k ≡ x)
  marked_before marks k x (j, lt, marked, is) = elim (cases_eq j k) [
    | inl same ↦ inr (ap (id_of_number g) (sym same) ∙ is)
    | inr other ↦ inl (j, lt, sym (get_or-set_other marks k j true false other) ∙ marked, is)
  ]

  marked_here : (marks : List Bool) (k : ℕ) → length marks ≡ length (entries_of g) → IsShapeNumber g k
      → IsMarkedId g (set marks k true) (id_of_number g k)
  marked_here marks k count lt =
      let within : k < length marks = omega (arith, count, lt) in (k, lt, get_or-set_same marks k true false within, refl)

  marked_still : (marks : List Bool) (k : ℕ) → length marks ≡ length (entries_of g) → IsShapeNumber g k
      → (x : List ℕ) → IsMarkedId g marks x → IsMarkedId g (set marks k true) x
  marked_still marks k count lt x (j, within, marked, is) = elim (cases_eq j k) [
    | inl same ↦ subst (IsMarkedId g (set marks k true)) (ap (id_of_number g) (sym same) ∙ is) (marked_here marks k count lt)
    | inr other ↦ (j, within, get_or-set_other marks k j true false other ∙ marked, is)
  ]

  pub fresh_id : (marks : List Bool) (k : ℕ) → IsShapeNumber g k → get_or marks k false ≡ false → IsMarkedId g marks (id_of_number g k) → ⊥
  fresh_id marks k lt fresh (j, within, marked, is) =
      let same = same_number g j k within lt is in
      apart (sym fresh ∙ ap (λ i. get_or marks i false) (sym same) ∙ marked)

module _ (g : Graph) (known : List Bool) where
  -- the root alone
  pub walk_begun : (k : ℕ) (count : ℕ) → count ≡ length (entries_of g) → length (replicate count false) ≡ count → IsShapeNumber g k
      → (IsUnserved (maps_of g) (id_of_number g k) → ⊥)
      → StandsAt g known (id_of_number g k) (set (replicate count false) k true) (id_of_number g k) 0 []
  walk_begun k count is long lt served = (
    record {
      here = marked_here g (replicate count false) k (long ∙ is) lt;
      taken = λ step by less. absurd (omega (arith, less));
      closed = λ x marked. inl (subst (Contains (id_of_number g k ∷ [])) (only x marked) (contains_head (id_of_number g k) []));
      served = λ x marked unserved. served (subst (IsUnserved (maps_of g)) (sym (only x marked)) unserved);
    },
    refl,
  )
    where
      only : (x : List ℕ) → IsMarkedId g (set (replicate count false) k true) x → id_of_number g k ≡ x
      only x marked = elim (marked_before g (replicate count false) k x marked) [
        | inl none ↦ absurd (none_marked count none.0 none.2)
        | inr is ↦ is
      ]

  -- more steps are taken
  open_more : (marks : List Bool) (open_ids : List (List ℕ)) (id : List ℕ) (at later : ℕ) → IsOpen g known marks open_ids id at
      → ((step : WayStep) → IsStep (maps_of g) id step → at ≤ step.at → step.at < later → IsPassed g known marks step.to)
      → IsOpen g known marks open_ids id later
  open_more marks open_ids id at later o more = record {
    here = o.here;
    taken = λ step is less. elim (cases_lt step.at at) [ inl before ↦ o.taken step is before | inr ge ↦ more step is ge less ];
    closed = o.closed;
    served = o.served;
  }

  pub stands_more : (root : List ℕ) (marks : List Bool) (id : List ℕ) (at later : ℕ) (above : List Above)
      → StandsAt g known root marks id at above
      → ((step : WayStep) → IsStep (maps_of g) id step → at ≤ step.at → step.at < later → IsPassed g known marks step.to)
      → StandsAt g known root marks id later above
  stands_more root marks id at later [] h more = (open_more marks (id ∷ []) id at later h.0 more, h.1)
  stands_more root marks id at later (a ∷ above) h more =
      (open_more marks (id ∷ ids_above g (a ∷ above)) id at later h.0 more, h.1, h.2)

  open_there : (root : List ℕ) (marks : List Bool) (id : List ℕ) (at : ℕ) (above : List Above) → StandsAt g known root marks id at above
      → IsOpen g known marks (id ∷ ids_above g above) id at
  open_there root marks id at [] h = h.0
  open_there root marks id at (a ∷ above) h = h.0

  -- into a shape that wasn't entered
  pub walk_enters : (root : List ℕ) (marks : List Bool) (a : Above) (above : List Above) (to : ℕ)
      → length marks ≡ length (entries_of g) → IsShapeNumber g to → StandsAt g known root marks (id_of_number g a.shape) a.at above
      → IsStep (maps_of g) (id_of_number g a.shape) (step_of a (id_of_number g to)) → get_or marks to false ≡ false
      → (IsUnserved (maps_of g) (id_of_number g to) → ⊥)
      → StandsAt g known root (set marks to true) (id_of_number g to) 0 (a ∷ above)
  walk_enters root marks a above to count lt h is fresh served =
      let o = open_there root marks (id_of_number g a.shape) a.at above h in
      let now = set marks to true in
      let ids = ids_above g (a ∷ above) in (
        record {
          here = marked_here g marks to count lt;
          taken = λ step by less. absurd (omega (arith, less));
          closed = λ x marked. elim (marked_before g marks to x marked) [
            | inl before ↦ elim (o.closed x before) [
              | inl among ↦ inl (contains_behind (id_of_number g to) x ids among)
              | inr steps ↦ inr (λ step by there. elim (steps step by there) [
                | inl entered ↦ inl (marked_still g marks to count lt step.to entered)
                | inr safe ↦ inr safe
              ])
            ]
            | inr same ↦ inl (subst (Contains (id_of_number g to ∷ ids)) same (contains_head (id_of_number g to) ids))
          ];
          served = λ x marked unserved. elim (marked_before g marks to x marked) [
            | inl before ↦ o.served x before unserved
            | inr same ↦ served (subst (IsUnserved (maps_of g)) (sym same) unserved)
          ];
        },
        is,
        (marks, fresh_id g marks to lt fresh, marked_still g marks to count lt, h),
      )

  -- back from a shape of which all steps are taken
  pub all_taken : (root : List ℕ) (marks : List Bool) (id : List ℕ) (at : ℕ) (above : List Above) → StandsAt g known root marks id at above
      → ((step : WayStep) → IsStep (maps_of g) id step → at ≤ step.at → IsPassed g known marks step.to)
      → (step : WayStep) → IsStep (maps_of g) id step → IsPassed g known marks step.to
  all_taken root marks id at above h more step is =
      let o = open_there root marks id at above h in
      elim (cases_lt step.at at) [ inl before ↦ o.taken step is before | inr ge ↦ more step is ge ]

  open_back : (before marks : List Bool) (open_ids : List (List ℕ)) (id inner : List ℕ) (at inner_at : ℕ)
      → IsOpen g known before (id ∷ open_ids) id at → IsOpen g known marks (inner ∷ id ∷ open_ids) inner inner_at
      → ((step : WayStep) → IsStep (maps_of g) inner step → IsPassed g known marks step.to)
      → ((x : List ℕ) → IsMarkedId g before x → IsMarkedId g marks x) → IsOpen g known marks (id ∷ open_ids) id at
  open_back before marks open_ids id inner at inner_at o i taken within = record {
    here = within id o.here;
    taken = λ step is less there. elim (o.taken step is less there) [ inl marked ↦ inl (within step.to marked) | inr safe ↦ inr safe ];
    closed = λ x marked. elim (i.closed x marked) [
      | inl among ↦ elim (contains_either inner x (id ∷ open_ids) among) [
        | inl same ↦ inr (subst (λ y. (step : WayStep) → IsStep (maps_of g) y step → IsPassed g known marks step.to) same taken)
        | inr later ↦ inl later
      ]
      | inr steps ↦ inr steps
    ];
    served = i.served;
  }

  pub walk_leaves : (root : List ℕ) (marks : List Bool) (id : List ℕ) (at : ℕ) (a : Above) (above : List Above)
      → StandsAt g known root marks id at (a ∷ above)
      → ((step : WayStep) → IsStep (maps_of g) id step → IsPassed g known marks step.to)
      → StandsAt g known root marks (id_of_number g a.shape) a.at above
  walk_leaves root marks id at a [] h taken =
      (open_back h.2.0 marks [] (id_of_number g a.shape) id a.at at h.2.3.0 h.0 taken h.2.2, h.2.3.1)
  walk_leaves root marks id at a (b ∷ above) h taken =
      let outer = h.2.3 in (
        open_back h.2.0 marks (ids_above g (b ∷ above)) (id_of_number g a.shape) id a.at at outer.0 h.0 taken h.2.2,
        outer.1,
        (outer.2.0, outer.2.1, λ x marked. h.2.2 x (outer.2.2 x marked), outer.2.3),
      )
