-- Steps of a walk: a target is taken, and is finished, new, or in the row; a part has no targets left.
use Rattle.std.proofs.Common.{◌≡◌, ◌⊎◌, inl, inr, ℕ, ◌+◌, ◌<◌, ◌≤◌, Bool, true, false, cond, List, [], ◌∷◌, ◌++◌, length}
use Rattle.std.proofs.Common.{Option, Some, None, refl, sym, ap, subst, arith, length-append}
use Rattle.std.specs.Prelude.{if◌then◌else◌}
use Rattle.std.proofs.lemmas.Option.{none-some, same_Some}
use Rattle.sm_merge.specs.declared.walk.Part.{Part}
use Rattle.sm_merge.specs.declared.walk.Status.{Status}
use Rattle.sm_merge.specs.steps.Links.{Links, At, Reaches, Comes}
use Rattle.sm_merge.specs.steps.Walking.{IsDone, StandsFrom, HasSource, first_open, IsKept, IsSegment, IsTied, AreParts, IsGrounded}
use Rattle.sm_merge.specs.steps.Walking.{AllReach}
use Rattle.sm_merge.proofs.Ats.{at_within, at_there, at_front, at_last, at_either_one, sides}
use Rattle.sm_merge.proofs.Ways.{one_way, comes_reaches, reaches_comes}

pub true_is_false : {A : Type 0} → true ≡ false → A
true_is_false e = absurd (subst (λ b. cond b (Unit {0}) ⊥) e tt)

-- where a target is, but for those of a part
abbrev pub IsElsewhere : List Status → Option ℕ → List ℕ → ℕ → ℕ → Type 0
IsElsewhere status held row end w = (held ≡ Some w) ⊎ (IsDone status w ⊎ StandsFrom row end w)

-- a walk goes on: what is the same up to these places, and where else targets are now
pub record Carries (status status_now : List Status) (held held_now : Option ℕ) (row row_now targets targets_now : List ℕ)
    (end last : ℕ) : Type 0 where
  pub was : (k v : ℕ) → k < end → At row_now k v → At row k v
  pub stays : (k v : ℕ) → k < end → At row k v → At row_now k v
  pub taken : (k w : ℕ) → k < last → At targets_now k w → At targets k w
  pub left : (k w : ℕ) → At targets k w → At targets_now k w ⊎ IsElsewhere status_now held_now row_now end w
  pub held_then : (w : ℕ) → held ≡ Some w → IsElsewhere status_now held_now row_now end w
  pub done : (w : ℕ) → IsDone status w → IsDone status_now w
  pub placed : (k w : ℕ) → At row k w → At row_now k w ⊎ IsDone status_now w

pub first_below : (ring : Bool) (n m : ℕ) → n < m → (if ring then n else n + 1) ≤ m
first_below true n m h = omega (arith, h)
first_below false n m h = omega (arith, h)

pub first_from : (ring : Bool) (n : ℕ) → n ≤ (if ring then n else n + 1)
first_from true n = omega arith
first_from false n = omega arith

lower_elsewhere : (status : List Status) (held : Option ℕ) (row : List ℕ) (end low w : ℕ) → low ≤ end → IsElsewhere status held row end w
    → IsElsewhere status held row low w
lower_elsewhere status held row end low w under (inl is) = inl is
lower_elsewhere status held row end low w under (inr (inl done)) = inr (inl done)
lower_elsewhere status held row end low w under (inr (inr s)) =
    inr (inr (record { place = s.place; behind = omega (arith, under, s.behind); there = s.there }))

elsewhere_kept : (status : List Status) (held : Option ℕ) (row targets : List ℕ) (end : ℕ) (p : Part) (w : ℕ) → p.numbers < end
    → IsElsewhere status held row end w → IsKept status held row targets p w
elsewhere_kept status held row targets end p w low (inl is) = inl is
elsewhere_kept status held row targets end p w low (inr (inl done)) = inr (inr (inl done))
elsewhere_kept status held row targets end p w low (inr (inr s)) =
    let first : first_open p ≤ end = first_below p.ring p.numbers end low in
    inr (inr (inr (record { place = s.place; behind = omega (arith, first, s.behind); there = s.there })))

module _ (status status_now : List Status) (held held_now : Option ℕ) (row row_now targets targets_now : List ℕ) where
  pub carries_lower : (end last low less : ℕ) → low ≤ end → less ≤ last
      → Carries status status_now held held_now row row_now targets targets_now end last
      → Carries status status_now held held_now row row_now targets targets_now low less
  carries_lower end last low less under fewer c = record {
    was = λ k v small there. c.was k v (omega (arith, small, under)) there;
    stays = λ k v small there. c.stays k v (omega (arith, small, under)) there;
    taken = λ k w small there. c.taken k w (omega (arith, small, fewer)) there;
    left = λ k w there. elim (c.left k w there) [
      | inl here ↦ inl here
      | inr e ↦ inr (lower_elsewhere status_now held_now row_now end low w under e)
    ];
    held_then = λ w is. lower_elsewhere status_now held_now row_now end low w under (c.held_then w is);
    done = c.done;
    placed = c.placed;
  }

  kept : (end last : ℕ) (p : Part) (w : ℕ) → Carries status status_now held held_now row row_now targets targets_now end last
      → p.numbers < end → IsKept status held row targets p w → IsKept status_now held_now row_now targets_now p w
  kept end last p w c low (inl is) = elsewhere_kept status_now held_now row_now targets_now end p w low (c.held_then w is)
  kept end last p w c low (inr (inl s)) = elim (c.left s.place w s.there) [
    | inl there ↦ inr (inl (record { place = s.place; behind = s.behind; there = there }))
    | inr e ↦ elsewhere_kept status_now held_now row_now targets_now end p w low e
  ]
  kept end last p w c low (inr (inr (inl done))) = inr (inr (inl (c.done w done)))
  kept end last p w c low (inr (inr (inr s))) = elim (c.placed s.place w s.there) [
    | inl there ↦ inr (inr (inr (record { place = s.place; behind = s.behind; there = there })))
    | inr done ↦ inr (inr (inl done))
  ]

  pub segment_kept : (links : Links) (end last less : ℕ) (p : Part)
      → Carries status status_now held held_now row row_now targets targets_now end less
      → less ≤ last → p.targets ≤ less → p.numbers < end → IsSegment links status held row targets end last p
      → IsSegment links status_now held_now row_now targets_now end less p
  segment_kept links end last less p c fewer room low h = record {
    room = room;
    sources = λ k w behind before there.
        let s = h.sources k w behind (omega (arith, before, fewer)) (c.taken k w before there) in
        record {
          place = s.place;
          number = s.number;
          behind = s.behind;
          before = s.before;
          there = c.stays s.place s.number s.before s.there;
          leads = s.leads;
        };
    followed = λ k v w behind before there leads.
        kept end less p w c low (h.followed k v w behind before (c.was k v before there) leads);
  }

  pub tied_kept : (links : Links) (end last : ℕ) (p : Part)
      → Carries status status_now held held_now row row_now targets targets_now end last → IsTied links row end p
      → IsTied links row_now end p
  tied_kept links end last p c h = record {
    some = h.some;
    round = λ is k v first behind before there at_first.
        h.round is k v first behind before (c.was k v before there) (c.was p.numbers first h.some at_first);
    alone = h.alone;
  }

  pub parts_kept : (links : Links) (end last : ℕ) (ps : List Part)
      → Carries status status_now held held_now row row_now targets targets_now end last
      → AreParts links status held row targets end last ps → AreParts links status_now held_now row_now targets_now end last ps
  parts_kept links end last [] c h = h
  parts_kept links end last (p ∷ ps) c (segment, tied, rest) =
      let some : p.numbers < end = tied.some in
      let room : p.targets ≤ last = segment.room in (
        segment_kept links end last last p c (omega arith) room some segment,
        tied_kept links end last p c tied,
        parts_kept links p.numbers p.targets ps (carries_lower end last p.numbers p.targets (omega (arith, some)) room c) rest,
      )

module _ (links : Links) (status : List Status) (row : List ℕ) where
  -- all of the row lead to a target of the last part
  source_reached : (p : Part) (w : ℕ) → IsTied links row (length row) p
      → ((i k v u : ℕ) → i ≤ k → At row i v → At row k u → Comes links v u) → (s : HasSource links row p.numbers (length row) w)
      → (k v : ℕ) → At row k v → (k < s.place) ⊎ (s.place ≤ k) → Reaches links v w
  source_reached p w tied chain s k v there (inl early) =
      comes_reaches links v s.number w (chain k s.place v s.number (omega (arith, early)) there s.there) (one_way links s.number w s.leads)
  source_reached p w tied chain s k v there (inr late) = by p.ring refl
    where
      inside : k < length row
      inside = at_within row k v there

      by : (ring : Bool) → p.ring ≡ ring → Reaches links v w
      by true is =
          let first = at_there row p.numbers tied.some in
          let behind = s.behind in
          comes_reaches links v s.number w
          (inr (reaches_comes links v first.0 s.number (tied.round is k v first.0 (omega (arith, behind, late)) inside there first.1)
          (chain p.numbers s.place first.0 s.number s.behind first.1 s.there)))
          (one_way links s.number w s.leads)
      by false is =
          let end = tied.alone is in
          let behind = s.behind in
          comes_reaches links v s.number w (chain k s.place v s.number (omega (arith, end, behind, late, inside)) there s.there)
          (one_way links s.number w s.leads)

  -- a target of the last part is taken
  pub popped_parts : (targets : List ℕ) (w : ℕ) (p : Part) (ps : List Part) → p.targets ≤ length targets
      → AreParts links status None row (targets ++ w ∷ []) (length row) (length (targets ++ w ∷ [])) (p ∷ ps)
      → AreParts links status (Some w) row targets (length row) (length targets) (p ∷ ps)
  popped_parts targets w p ps room (segment, tied, rest) =
      let c : Carries status status None (Some w) row row (targets ++ w ∷ []) targets (length row) (length targets) = record {
        was = λ k v small there. there;
        stays = λ k v small there. there;
        taken = λ k u small there. at_front targets (w ∷ []) k u there;
        left = λ k u there. elim (at_either_one targets w k u there) [
          | inl here ↦ inl here
          | inr (is, same) ↦ inr (inl (ap (λ x. Some x) (sym same)))
        ];
        held_then = λ u is. absurd (none-some u is);
        done = λ u done. done;
        placed = λ k u there. inl there;
      } in
      let some : p.numbers < length row = tied.some in (
        segment_kept status status None (Some w) row row (targets ++ w ∷ []) targets links (length row) (length (targets ++ w ∷ []))
            (length targets) p c (omega (arith, length-append targets (w ∷ []))) room some segment,
        tied_kept status status None (Some w) row row (targets ++ w ∷ []) targets links (length row) (length targets) p c tied,
        parts_kept status status None (Some w) row row (targets ++ w ∷ []) targets links p.numbers p.targets ps
            (carries_lower status status None (Some w) row row (targets ++ w ∷ []) targets (length row) (length targets) p.numbers p.targets
            (omega (arith, some)) room c) rest,
      )

  pub popped_reached : (targets order : List ℕ) (w : ℕ) (p : Part) (ps : List Part) → p.targets ≤ length targets
      → IsGrounded links status row (targets ++ w ∷ []) order
      → AreParts links status None row (targets ++ w ∷ []) (length row) (length (targets ++ w ∷ [])) (p ∷ ps) → AllReach links row w
  popped_reached targets order w p ps room g (segment, tied, rest) =
      let s : HasSource links row p.numbers (length row) w =
      segment.sources (length targets) w room (omega (arith, length-append targets (w ∷ []))) (at_last targets w) in
      λ k v there. source_reached p w tied g.chain s k v there (sides k s.place)

  pub popped_grounded : (targets order : List ℕ) (w : ℕ) → IsGrounded links status row (targets ++ w ∷ []) order
      → IsGrounded links status row targets order
  popped_grounded targets order w g = record {
    size = g.size;
    begun = g.begun;
    in_row = g.in_row;
    within = λ k u there. g.within k u (at_front targets (w ∷ []) k u there);
    chain = g.chain;
    closed = g.closed;
    told = g.told;
    placed = g.placed;
    listed = g.listed;
    once = g.once;
    behind = g.behind;
  }

  -- the target at hand is finished, or stands in the row behind all parts that are left
  pub settled_parts : (targets : List ℕ) (w end last : ℕ) (ps : List Part) → IsDone status w ⊎ StandsFrom row end w
      → AreParts links status (Some w) row targets end last ps → AreParts links status None row targets end last ps
  settled_parts targets w end last ps there h =
      parts_kept status status (Some w) None row row targets targets links end last ps (record {
        was = λ k v small there. there;
        stays = λ k v small there. there;
        taken = λ k u small there. there;
        left = λ k u there. inl there;
        held_then = λ u is. inr (subst (λ x. IsDone status x ⊎ StandsFrom row end x) (same_Some w u is) there);
        done = λ u done. done;
        placed = λ k u there. inl there;
      }) h
