-- A step of a walk: the last part has no targets left, and its numbers are finished.
use Rattle.std.proofs.Common.{◌≡◌, ◌⊎◌, inl, inr, ℕ, ◌+◌, ◌<◌, ◌≤◌, Bool, true, false, List, [], ◌∷◌, ◌++◌, length, take, drop, None}
use Rattle.std.proofs.Common.{refl, sym, subst, ◌∙◌, arith, length-append}
use Rattle.std.specs.Prelude.{◌↔◌, if◌then◌else◌}
use Rattle.std.proofs.lemmas.Option.{none-some}
use Rattle.sm_merge.specs.declared.walk.Part.{Part}
use Rattle.sm_merge.specs.declared.walk.Status.{Status}
use Rattle.sm_merge.specs.declared.walk.Status.TheVariants.{Begun, Finished}
use Rattle.sm_merge.specs.steps.Links.{Links, At, LeadsTo, IsWay, OnRing, StandsBefore}
use Rattle.sm_merge.specs.steps.Walking.{IsDone, StandsFrom, IsSegment, IsTied, AreParts, IsGrounded, AreMarked, first_open}
use Rattle.sm_merge.proofs.Ats.{at_within, at_one, at_there, at_front, at_behind, at_either, at_taken, at_take, at_dropped, at_drop, sides}
use Rattle.sm_merge.proofs.Ways.{reaches_comes, stays}
use Rattle.sm_merge.proofs.Walked.{true_is_false, parts_kept, first_from}
use Rattle.sm_merge.proofs.WalkBegun.{begun_at, begun_finished}

module _ (links : Links) (status now : List Status) (row targets order : List ℕ) (p : Part) (g : IsGrounded links status row targets order)
    (segment : IsSegment links status None row targets (length row) (length targets) p) (tied : IsTied links row (length row) p)
    (ended : length targets ≤ p.targets) (marked : AreMarked (drop p.numbers row) p.ring status now) where
  -- a number of the part
  abbrev pub IsOfPart : ℕ → ℕ → Type 0
  IsOfPart k v = (p.numbers ≤ k) × At row k v

  of_dropped : (v : ℕ) → StandsFrom (drop p.numbers row) 0 v → (k : ℕ) × IsOfPart k v
  of_dropped v s = (p.numbers + s.place, (omega arith, at_dropped p.numbers row s.place v s.there))

  part_done : (k v : ℕ) → IsOfPart k v → At now v (Finished p.ring)
  part_done k v (low, there) = let s = at_drop p.numbers row k v low there in marked.marked s.0 v s.2

  -- what was finished, or begun before the part, is so still
  not_of_part : (v : ℕ) (s : Status) → ((k : ℕ) → IsOfPart k v → s ≡ Begun k → ⊥) → At status v s → At now v s
  not_of_part v s other there = elim (marked.kept v s there) [
    | inl here ↦ here
    | inr dropped ↦
        let of = of_dropped v dropped in absurd (other of.0 of.1 (at_one status v s (Begun of.0) there (g.in_row of.0 v of.1.1)))
  ]

  done_then : (v : ℕ) → IsDone status v → IsDone now v
  done_then v done = record {
    ring = done.ring;
    there = not_of_part v (Finished done.ring) (λ k of is. begun_finished k done.ring is) done.there;
  }

  unfinished : (k v : ℕ) → At row k v → IsDone status v → ⊥
  unfinished k v there done = begun_finished k done.ring (at_one status v (Finished done.ring) (Begun k) done.there (g.in_row k v there))

  done_was : (v : ℕ) → IsDone now v → IsDone status v ⊎ ((k : ℕ) × IsOfPart k v)
  done_was v done = elim (marked.only v (Finished done.ring) done.there) [
    | inl before ↦ inl (record { ring = done.ring; there = before })
    | inr (is, dropped) ↦ inr (of_dropped v dropped)
  ]

  -- where the part's numbers lead
  leads_where : (k v u : ℕ) → IsOfPart k v → LeadsTo links v u → IsDone status u ⊎ StandsFrom row (first_open p) u
  leads_where k v u (low, there) leads = elim (segment.followed k v u low (at_within row k v there) there leads) [
    | inl is ↦ absurd (none-some u is)
    | inr (inl s) ↦
        let behind : p.targets ≤ s.place = s.behind in
        let small : s.place < length targets = at_within targets s.place u s.there in
        absurd (omega (arith, ended, behind, small))
    | inr (inr (inl done)) ↦ inl done
    | inr (inr (inr stands)) ↦ inr stands
  ]

  leads_done : (k v u : ℕ) → IsOfPart k v → LeadsTo links v u → IsDone now u
  leads_done k v u of leads = elim (leads_where k v u of leads) [
    | inl done ↦ done_then u done
    | inr s ↦
        let first : p.numbers ≤ first_open p = first_from p.ring p.numbers in
        let behind : first_open p ≤ s.place = s.behind in
        record { ring = p.ring; there = part_done s.place u (omega (arith, first, behind), s.there) }
  ]

  -- a part that is no ring leads to what was finished alone
  leads_out : p.ring ≡ false → (k v u : ℕ) → IsOfPart k v → LeadsTo links v u → IsDone status u
  leads_out is k v u of leads = elim (leads_where k v u of leads) [
    | inl done ↦ done
    | inr s ↦
        let only : length row ≡ p.numbers + 1 = tied.alone is in
        let behind : p.numbers + 1 ≤ s.place = subst (λ ring. (if ring then p.numbers else p.numbers + 1) ≤ s.place) is s.behind in
        let small : s.place < length row = at_within row s.place u s.there in
        absurd (omega (arith, only, behind, small))
  ]

  no_ring : p.ring ≡ false → (k v : ℕ) → IsOfPart k v → (us : List ℕ) → IsWay links v us v → ⊥
  no_ring is k v of [] leads = unfinished k v of.1 (leads_out is k v v of leads)
  no_ring is k v of (u ∷ us) (first, more) =
      unfinished k v of.1 (stays links (IsDone status) g.closed us u v (leads_out is k v u of first) more)

  on_ring : p.ring ≡ true → (k v : ℕ) → IsOfPart k v → OnRing links v
  on_ring is k v (low, there) =
      let first = at_there row p.numbers tied.some in
      reaches_comes links v first.0 v (tied.round is k v first.0 low (at_within row k v there) there first.1)
      (g.chain p.numbers k first.0 v low first.1 there)

  part_told : (ring : Bool) → p.ring ≡ ring → (k v : ℕ) → IsOfPart k v → (ring ≡ true) ↔ OnRing links v
  part_told true is k v of = (λ same. on_ring is k v of, λ way. refl)
  part_told false is k v of = (λ same. true_is_false (sym same), λ way. absurd (no_ring is k v of way.between way.way))

  told : (v : ℕ) (ring : Bool) → At now v (Finished ring) → (ring ≡ true) ↔ OnRing links v
  told v ring there = elim (marked.only v (Finished ring) there) [
    | inl before ↦ g.told v ring before
    | inr (is, dropped) ↦ let of = of_dropped v dropped in part_told ring (sym (same_ring ring p.ring is)) of.0 v of.1
  ]
    where
      same_ring : (a b : Bool) → Finished a ≡ Finished b → a ≡ b
      same_ring a b e = cc

  earlier : (n m u : ℕ) → n ≤ m → StandsBefore order n u → StandsBefore (order ++ drop p.numbers row) m u
  earlier n m u under s = record {
    place = s.place;
    before = omega (arith, under, s.before);
    there = at_front order (drop p.numbers row) s.place u s.there;
  }

  placed : (v : ℕ) → IsDone now v → StandsBefore (order ++ drop p.numbers row) (length (order ++ drop p.numbers row)) v
  placed v done = elim (done_was v done) [
    | inl before ↦ earlier (length order) (length (order ++ drop p.numbers row)) v
        (omega (arith, length-append order (drop p.numbers row))) (g.placed v before)
    | inr (k, of) ↦
        let s = at_drop p.numbers row k v of.0 of.1 in
        let behind = at_behind order (drop p.numbers row) s.0 v s.2 in
        record {
          place = length order + s.0;
          before = at_within (order ++ drop p.numbers row) (length order + s.0) v behind;
          there = behind;
        }
  ]

  listed : (k v : ℕ) → At (order ++ drop p.numbers row) k v → IsDone now v
  listed k v there = elim (at_either order (drop p.numbers row) k v there) [
    | inl here ↦ done_then v (g.listed k v here)
    | inr (i, is, dropped) ↦
        record { ring = p.ring; there = part_done (p.numbers + i) v (omega arith, at_dropped p.numbers row i v dropped) }
  ]

  once : (i k v : ℕ) → At (order ++ drop p.numbers row) i v → At (order ++ drop p.numbers row) k v → i ≡ k
  once i k v at_i at_k = elim (at_either order (drop p.numbers row) i v at_i) [
    | inl one ↦ elim (at_either order (drop p.numbers row) k v at_k) [
      | inl other ↦ g.once i k v one other
      | inr (b, is, later) ↦ absurd (unfinished (p.numbers + b) v (at_dropped p.numbers row b v later) (g.listed i v one))
    ]
    | inr (a, is_a, one) ↦ elim (at_either order (drop p.numbers row) k v at_k) [
      | inl other ↦ absurd (unfinished (p.numbers + a) v (at_dropped p.numbers row a v one) (g.listed k v other))
      | inr (b, is_b, other) ↦
          let same : p.numbers + a ≡ p.numbers + b =
          begun_at (p.numbers + a) (p.numbers + b)
          (at_one status v (Begun (p.numbers + a)) (Begun (p.numbers + b))
          (g.in_row (p.numbers + a) v (at_dropped p.numbers row a v one))
          (g.in_row (p.numbers + b) v (at_dropped p.numbers row b v other))) in
          omega (arith, same, is_a, is_b)
    ]
  ]

  behind_part : (ring : Bool) → p.ring ≡ ring → (j k v u : ℕ) → IsOfPart j v → length order ≤ k → LeadsTo links v u
      → OnRing links u ⊎ StandsBefore (order ++ drop p.numbers row) k u
  behind_part false is j k v u of late leads = inr (earlier (length order) k u late (g.placed u (leads_out is j v u of leads)))
  behind_part true is j k v u of late leads = elim (leads_where j v u of leads) [
    | inl done ↦ inr (earlier (length order) k u late (g.placed u done))
    | inr s ↦
        let first : p.numbers ≤ first_open p = first_from p.ring p.numbers in
        let low : first_open p ≤ s.place = s.behind in
        inl (on_ring is s.place u (omega (arith, first, low), s.there))
  ]

  behind : (k v u : ℕ) → At (order ++ drop p.numbers row) k v → LeadsTo links v u
      → OnRing links u ⊎ StandsBefore (order ++ drop p.numbers row) k u
  behind k v u there leads = elim (at_either order (drop p.numbers row) k v there) [
    | inl here ↦ elim (g.behind k v u here leads) [
      | inl ring ↦ inl ring
      | inr before ↦ inr (earlier k k u (omega arith) before)
    ]
    | inr (i, is, dropped) ↦
        behind_part p.ring refl (p.numbers + i) k v u (omega arith, at_dropped p.numbers row i v dropped) (omega (arith, is)) leads
  ]

  begun_before : (k v : ℕ) → At now v (Begun k) → At (take p.numbers row) k v
  begun_before k v there = elim (marked.only v (Begun k) there) [
    | inl before ↦ by (g.begun k v before) (sides k p.numbers)
    | inr (is, dropped) ↦ begun_finished k p.ring (sym is)
  ]
    where
      by : At row k v → (k < p.numbers) ⊎ (p.numbers ≤ k) → At (take p.numbers row) k v
      by at_v (inl low) = at_take p.numbers row k v low at_v
      by at_v (inr high) = begun_finished k p.ring (at_one now v (Finished p.ring) (Begun k) (part_done k v (high, at_v)) there)

  in_row_before : (k v : ℕ) → At (take p.numbers row) k v → At now v (Begun k)
  in_row_before k v there =
      let before = at_taken p.numbers row k v there in
      not_of_part v (Begun k)
      (λ j of is. let same : k ≡ j = begun_at k j is in let low : p.numbers ≤ j = of.0 in absurd (omega (arith, same, low, before.1)))
      (g.in_row k v before.0)

  pub finished_grounded : length now ≡ length status → IsGrounded links now (take p.numbers row) targets (order ++ drop p.numbers row)
  finished_grounded size = record {
    size = size ∙ g.size;
    begun = begun_before;
    in_row = in_row_before;
    within = g.within;
    chain = λ i k v u under at_v at_u. g.chain i k v u under (at_taken p.numbers row i v at_v).0 (at_taken p.numbers row k u at_u).0;
    closed = λ v u done leads. elim (done_was v done) [
      | inl before ↦ done_then u (g.closed v u before leads)
      | inr (k, of) ↦ leads_done k v u of leads
    ];
    told = told;
    placed = placed;
    listed = listed;
    once = once;
    behind = behind;
  }

  pub finished_parts : (ps : List Part) → AreParts links status None row targets p.numbers p.targets ps
      → AreParts links now None (take p.numbers row) targets p.numbers p.targets ps
  finished_parts ps h =
      parts_kept status now None None row (take p.numbers row) targets targets links p.numbers p.targets ps
      (record {
        was = λ k v small there. (at_taken p.numbers row k v there).0;
        stays = λ k v small there. at_take p.numbers row k v small there;
        taken = λ k u small there. there;
        left = λ k u there. inl there;
        held_then = λ u is. absurd (none-some u is);
        done = done_then;
        placed = λ k u there. elim (sides k p.numbers) [
          | inl low ↦ inl (at_take p.numbers row k u low there)
          | inr high ↦ inr (record { ring = p.ring; there = part_done k u (high, there) })
        ];
      }) h
