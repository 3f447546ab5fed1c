-- A step of a walk: a number of the row is led to again, and its part and all behind it become one.
use Rattle.std.proofs.Common.{◌≡◌, inl, inr, ℕ, ◌+◌, ◌<◌, ◌≤◌, Bool, true, false, List, [], ◌∷◌, length, Option, Some, None}
use Rattle.std.proofs.Common.{refl, subst, arith}
use Rattle.std.proofs.lemmas.Option.{same_Some}
use Rattle.sm_merge.specs.declared.walk.Part.{Part}
use Rattle.sm_merge.specs.declared.walk.Status.{Status}
use Rattle.sm_merge.specs.steps.Links.{Links, At, Comes}
use Rattle.sm_merge.specs.steps.Walking.{first_open, IsKept, IsSegment, IsTied, AreParts, AllReach, IsJoining}
use Rattle.sm_merge.proofs.Ats.{at_within, at_one, sides}
use Rattle.sm_merge.proofs.Ways.{reaches_comes}
use Rattle.sm_merge.proofs.Walked.{first_from, settled_parts}

wider : (status : List Status) (held : Option ℕ) (row targets : List ℕ) (p q : Part) (w : ℕ) → q.targets ≤ p.targets
    → first_open q ≤ first_open p → IsKept status held row targets p w → IsKept status held row targets q w
wider status held row targets p q w fewer low (inl is) = inl is
wider status held row targets p q w fewer low (inr (inl s)) =
    inr (inl (record { place = s.place; behind = omega (arith, s.behind, fewer); there = s.there }))
wider status held row targets p q w fewer low (inr (inr (inl done))) = inr (inr (inl done))
wider status held row targets p q w fewer low (inr (inr (inr s))) =
    inr (inr (inr (record { place = s.place; behind = omega (arith, s.behind, low); there = s.there })))

-- parts from one place on, as one
abbrev pub ring_from : ℕ → ℕ → Part
ring_from numbers targets = record { numbers = numbers; targets = targets; ring = true }

module _ (links : Links) (status : List Status) (row targets : List ℕ) (w : ℕ) where
  segment_joined : (end last : ℕ) (p : Part) → p.numbers < end → IsSegment links status (Some w) row targets end last p
      → IsSegment links status (Some w) row targets (length row) (length targets) (ring_from end last)
      → IsSegment links status (Some w) row targets (length row) (length targets) (ring_from p.numbers p.targets)
  segment_joined end last p low h upper =
      let fewer : p.targets ≤ last = h.room in
      let room : last ≤ length targets = upper.room in
      let first : p.numbers ≤ first_open p = first_from p.ring p.numbers in
      record {
        room = omega (arith, fewer, room);
        sources = λ k u behind before there. elim (sides k last) [
          | inl early ↦
              let s = h.sources k u behind early there in
              record {
                place = s.place;
                number = s.number;
                behind = s.behind;
                before = at_within row s.place s.number s.there;
                there = s.there;
                leads = s.leads;
              }
          | inr late ↦
              let s = upper.sources k u late before there in
              let high : end ≤ s.place = s.behind in
              record {
                place = s.place;
                number = s.number;
                behind = omega (arith, high, low);
                before = s.before;
                there = s.there;
                leads = s.leads;
              }
        ];
        followed = λ k v u behind before there leads. elim (sides k end) [
          | inl early ↦
              wider status (Some w) row targets p (ring_from p.numbers p.targets) u (omega arith) first
              (h.followed k v u behind early there leads)
          | inr late ↦
              wider status (Some w) row targets (ring_from end last) (ring_from p.numbers p.targets) u fewer (omega (arith, low))
              (upper.followed k v u late before there leads)
        ];
      }

  pub joining : (m : ℕ) (ps : List Part) → At row m w → AreParts links status (Some w) row targets (length row) (length targets) ps
      → IsJoining links status row targets w m ps
  joining m ps there h = record {
    end = length row;
    last = length targets;
    parts = h;
    upper = record {
      room = omega arith;
      sources = λ k u behind before at_u. absurd (omega (arith, behind, before));
      followed = λ k v u behind before at_v leads. absurd (omega (arith, behind, before));
    };
    place = at_within row m w there;
  }

  pub joining_more : (m : ℕ) (p : Part) (ps : List Part) → m < p.numbers → IsJoining links status row targets w m (p ∷ ps)
      → IsJoining links status row targets w m ps
  joining_more m p ps low h =
      let tied = h.parts.1 in
      record {
        end = p.numbers;
        last = p.targets;
        parts = h.parts.2;
        upper = segment_joined h.end h.last p tied.some h.parts.0 h.upper;
        place = low;
      }

  pub joining_some : (m : ℕ) → IsJoining links status row targets w m [] → ⊥
  joining_some m h = let none : h.end ≡ 0 = h.parts in let low : m < h.end = h.place in omega (arith, none, low)

  comes_first : (m end : ℕ) (p : Part) (ring : Bool) → p.ring ≡ ring → IsTied links row end p → p.numbers ≤ m → m < end → At row m w
      → (first : ℕ) → At row p.numbers first → Comes links w first
  comes_first m end p true is tied low high there first at_first = inr (tied.round is m w first low high there at_first)
  comes_first m end p false is tied low high there first at_first =
      let only : end ≡ p.numbers + 1 = tied.alone is in
      let same : m ≡ p.numbers = omega (arith, only, low, high) in
      inl (at_one row p.numbers w first (subst (λ i. At row i w) same there) at_first)

  pub joined_parts : (m : ℕ) (p : Part) (ps : List Part) → p.numbers ≤ m → At row m w → AllReach links row w
      → IsJoining links status row targets w m (p ∷ ps)
      → AreParts links status None row targets (length row) (length targets) (ring_from p.numbers p.targets ∷ ps)
  joined_parts m p ps low there reach h =
      let tied = h.parts.1 in
      let some : p.numbers < h.end = tied.some in
      let whole = segment_joined h.end h.last p some h.parts.0 h.upper in
      let inside : m < length row = at_within row m w there in (
        record {
          room = whole.room;
          sources = whole.sources;
          followed = λ k v u behind before at_v leads. elim (whole.followed k v u behind before at_v leads) [
            | inl is ↦ inr (inr (inr (record { place = m; behind = low; there = subst (λ x. At row m x) (same_Some w u is) there })))
            | inr other ↦ inr other
          ];
        },
        record {
          some = omega (arith, low, inside);
          round = λ is k v first behind before at_v at_first.
              reaches_comes links v w first (reach k v at_v) (comes_first m h.end p p.ring refl tied low h.place there first at_first);
          alone = λ is. absurd (true_is is);
        },
        settled_parts links status row targets w p.numbers p.targets ps (inr (record { place = m; behind = low; there = there })) h.parts.2,
      )
    where
      true_is : true ≡ false → ⊥
      true_is e = cc
