-- How more is known, one shape after the other, and what unmarked shapes wait for meanwhile.
use Rattle.std.proofs.Common.{◌≡◌, ◌⊎◌, ◌<◌, ◌≤◌, ◌+◌, inl, inr, ℕ, zero, suc, Bool, true, false, List, [], ◌∷◌, ◌++◌, Option, Some, None}
use Rattle.std.proofs.Common.{get_or, drop, leb, length, map, replicate, take, refl, sym, ap, ◌∙◌, subst, arith, append_assoc}
use Rattle.std.specs.Prelude.{◌↔◌, not, set}
use Rattle.std.specs.FinMap as fin
use Rattle.std.specs.List.{Contains}
use Rattle.std.proofs.lemmas.Bool.{cases_eq, cases_lt, leb-true}
use Rattle.std.proofs.lemmas.Bool.Decides.{leb_tells}
use Rattle.std.proofs.lemmas.List.{append-nil, get_or-set_other, get_or-set_same, length-map, length-replicate, length-set}
use Rattle.std.proofs.lemmas.List.{take-append-drop, take-append-le, take_all, take_more}
use Rattle.std.proofs.lemmas.List.Elements.{Contains-append_left, Contains-get_or, Contains-push_cases}
use Rattle.std.proofs.lemmas.Option.{none-some, same_Some}
use Rattle.sm_model.specs.GraphView.{AreShapeNumbers, IsShapeNumber, entries_of, maps_of}
use Rattle.sm_model.specs.Reaching.{AreFound, Finds, IsMarked, id_of_number}
use Rattle.sm_model.specs.declared.graph.Graph.{Graph}
use Rattle.sm_model.specs.declared.kind.Kind.{Kind}
use Rattle.sm_model.specs.declared.kind.Kind.TheVariants.{Structure, Union, Service, Operation, Resource}
use Rattle.sm_model.proofs.Worklist.{apart, found_none, none_marked, numbers_more}
use Rattle.sm_compile.proofs.TabledShapes.{mapped_from, mapped_to}
use Rattle.sm_compile.specs.Looked.{kind_under, listed_under, target_under}
use Rattle.sm_compile.specs.TraitIds.{required_id}
use Rattle.sm_passes.specs.Carrying.{carries}
use Rattle.sm_passes.proofs.EntriesThere.{entry_there}
use Rattle.sm_passes.proofs.OwnShapes.{not_so}
use Rattle.sm_reference_rules.specs.declared.finite.Known.{Known}
use Rattle.sm_reference_rules.specs.declared.finite.FiniteWay.TheVariants.{ByOne, Always}
use Rattle.sm_rules.specs.Shapes.{HasFinite, is_always_finite}
use Rattle.sm_reference_rules.specs.steps.Finding.{IsHome, IsHomeOf, IsNext, IsStuck, Knows, Lacks, Moves, Opens, PassedTo, Says, Sees}
use Rattle.sm_reference_rules.specs.steps.Finding.{SomeClosed, StuckBy, Waits, Wants, is_member_id, way_of}
use Rattle.sm_reference_rules.proofs.FiniteFound.{other_finite, structure_finite, union_finite}
use Rattle.sm_compile.proofs.ReachedNumbers.{same_number}

-- what waits for more waits for less
module _ (g : Graph) (T U : ℕ → Type 0) (less : (k : ℕ) → T k → U k) where
  opens_less : (id : List ℕ) → Opens g U id → Opens g T id
  opens_less id (t, within, target, none) = (t, within, target, λ taken. none (less t taken))

  pub wants_less : (id : List ℕ) → Wants g U id → Wants g T id
  wants_less id (inl other) = inl other
  wants_less id (inr (needed, opens)) = inr (needed, opens_less id opens)

  lacks_less : (id : List ℕ) → Lacks g U id → Lacks g T id
  lacks_less id (inl other) = inl other
  lacks_less id (inr opens) = inr (opens_less id opens)

  stuck_less_by : (ids : List (List ℕ)) (p : ℕ) (o : Option Kind) → StuckBy g U ids p o → StuckBy g T ids p o
  stuck_less_by ids p None h = h
  stuck_less_by ids p (Some Structure) (small, wants) = (small, wants_less (get_or ids p []) wants)
  stuck_less_by ids p (Some Union) h = λ id among. lacks_less id (h id among)
  stuck_less_by ids p (Some kind) h = h

  pub stuck_less : (k p : ℕ) → IsStuck g U k p → IsStuck g T k p
  stuck_less k p h =
      stuck_less_by (listed_under (maps_of g) (id_of_number g k)) p (kind_under (maps_of g) (id_of_number g k)) h

-- one number more was taken, and what targets it waits for others
module _ (g : Graph) (T U : ℕ → Type 0) (t : ℕ) (next : (k : ℕ) → U k → T k ⊎ (k ≡ t)) where
  lacks_next : (id : List ℕ) → (target_under (maps_of g) id ≡ Some (id_of_number g t) → Lacks g U id) → Lacks g T id → Lacks g U id
  lacks_next id again (inl other) = inl other
  lacks_next id again (inr (s, within, target, none)) = elim (cases_eq s t) [
    | inl same ↦ again (subst (λ i. target_under (maps_of g) id ≡ Some (id_of_number g i)) same target)
    | inr other ↦ inr (s, within, target, λ taken. elim (next s taken) [ inl before ↦ none before | inr is ↦ other is ])
  ]

  stuck_next_by : (ids : List (List ℕ)) (p : ℕ) (o : Option Kind)
      → ((id : List ℕ) → Contains ids id → target_under (maps_of g) id ≡ Some (id_of_number g t) → StuckBy g U ids p o)
      → StuckBy g T ids p o → StuckBy g U ids p o
  stuck_next_by ids p None again h = h
  stuck_next_by ids p (Some Structure) again (small, inl other) = (small, inl other)
  stuck_next_by ids p (Some Structure) again (small, inr (needed, (s, within, target, none))) = elim (cases_eq s t) [
    | inl same ↦
        again (get_or ids p []) (Contains-get_or ids p [] small)
        (subst (λ i. target_under (maps_of g) (get_or ids p []) ≡ Some (id_of_number g i)) same target)
    | inr other ↦ (small, inr (needed, (s, within, target, λ taken. elim (next s taken) [ inl before ↦ none before | inr is ↦ other is ])))
  ]
  stuck_next_by ids p (Some Union) again h = λ id among. lacks_next id (λ target. again id among target id among) (h id among)
  stuck_next_by ids p (Some kind) again h = h

-- the laws of what is known
module _ (g : Graph) where
  pub moves_none : (P : ℕ → Type 0) (known : Known) → Knows g known → ((k : ℕ) → P k → IsMarked known.marks.items k) → Moves g P known known
  moves_none P known knows done = record {
    knows = knows;
    later = [];
    behind = sym (append-nil known.found.items);
    more = λ k marked. marked;
    kept = λ k within fresh. inl refl;
    looked = λ k within p fresh. absurd (fresh (done k p));
  }

  pub moves_then : (P Q : ℕ → Type 0) (a b c : Known) → Moves g P a b → Moves g Q b c → Moves g (λ k. P k ⊎ Q k) a c
  moves_then P Q a b c h k = record {
    knows = k.knows;
    later = h.later ++ k.later;
    behind = k.behind ∙ ap (λ xs. xs ++ k.later) h.behind ∙ append_assoc a.found.items h.later k.later;
    more = λ n marked. k.more n (h.more n marked);
    kept = λ n within fresh. elim (k.kept n within fresh) [
      | inl same ↦ elim (h.kept n within (λ marked. fresh (k.more n marked))) [
        | inl before ↦ inl (same ∙ before)
        | inr stuck ↦ inr (subst (IsStuck g (IsMarked a.marks.items) n) (sym same) stuck)
      ]
      | inr stuck ↦ inr (earlier n (get_or c.places.items n 0) stuck)
    ];
    looked = λ n within p fresh. elim p [
      | inl first ↦ elim (k.kept n within fresh) [
        | inl same ↦ subst (IsStuck g (IsMarked a.marks.items) n) (sym same) (h.looked n within first (λ marked. fresh (k.more n marked)))
        | inr stuck ↦ earlier n (get_or c.places.items n 0) stuck
      ]
      | inr second ↦ earlier n (get_or c.places.items n 0) (k.looked n within second fresh)
    ];
  }
    where
      earlier : (n p : ℕ) → IsStuck g (IsMarked b.marks.items) n p → IsStuck g (IsMarked a.marks.items) n p
      earlier n p stuck = stuck_less g (IsMarked a.marks.items) (IsMarked b.marks.items) (λ i marked. h.more i marked) n p stuck

  pub moves_same : (P Q : ℕ → Type 0) (a b : Known) → ((k : ℕ) → Q k → P k) → Moves g P a b → Moves g Q a b
  moves_same P Q a b from h = record {
    knows = h.knows;
    later = h.later;
    behind = h.behind;
    more = h.more;
    kept = h.kept;
    looked = λ k within q fresh. h.looked k within (from k q) fresh;
  }

  -- a shape that was looked at waits, or is marked
  pub stays : (shape : ℕ) (old now : Known) → Sees g shape old false now → Moves g (λ k. shape ≡ k) old now
  stays shape old now s = record {
    knows = s.knows;
    later = [];
    behind = s.found ∙ sym (append-nil old.found.items);
    more = λ k marked. subst (λ ms. IsMarked ms k) (sym s.marks) marked;
    kept = λ k within fresh. elim (cases_eq k shape) [
      | inl here ↦ inr (waits k here)
      | inr other ↦ inl (s.others k other)
    ];
    looked = λ k within is fresh. waits k (sym is);
  }
    where
      waits : (k : ℕ) → k ≡ shape → IsStuck g (IsMarked old.marks.items) k (get_or now.places.items k 0)
      waits k here =
          subst (λ i. IsStuck g (IsMarked old.marks.items) i (get_or now.places.items i 0)) (sym here)
          (subst (λ ms. IsStuck g (IsMarked ms) shape (get_or now.places.items shape 0)) s.marks s.says)

  pub marks_one : (shape : ℕ) (old mid now : Known) → Sees g shape old true mid → now.places.items ≡ mid.places.items
      → Finds (λ k. shape ≡ k) mid.marks.items mid.found.items now.marks.items now.found.items → Moves g (λ k. shape ≡ k) old now
  marks_one shape old mid now s places f = record {
    knows = record {
      are = f.are;
      whole = f.count ∙ s.knows.whole;
      long = ap length places ∙ s.knows.long;
      right = λ k marked. elim ((f.joins k).0 ((f.are.marked k).0 marked)) [
        | inl before ↦ s.knows.right k ((s.knows.are.marked k).1 before)
        | inr is ↦ subst (λ i. HasFinite (maps_of g) (id_of_number g i)) is s.says
      ];
      passed = λ k i kind less wants.
          s.knows.passed k i kind (subst (λ ps. i < get_or ps k 0) places less)
          (wants_less g (IsMarked mid.marks.items) (IsMarked now.marks.items) grows
          (get_or (listed_under (maps_of g) (id_of_number g k)) i []) wants);
    };
    later = f.later;
    behind = f.behind ∙ ap (λ xs. xs ++ f.later) s.found;
    more = λ k marked. grows k (subst (λ ms. IsMarked ms k) (sym s.marks) marked);
    kept = λ k within fresh. elim (cases_eq k shape) [
      | inl here ↦ absurd (fresh (it k (sym here)))
      | inr other ↦ inl (ap (λ ps. get_or ps k 0) places ∙ s.others k other)
    ];
    looked = λ k within is fresh. absurd (fresh (it k is));
  }
    where
      grows : (k : ℕ) → IsMarked mid.marks.items k → IsMarked now.marks.items k
      grows k marked = (f.are.marked k).1 ((f.joins k).1 (inl ((s.knows.are.marked k).0 marked)))

      it : (k : ℕ) → shape ≡ k → IsMarked now.marks.items k
      it k is = (f.are.marked k).1 ((f.joins k).1 (inr is))

  -- after all shapes were looked at each waits, or is marked
  pub waits_first : (old now : Known) → Moves g (λ k. k < length (entries_of g)) old now → Waits g (λ k. ⊥) now
  waits_first old now h = λ k within fresh.
      stuck_less g (λ i. ⊥) (IsMarked old.marks.items) (λ i none. absurd none) k (get_or now.places.items k 0)
      (h.looked k within within fresh)

  -- after the users of one number more
  pub waits_next : (User : ℕ → Type 0) (at : ℕ) (old now : Known) → at < length old.found.items → Moves g User old now
      → Knows g old → Waits g (Contains (take at old.found.items)) old
      → ((k : ℕ) (id : List ℕ) → IsShapeNumber g k → Contains (listed_under (maps_of g) (id_of_number g k)) id
      → target_under (maps_of g) id ≡ Some (id_of_number g (get_or old.found.items at 0)) → User k)
      → Waits g (Contains (take (at + 1) now.found.items)) now
  waits_next User at old now small h knows waits uses = λ k within fresh. elim (h.kept k within fresh) [
    | inl same ↦
        stuck_next_by g (Contains (take at old.found.items)) Taken (get_or old.found.items at 0) among
        (listed_under (maps_of g) (id_of_number g k)) (get_or now.places.items k 0) (kind_under (maps_of g) (id_of_number g k))
        (λ id there target. later k (h.looked k within (uses k id within there target) fresh))
        (subst (IsStuck g (Contains (take at old.found.items)) k) (sym same) (waits k within (λ marked. fresh (h.more k marked))))
    | inr stuck ↦ later k stuck
  ]
    where
      Taken : ℕ → Type 0
      Taken = Contains (take (at + 1) now.found.items)

      same_part : take (at + 1) now.found.items ≡ take at old.found.items ++ get_or old.found.items at 0 ∷ []
      same_part =
          ap (take (at + 1)) h.behind ∙ take-append-le (at + 1) old.found.items h.later (omega (arith, small))
          ∙ take_more old.found.items at 0 small

      among : (k : ℕ) → Taken k → Contains (take at old.found.items) k ⊎ (k ≡ get_or old.found.items at 0)
      among k taken =
          elim (Contains-push_cases (take at old.found.items) (get_or old.found.items at 0) k
          (subst (λ xs. Contains xs k) same_part taken)) [
            | inl before ↦ inl before
            | inr is ↦ inr (sym is)
          ]

      marked : (k : ℕ) → Taken k → IsMarked old.marks.items k
      marked k taken = elim (among k taken) [
        | inl before ↦ (knows.are.marked k).1 (taken_there (old.found.items) at k before)
        | inr is ↦ (knows.are.marked k).1 (subst (Contains old.found.items) (sym is) (Contains-get_or old.found.items at 0 small))
      ]
        where
          taken_there : (xs : List ℕ) (i k : ℕ) → Contains (take i xs) k → Contains xs k
          taken_there xs i k c = subst (λ ys. Contains ys k) (take-append-drop i xs) (Contains-append_left (take i xs) (drop i xs) k c)

      later : (k : ℕ) → IsStuck g (IsMarked old.marks.items) k (get_or now.places.items k 0)
          → IsStuck g Taken k (get_or now.places.items k 0)
      later k stuck = stuck_less g Taken (IsMarked old.marks.items) marked k (get_or now.places.items k 0) stuck

  -- once all that was found was taken
  pub waits_last : (at : ℕ) (known : Known) → Knows g known → length known.found.items ≤ at
      → Waits g (Contains (take at known.found.items)) known → Waits g (IsMarked known.marks.items) known
  waits_last at known knows all waits = λ k within fresh.
      stuck_less g (IsMarked known.marks.items) (Contains (take at known.found.items))
      (λ i marked. subst (λ xs. Contains xs i) (sym (take_all at known.found.items all)) ((knows.are.marked i).0 marked)) k
      (get_or known.places.items k 0) (waits k within fresh)

-- nothing is known at first
no_place : (n k : ℕ) → ◌≡◌ {A = ℕ} (get_or (replicate n 0) k 0) 0
no_place zero k = refl
no_place (suc n) zero = refl
no_place (suc n) (suc k) = no_place n k

pub knows_nothing : (g : Graph) (known : Known) (count : ℕ) → known.marks.items ≡ replicate count false → known.found.items ≡ []
    → known.places.items ≡ replicate count 0 → count ≡ length (entries_of g) → Knows g known
knows_nothing g known count marks found places all = record {
  are = subst (λ ms. AreFound ms known.found.items) (sym marks) (subst (AreFound (replicate count false)) (sym found) (found_none count));
  whole = ap length marks ∙ length-replicate count false ∙ all;
  long = ap length places ∙ length-replicate count 0 ∙ all;
  right = λ k marked. absurd (none_marked count k (subst (λ ms. IsMarked ms k) marks marked));
  passed = λ k i kind less wants.
      let none : get_or known.places.items k 0 ≡ 0 = ap (λ ps. get_or ps k 0) places ∙ no_place count k in
      omega (arith, none, less);
}

-- by the way of its type
pub way_union : (kind : Kind) → way_of kind ≡ ByOne → kind ≡ Union
way_union Union h = refl
way_union kind h = absurd cc

always_finite : (kind : Kind) → way_of kind ≡ Always → is_always_finite kind ≡ true
always_finite Structure h = absurd cc
always_finite Union h = absurd cc
always_finite Service h = absurd cc
always_finite Operation h = absurd cc
always_finite Resource h = absurd cc
always_finite kind h = refl

-- one shape is seen
module _ (g : Graph) (k : ℕ) where
  abbrev ids : List (List ℕ)
  ids = listed_under (maps_of g) (id_of_number g k)

  -- where nothing changes
  pub sees_same : (known : Known) → Knows g known → (seen : Bool) → Says g known.marks.items k (get_or known.places.items k 0) seen
      → Sees g k known seen known
  sees_same known knows seen says = record { knows = knows; marks = refl; found = refl; others = λ j other. refl; says = says }

  pub says_always : (marks : List Bool) (place : ℕ) (kind : Kind) → kind_under (maps_of g) (id_of_number g k) ≡ Some kind
      → way_of kind ≡ Always → Says g marks k place true
  says_always marks place kind there way = other_finite g k kind there (always_finite kind way)

  pub says_union : (marks : List Bool) → ((i : ℕ) → IsMarked marks i → HasFinite (maps_of g) (id_of_number g i)) → (place : ℕ)
      → kind_under (maps_of g) (id_of_number g k) ≡ Some Union → (seen : Bool) → SomeClosed g (IsMarked marks) ids seen
      → Says g marks k place seen
  says_union marks right place kind true (id, among, closed) = union_finite g marks right k kind id among closed
  says_union marks right place kind false lacks = subst (StuckBy g (IsMarked marks) ids place) (sym kind) lacks

  -- a structure whose place moves on
  pub sees_next : (old now : Known) (from next : ℕ) → Knows g old → k < length (entries_of g)
      → kind_under (maps_of g) (id_of_number g k) ≡ Some Structure → from ≡ get_or old.places.items k 0
      → IsNext (Wants g (IsMarked old.marks.items)) ids from next → now.marks.items ≡ old.marks.items
      → now.found.items ≡ old.found.items → now.places.items ≡ set old.places.items k next → (seen : Bool)
      → (seen ≡ true → length ids ≤ next) → (seen ≡ false → next < length ids) → Sees g k old seen now
  sees_next old now from next knows small kind here is marks found places seen ended goes = record {
    knows = record {
      are = subst (λ ms. AreFound ms now.found.items) (sym marks) (subst (AreFound old.marks.items) (sym found) knows.are);
      whole = ap length marks ∙ knows.whole;
      long = ap length places ∙ length-set old.places.items k next ∙ knows.long;
      right = right;
      passed = λ j i kind_is less wants. elim (cases_eq j k) [
        | inl same ↦ past (subst (λ x. i < get_or now.places.items x 0) same less)
            (subst (λ x. Wants g (IsMarked old.marks.items) (get_or (listed_under (maps_of g) (id_of_number g x)) i [])) same
            (before j i wants))
        | inr other ↦ knows.passed j i kind_is (subst (λ n. i < n) (others j other) less) (before j i wants)
      ];
    };
    marks = marks;
    found = found;
    others = others;
    says = says seen refl;
  }
    where
      within : k < length old.places.items
      within = let long = knows.long in omega (arith, small, long)

      place : get_or now.places.items k 0 ≡ next
      place = ap (λ ps. get_or ps k 0) places ∙ get_or-set_same old.places.items k next 0 within

      others : (j : ℕ) → (j ≡ k → ⊥) → get_or now.places.items j 0 ≡ get_or old.places.items j 0
      others j other = ap (λ ps. get_or ps j 0) places ∙ get_or-set_other old.places.items k j next 0 other

      before : (j i : ℕ) → Wants g (IsMarked now.marks.items) (get_or (listed_under (maps_of g) (id_of_number g j)) i [])
          → Wants g (IsMarked old.marks.items) (get_or (listed_under (maps_of g) (id_of_number g j)) i [])
      before j i wants = subst (λ ms. Wants g (IsMarked ms) (get_or (listed_under (maps_of g) (id_of_number g j)) i [])) marks wants

      right : (i : ℕ) → IsMarked now.marks.items i → HasFinite (maps_of g) (id_of_number g i)
      right i marked = knows.right i (subst (λ ms. IsMarked ms i) marks marked)

      past : {i : ℕ} → i < get_or now.places.items k 0 → Wants g (IsMarked old.marks.items) (get_or ids i []) → ⊥
      past {i} less wants = elim (cases_lt i from) [
        | inl earlier ↦ knows.passed k i kind (subst (λ n. i < n) here earlier) wants
        | inr later ↦ is.passed i later (subst (λ n. i < n) place less) wants
      ]

      says : (b : Bool) → seen ≡ b → Says g now.marks.items k (get_or now.places.items k 0) b
      says true ends =
          let all = ended ends in
          structure_finite g now.marks.items right k kind (λ i less wants.
          past (subst (λ n. i < n) (sym place) (omega (arith, less, all)))
          (subst (λ ms. Wants g (IsMarked ms) (get_or ids i [])) marks wants))
      says false stops =
          subst (λ ms. IsStuck g (IsMarked ms) k (get_or now.places.items k 0)) (sym marks)
          (subst (IsStuck g (IsMarked old.marks.items) k) (sym place)
          (subst (StuckBy g (IsMarked old.marks.items) ids next) (sym kind) (goes stops, is.wanted (goes stops))))

-- a place at or behind the end, as a test
pub ends_by : (a b n : ℕ) → n ≡ a → (leb a b ≡ true → n ≤ b) × (leb a b ≡ false → b < n)
ends_by a b n is = (
  λ h. let le = leb-true a b h in omega (arith, le, is),
  λ h. elim (leb_tells a b) [ inl t ↦ absurd (apart (sym h ∙ t.0)) | inr t ↦ let lt = t.1 in omega (arith, lt, is) ],
)

-- numbers up to one more
pub upto_next : (n k : ℕ) → k < n + 1 → (k < n) ⊎ (n ≡ k)
upto_next n k small = elim (cases_lt k n) [ inl less ↦ inl less | inr more ↦ inr (omega (arith, small, more)) ]

-- the shapes of members, one member after the other
pub homes_none : (g : Graph) (back : List (List ℕ)) (k : ℕ) → IsHomeOf g back [] k → ⊥
homes_none g back k h = let small = h.1.1 in omega (arith, small)

pub homes_next : (g : Graph) (back : List (List ℕ)) (members : List ℕ) (i : ℕ) → i < length members → (k : ℕ)
    → IsHomeOf g back (take (i + 1) members) k → IsHomeOf g back (take i members) k ⊎ IsHome g back (get_or members i 0) k
homes_next g back members i small k (n, among, home) = elim ((numbers_more members i small n).1 among) [
  | inl before ↦ inl (n, before, home)
  | inr is ↦ inr (subst (λ j. IsHome g back j k) (sym is) home)
]

-- tests by what they say
pub open_is : (g : Graph) (marks : List Bool) (id : List ℕ) (t : ℕ) → IsShapeNumber g t
    → target_under (maps_of g) id ≡ Some (id_of_number g t)
    → (b : Bool) → b ≡ not (get_or marks t false) → (b ≡ true) ↔ Opens g (IsMarked marks) id
open_is g marks id t small target b is = (
  λ h. (t, small, target, λ marked. apart (sym (not_so (get_or marks t false) (sym is ∙ h)) ∙ marked)),
  λ o. is ∙ by o (get_or marks t false) refl,
)
  where
    by : Opens g (IsMarked marks) id → (c : Bool) → get_or marks t false ≡ c → not c ≡ true
    by o false marked = refl
    by o true marked =
        let same : id_of_number g o.0 ≡ id_of_number g t = same_Some (id_of_number g o.0) (id_of_number g t) (sym o.2 ∙ target) in
        let here : o.0 ≡ t = same_number g o.0 t o.1 small same in
        absurd (o.3 (subst (IsMarked marks) (sym here) marked))

pub open_nowhere : (g : Graph) (T : ℕ → Type 0) (id : List ℕ)
    → ((target : List ℕ) → target_under (maps_of g) id ≡ Some target → fin.get (maps_of g).shapes target ≡ None)
    → (false ≡ true) ↔ Opens g T id
open_nowhere g T id none = (
  λ h. absurd (apart h),
  λ o. let e = entry_there g o.0 o.1 in absurd (none-some e.0 (sym (none (id_of_number g o.0) o.2) ∙ e.1)),
)

pub wanted_required : (g : Graph) (T : ℕ → Type 0) (id : List ℕ) → is_member_id g id ≡ true → carries (maps_of g) required_id id ≡ true
    → (free : Bool) → (free ≡ true) ↔ Opens g T id → (free ≡ true) ↔ Wants g T id
wanted_required g T id member needed free tells = (
  λ h. inr (needed, tells.0 h),
  λ w. elim w [ inl other ↦ absurd (apart (sym other ∙ member)) | inr h ↦ tells.1 h.1 ],
)

pub wanted_optional : (g : Graph) (T : ℕ → Type 0) (id : List ℕ) → is_member_id g id ≡ true → (b : Bool)
    → b ≡ carries (maps_of g) required_id id → b ≡ false → (b ≡ true) ↔ Wants g T id
wanted_optional g T id member b is optional = (
  λ h. absurd (apart (sym optional ∙ h)),
  λ w. absurd (elim w [ inl other ↦ apart (sym other ∙ member) | inr h ↦ apart (sym optional ∙ is ∙ h.0) ]),
)

pub wanted_other : (g : Graph) (T : ℕ → Type 0) (id : List ℕ) → is_member_id g id ≡ false → (true ≡ true) ↔ Wants g T id
wanted_other g T id other = (λ h. inl other, λ w. refl)

-- members by their places
pub shape_at : (g : Graph) (ms : List ℕ) → AreShapeNumbers g ms → (i : ℕ) → i < length ms → IsShapeNumber g (get_or ms i 0)
shape_at g [] all i small = absurd (omega (arith, small))
shape_at g (m ∷ ms) (first, rest) zero small = first
shape_at g (m ∷ ms) (first, rest) (suc i) small = shape_at g ms rest i (omega (arith, small))

map_at : (f : ℕ → List ℕ) (xs : List ℕ) (i : ℕ) → i < length xs → get_or (map f xs) i [] ≡ f (get_or xs i 0)
map_at f [] i small = absurd (omega (arith, small))
map_at f (x ∷ xs) zero small = refl
map_at f (x ∷ xs) (suc i) small = map_at f xs i (omega (arith, small))

module _ (g : Graph) (T : ℕ → Type 0) (ms : List ℕ) (from : ℕ) where
  pub passed_more : (place : ℕ) → place < length ms → PassedTo g T ms from place → (Wants g T (id_of_number g (get_or ms place 0)) → ⊥)
      → PassedTo g T ms from (place + 1)
  passed_more place small passed none i after before wants = elim (cases_eq i place) [
    | inl here ↦ none (subst (Wants g T) (map_at (id_of_number g) ms place small)
        (subst (λ j. Wants g T (get_or (map (id_of_number g) ms) j [])) here wants))
    | inr other ↦ passed i after (omega (arith, before, other)) wants
  ]

  pub next_here : (place : ℕ) → place < length ms → PassedTo g T ms from place → Wants g T (id_of_number g (get_or ms place 0))
      → IsNext (Wants g T) (map (id_of_number g) ms) from place
  next_here place small passed wants = record {
    within = let long = length-map ms (id_of_number g) in omega (arith, small, long);
    passed = passed;
    wanted = λ less. subst (Wants g T) (sym (map_at (id_of_number g) ms place small)) wants;
  }

-- one of some members is closed
module _ (g : Graph) (T : ℕ → Type 0) (ms : List ℕ) where
  pub closed_here : (i : ℕ) → i < length ms → (Lacks g T (id_of_number g (get_or ms i 0)) → ⊥)
      → SomeClosed g T (map (id_of_number g) ms) true
  closed_here i small none =
      (id_of_number g (get_or ms i 0), mapped_to (id_of_number g) ms (get_or ms i 0) (Contains-get_or ms i 0 small), none)

  pub closed_none : (i : ℕ) → length ms ≤ i → ((k : ℕ) → Contains (take i ms) k → Lacks g T (id_of_number g k))
      → SomeClosed g T (map (id_of_number g) ms) false
  closed_none i all lacks = λ id among.
      let k = mapped_from (id_of_number g) ms id among in
      subst (Lacks g T) k.2
      (lacks k.0 (subst (λ ks. Contains ks k.0) (sym (take_all i ms all)) k.1))
