-- A worklist: what is found and marked, one number after the other, and what is led to once all steps were taken.
use Rattle.std.proofs.Common.{◌≡◌, ◌≢◌, ◌⊎◌, inl, inr, ℕ, ◌+◌, ◌<◌, ◌≤◌, zero, suc, Bool, true, false, List, [], ◌∷◌, ◌++◌, length}
use Rattle.std.proofs.Common.{get_or, take, refl, sym, ap, ◌∙◌, subst, arith, append_assoc, length-append}
use Rattle.std.specs.Prelude.{◌↔◌, cond, not, replicate, set}
use Rattle.std.specs.List.{Contains, count_by}
use Rattle.std.proofs.lemmas.Bool.{cases_lt, cases_eq}
use Rattle.std.proofs.lemmas.List.{append-nil, get_or-set_other, get_or-set_same, length-replicate, length-set, take_more}
use Rattle.std.proofs.lemmas.List.Elements.{Contains-append_cases, Contains-append_left, Contains-push, Contains-push_cases}
use Rattle.std.proofs.lemmas.List.Folds.{sum_by-replicate}
use Rattle.std.proofs.lemmas.List.Sums.{sum_by-set}
use Rattle.sm_model.specs.Reaching.{AreFound, AreLedTo, Finds, IsMarked, LeadsOn, Spreads}

pub apart : false ≡ true → ⊥
apart e = absurd (subst (λ b. cond b ⊥ (Unit {0})) e tt)

-- a marked number is one of the marks
pub marked_within : (marks : List Bool) (k : ℕ) → IsMarked marks k → k < length marks
marked_within [] k h = absurd (apart h)
marked_within (m ∷ ms) zero h = omega arith
marked_within (m ∷ ms) (suc k) h = let rest = marked_within ms k h in omega (arith, rest)

-- the laws of what is found
pub finds_none : (P : ℕ → Type 0) (marks : List Bool) (found : List ℕ) → AreFound marks found → ((k : ℕ) → P k → Contains found k)
    → Finds P marks found marks found
finds_none P marks found are there = record {
  are = are;
  count = refl;
  later = [];
  behind = sym (append-nil found);
  joins = λ k. (λ h. inl h, λ h. elim h [ inl old ↦ old | inr new ↦ there k new ]);
}

pub finds_same : (P Q : ℕ → Type 0) (marks : List Bool) (found : List ℕ) (marks_now : List Bool) (found_now : List ℕ) → ((k : ℕ)
    → P k ↔ Q k)
    → Finds P marks found marks_now found_now → Finds Q marks found marks_now found_now
finds_same P Q marks found marks_now found_now same f = record {
  are = f.are;
  count = f.count;
  later = f.later;
  behind = f.behind;
  joins = λ k. (
    λ h. elim ((f.joins k).0 h) [ inl old ↦ inl old | inr p ↦ inr ((same k).0 p) ],
    λ h. (f.joins k).1 (elim h [ inl old ↦ inl old | inr q ↦ inr ((same k).1 q) ]),
  );
}

pub finds_then : (P Q : ℕ → Type 0) (marks : List Bool) (found : List ℕ) (marks_mid : List Bool) (found_mid : List ℕ)
    (marks_now : List Bool)
    (found_now : List ℕ) → Finds P marks found marks_mid found_mid → Finds Q marks_mid found_mid marks_now found_now
    → Finds (λ k. P k ⊎ Q k) marks found marks_now found_now
finds_then P Q marks found marks_mid found_mid marks_now found_now f g = record {
  are = g.are;
  count = g.count ∙ f.count;
  later = f.later ++ g.later;
  behind = g.behind ∙ ap (λ xs. xs ++ g.later) f.behind ∙ append_assoc found f.later g.later;
  joins = λ k. (
    λ h. elim ((g.joins k).0 h) [
      | inl mid ↦ elim ((f.joins k).0 mid) [ inl old ↦ inl old | inr p ↦ inr (inl p) ]
      | inr q ↦ inr (inr q)
    ],
    λ h. (g.joins k).1 (elim h [
      | inl old ↦ inl ((f.joins k).1 (inl old))
      | inr pq ↦ elim pq [ inl p ↦ inl ((f.joins k).1 (inr p)) | inr q ↦ inr q ]
    ]),
  );
}

-- a number that was found before, and one that wasn't
pub mark_known : (marks : List Bool) (found : List ℕ) (number : ℕ) → AreFound marks found → IsMarked marks number
    → Finds (λ k. number ≡ k) marks found marks found
mark_known marks found number are marked =
    finds_none (λ k. number ≡ k) marks found are (λ k is. subst (Contains found) is ((are.marked number).0 marked))

marked_new : (marks : List Bool) (found : List ℕ) (number : ℕ) → number < length marks → AreFound marks found
    → (k : ℕ) → IsMarked (set marks number true) k ↔ Contains (found ++ number ∷ []) k
marked_new marks found number lt are k = elim (cases_eq k number) [
  | inl here ↦ (
    λ h. subst (Contains (found ++ number ∷ [])) (sym here) (Contains-push found number),
    λ h. ap (λ i. get_or (set marks number true) i false) here ∙ get_or-set_same marks number true false lt,
  )
  | inr other ↦
      let same : get_or (set marks number true) k false ≡ get_or marks k false = get_or-set_other marks number k true false other in (
        λ h. Contains-append_left found (number ∷ []) k ((are.marked k).0 (sym same ∙ h)),
        λ h. same ∙ (are.marked k).1 (elim (Contains-push_cases found number k h) [
          | inl old ↦ old
          | inr is ↦ absurd (other (sym is))
        ]),
      )
]

pub mark_new : (marks : List Bool) (found : List ℕ) (number : ℕ) → number < length marks → AreFound marks found
    → get_or marks number false ≡ false → Finds (λ k. number ≡ k) marks found (set marks number true) (found ++ number ∷ [])
mark_new marks found number lt are fresh =
    let counted = sum_by-set (λ m. cond (not m) 1 0) marks number true false lt in
    let was : ◌≡◌ {A = ℕ} (cond (not (get_or marks number false)) 1 0) 1 = ap (λ (m : Bool). cond {A = ℕ} (not m) 1 0) fresh in
    let long = length-append found (number ∷ []) in
    record {
      are = record {
        marked = marked_new marks found number lt are;
        few = omega (arith, counted, was, long, are.few, length-set marks number true);
      };
      count = length-set marks number true;
      later = number ∷ [];
      behind = refl;
      joins = λ k. (
        λ h. Contains-push_cases found number k h,
        λ h. elim h [
          | inl old ↦ Contains-append_left found (number ∷ []) k old
          | inr is ↦ subst (Contains (found ++ number ∷ [])) is (Contains-push found number)
        ],
      );
    }

-- nothing is marked at first
pub none_marked : (n k : ℕ) → IsMarked (replicate n false) k → ⊥
none_marked zero k h = apart h
none_marked (suc n) zero h = apart h
none_marked (suc n) (suc k) h = none_marked n k h

all_unmarked : (n : ℕ) → count_by not (replicate n false) ≡ length (replicate n false)
all_unmarked n = let counted = sum_by-replicate (λ (x : Bool). cond {A = ℕ} (not x) 1 0) n false in omega
    (arith, counted, length-replicate n false)

pub found_none : (n : ℕ) → AreFound (replicate n false) []
found_none n = record {
  marked = λ k. (λ h. absurd (none_marked n k h), λ h. absurd (omega (arith, h.1)));
  few = omega (arith, all_unmarked n);
}

-- one number after the other
pub numbers_more : (numbers : List ℕ) (i : ℕ) → i < length numbers
    → (k : ℕ) → (Contains (take i numbers) k ⊎ (get_or numbers i 0 ≡ k)) ↔ Contains (take (i + 1) numbers) k
numbers_more numbers i lt k =
    let more : take (i + 1) numbers ≡ take i numbers ++ get_or numbers i 0 ∷ [] = take_more numbers i 0 lt in (
      λ h. subst (λ xs. Contains xs k) (sym more) (elim h [
        | inl old ↦ Contains-append_left (take i numbers) (get_or numbers i 0 ∷ []) k old
        | inr is ↦ subst (Contains (take i numbers ++ get_or numbers i 0 ∷ [])) is (Contains-push (take i numbers) (get_or numbers i 0))
      ]),
      λ h. Contains-push_cases (take i numbers) (get_or numbers i 0) k (subst (λ xs. Contains xs k) more h),
    )

kept : (found later : List ℕ) (i : ℕ) → i < length found → get_or (found ++ later) i 0 ≡ get_or found i 0
kept [] later i lt = absurd (omega (arith, lt))
kept (x ∷ xs) later zero lt = refl
kept (x ∷ xs) later (suc i) lt = kept xs later i (omega (arith, lt))

at_number : (found : List ℕ) (i : ℕ) → i < length found → Contains found (get_or found i 0)
at_number [] i lt = absurd (omega (arith, lt))
at_number (x ∷ xs) zero lt = (0, omega arith, refl)
at_number (x ∷ xs) (suc i) lt = let rest = at_number xs i (omega (arith, lt)) in (suc rest.0, omega (arith, rest.1), rest.2)

pub found_within : (marks : List Bool) (found : List ℕ) (i : ℕ) → AreFound marks found → i < length found → get_or found i 0 < length marks
found_within marks found i are lt = marked_within marks (get_or found i 0) ((are.marked (get_or found i 0)).1 (at_number found i lt))

number_at : (found : List ℕ) (k : ℕ) → Contains found k → (i : ℕ) × (i < length found) × (get_or found i 0 ≡ k)
number_at [] k h = absurd (omega (arith, h.1))
number_at (x ∷ xs) k h = elim (Contains-append_cases (x ∷ []) xs k h) [
  | inl one ↦ elim (Contains-push_cases [] x k one) [ inl none ↦ absurd (omega (arith, none.1)) | inr is ↦ (0, omega arith, is) ]
  | inr later ↦ let rest = number_at xs k later in (suc rest.0, omega (arith, rest.1), rest.2)
]

-- steps over any relation
module _ (R : ℕ → ℕ → Type 0) where
  one_more_step : (a : ℕ) (steps : List ℕ) (k b : ℕ) → LeadsOn R a steps k → R k b → LeadsOn R a (steps ++ b ∷ []) b
  one_more_step a [] k b h step = (subst (λ n. R n b) (sym h) step, refl)
  one_more_step a (n ∷ more) k b h step = (h.0, one_more_step n more k b h.1 step)

  arrives : (found : List ℕ) → ((k b : ℕ) → Contains found k → R k b → Contains found b) → (steps : List ℕ) (a b : ℕ) → Contains found a
      → LeadsOn R a steps b
      → Contains found b
  arrives found closed [] a b first h = subst (Contains found) h first
  arrives found closed (n ∷ more) a b first h = arrives found closed more n b (closed a n first h.0) h.1

  -- the worklist begins, takes the steps from one more number, and ends
  pub spread_begun : (starts : List ℕ) → Spreads R starts 0 starts
  spread_begun starts = record { first = λ b h. h; reached = λ b h. (b, h, ([], refl)); taken = λ i less. absurd (omega (arith, less)) }

  pub spread_more : (starts : List ℕ) (at : ℕ) (marks : List Bool) (found : List ℕ) (marks_now : List Bool) (found_now : List ℕ)
      → at < length found → Spreads R starts at found → Finds (R (get_or found at 0)) marks found marks_now found_now
      → Spreads R starts (at + 1) found_now
  spread_more starts at marks found marks_now found_now lt s f = record {
    first = λ b h. (f.joins b).1 (inl (s.first b h));
    reached = λ b h. elim ((f.joins b).0 h) [
      | inl old ↦ s.reached b old
      | inr step ↦
          let r = s.reached (get_or found at 0) (at_number found at lt) in
          (r.0, r.1, (r.2.0 ++ b ∷ [], one_more_step r.0 r.2.0 (get_or found at 0) b r.2.1 step))
    ];
    taken = λ i less b step. elim (cases_eq i at) [
      | inl here ↦ (f.joins b).1 (inr (subst (λ k. R k b) (same i (omega (arith, here, lt)) ∙ ap (λ j. get_or found j 0) here) step))
      | inr other ↦ (f.joins b).1 (inl (s.taken i (before i other less) b (subst (λ k. R k b) (same i (omega
          (arith, before i other less, lt))) step)))
    ];
  }
    where
      same : (i : ℕ) → i < length found → get_or found_now i 0 ≡ get_or found i 0
      same i less = ap (λ xs. get_or xs i 0) f.behind ∙ kept found f.later i less

      before : (i : ℕ) → i ≢ at → i < at + 1 → i < at
      before i other less = elim (cases_lt i at) [ inl l ↦ l | inr ge ↦ absurd (other (omega (arith, ge, less))) ]

  pub spread_ended : (starts : List ℕ) (at : ℕ) (marks : List Bool) (found : List ℕ) → length found ≤ at → AreFound marks found
      → Spreads R starts at found → AreLedTo R starts marks
  spread_ended starts at marks found all are s b = (
    λ h. s.reached b ((are.marked b).0 h),
    λ h. (are.marked b).1 (arrives found closed h.2.0 h.0 b (s.first h.0 h.1) h.2.1),
  )
    where
      closed : (k c : ℕ) → Contains found k → R k c → Contains found c
      closed k c among step =
          let i = number_at found k among in
          s.taken i.0 (omega (arith, i.1, all)) c (subst (λ x. R x c) (sym i.2) step)
