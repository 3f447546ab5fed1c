-- Sums over entries: entries that each come of one of others, which is no smaller, sum up to no more than these.
use Rattle.std.proofs.Common.{◌≡◌, ◌≤◌, ◌+◌, inl, inr, ℕ, suc, zero, Bool, true, false, cond, List, [], ◌∷◌, filter, length}
use Rattle.std.proofs.Common.{get_or, refl, sym}
use Rattle.std.proofs.Common.{ap, subst, ◌∙◌, arith}
use Rattle.std.specs.List.{Any, sum_by}
use Rattle.std.proofs.lemmas.List.Sums.{sum_by-cons}
use Rattle.sm_model.specs.Formed.{DifferInNames, StandsAmong}
use Rattle.sm_model.proofs.MapFacts.{keys}
use Rattle.sm_merge.proofs.EntriesFound.{Has, has_key}

module _ {X : Type 0} where
  -- what a list has of entries, in front of one more and among those that pass a test
  pub has_passed : (test : List ℕ × X → Bool) (k : List ℕ) (x : X) (es : List (List ℕ × X)) → Has k x (filter test es)
      → Has k x es × (test (k, x) ≡ true)
  has_passed test k x [] h = absurd h
  has_passed test k x (e ∷ es) h = by (has_passed test k x es) (test e) refl h
    where
      by : (Has k x (filter test es) → Has k x es × (test (k, x) ≡ true)) → (b : Bool) → test e ≡ b
          → Has k x (cond b (e ∷ filter test es) (filter test es)) → Has k x (e ∷ es) × (test (k, x) ≡ true)
      by rest true is (inl same) = (inl same, (λ i. test (same.0 i, same.1 i)) ∙ is)
      by rest true is (inr later) = let r = rest later in (inr r.0, r.1)
      by rest false is later = let r = rest later in (inr r.0, r.1)

  pub passed_has : (test : List ℕ × X → Bool) (k : List ℕ) (x : X) (es : List (List ℕ × X)) → Has k x es → test (k, x) ≡ true
      → Has k x (filter test es)
  passed_has test k x [] h is = absurd h
  passed_has test k x (e ∷ es) (inl same) is =
      subst (λ b. Has k x (cond b (e ∷ filter test es) (filter test es))) (sym (sym (λ i. test (same.0 i, same.1 i)) ∙ is)) (inl same)
  passed_has test k x (e ∷ es) (inr later) is = behind (test e) (passed_has test k x es later is)
    where
      behind : (b : Bool) → Has k x (filter test es) → Has k x (cond b (e ∷ filter test es) (filter test es))
      behind true h = inr h
      behind false h = h

  key_passed : (test : List ℕ × X → Bool) (k : List ℕ) (es : List (List ℕ × X)) → StandsAmong k (keys (filter test es))
      → StandsAmong k (keys es)
  key_passed test k [] h = h
  key_passed test k (e ∷ es) h = by (test e) (key_passed test k es) h
    where
      by : (b : Bool) → (StandsAmong k (keys (filter test es)) → StandsAmong k (keys es))
          → StandsAmong k (keys (cond b (e ∷ filter test es) (filter test es))) → StandsAmong k (keys (e ∷ es))
      by true rest (inl same) = inl same
      by true rest (inr later) = inr (rest later)
      by false rest later = inr (rest later)

  pub passed_differ : (test : List ℕ × X → Bool) (es : List (List ℕ × X)) → DifferInNames (keys es) → DifferInNames (keys (filter test es))
  passed_differ test [] d = tt
  passed_differ test (e ∷ es) d = by (test e) (passed_differ test es d.1)
    where
      by : (b : Bool) → DifferInNames (keys (filter test es)) → DifferInNames (keys (cond b (e ∷ filter test es) (filter test es)))
      by true rest = ((λ among. d.0 (key_passed test e.0 es among)), rest)
      by false rest = rest

  -- one of some, and one that some one is
  pub any_has : (P : List ℕ × X → Type 0) (es : List (List ℕ × X)) → Any P es → (k : List ℕ) × (x : X) × Has k x es × P (k, x)
  any_has P es (n, e, lt, at, p) = let has = stands es n e lt in (e.0, e.1, subst (λ y. Has y.0 y.1 es) at has, p)
    where
      stands : (es : List (List ℕ × X)) (n : ℕ) (d : List ℕ × X) → suc n ≤ length es → Has (get_or es n d).0 (get_or es n d).1 es
      stands [] n d lt = absurd (omega (arith, lt))
      stands (e ∷ es) zero d lt = inl (refl, refl)
      stands (e ∷ es) (suc n) d lt = inr (stands es n d (omega (arith, lt)))

  pub has_any : (P : List ℕ × X → Type 0) (k : List ℕ) (x : X) (es : List (List ℕ × X)) → Has k x es → P (k, x) → Any P es
  has_any P k x [] h p = absurd h
  has_any P k x (e ∷ es) (inl same) p = (0, e, omega arith, refl, subst P (λ i. (same.0 i, same.1 i)) p)
  has_any P k x (e ∷ es) (inr later) p =
      let rest = has_any P k x es later p in (suc rest.0, rest.1, omega (arith, rest.2), rest.3, rest.4)

  module _ (weight : X → ℕ) where
    abbrev pub total : List (List ℕ × X) → ℕ
    total es = sum_by (λ e. weight e.1) es

    record IsTakenOut (fs : List (List ℕ × X)) (j : List ℕ) (y : X) : Type 0 where
      rest : List (List ℕ × X)
      sum : total fs ≡ weight y + total rest
      others : (k : List ℕ) (z : X) → Has k z fs → (k ≡ j → ⊥) → Has k z rest

    taken_out : (fs : List (List ℕ × X)) (j : List ℕ) (y : X) → Has j y fs → IsTakenOut fs j y
    taken_out [] j y has = absurd has
    taken_out (f ∷ fs) j y (inl same) = record {
      rest = fs;
      sum = sum_by-cons (λ (e : List ℕ × X). weight e.1) f fs ∙ ap (λ z. weight z + total fs) (sym same.1);
      others = λ k z h other. elim h [
        | inl here ↦ absurd (other (here.0 ∙ sym same.0))
        | inr later ↦ later
      ];
    }
    taken_out (f ∷ fs) j y (inr later) =
        let w = taken_out fs j y later in record {
          rest = f ∷ w.rest;
          sum =
              let whole = sum_by-cons (λ (e : List ℕ × X). weight e.1) f fs in
              let left = sum_by-cons (λ (e : List ℕ × X). weight e.1) f w.rest in
              let one = w.sum in
              omega (arith, whole, left, one);
          others = λ k z h other. elim h [
            | inl here ↦ inl here
            | inr rest ↦ inr (w.others k z rest other)
          ];
        }

    -- an entry comes of one that is no smaller; no two come of one
    module _ (Comes : List ℕ → List ℕ → Type 0) (one : (k l j : List ℕ) → Comes k j → Comes l j → k ≡ l) where
      pub record IsOneOf (fs : List (List ℕ × X)) (k : List ℕ) (x : X) : Type 0 where
        pub key : List ℕ
        pub value : X
        pub among : Has key value fs
        pub comes : Comes k key
        pub large : weight x ≤ weight value

      pub no_more : (es fs : List (List ℕ × X)) → DifferInNames (keys es) → ((k : List ℕ) (x : X) → Has k x es → IsOneOf fs k x)
          → total es ≤ total fs
      no_more [] fs differ like = omega arith
      no_more (e ∷ es) fs differ like =
          let l = like e.0 e.1 (inl (refl, refl)) in
          let w = taken_out fs l.key l.value l.among in
          let rest = no_more es w.rest differ.1 (λ k x h.
          let m = like k x (inr h) in record {
            key = m.key;
            value = m.value;
            among = w.others m.key m.value m.among (λ same. differ.0 (subst (λ i. StandsAmong i (keys es))
                (one k e.0 l.key (subst (Comes k) same m.comes) l.comes) (has_key k x es h)));
            comes = m.comes;
            large = m.large;
          }) in
          let whole = sum_by-cons (λ (y : List ℕ × X). weight y.1) e es in
          let large = l.large in
          let sum = w.sum in
          omega (arith, rest, whole, large, sum)
