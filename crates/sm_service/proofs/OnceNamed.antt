-- Ids each once, one after the other, and lists of them joined; rows of those that pass a test.
use Rattle.std.proofs.Common.{◌≡◌, ◌⊎◌, inl, inr, ℕ, zero, suc, ◌+◌, ◌<◌, ◌≤◌, Bool, true, false, cond, not, List, [], ◌∷◌, ◌++◌, length, Some}
use Rattle.std.proofs.Common.{filter, refl, sym, ap, ◌∙◌, subst, append_assoc, arith}
use Rattle.std.specs.Prelude.{◌&&◌, ◌==◌, slice_get}
use Rattle.std.specs.List.{Contains}
use Rattle.std.specs.Str.{bytes_eq}
use Rattle.std.proofs.lemmas.Bool.{cases_lt}
use Rattle.std.proofs.lemmas.Bool.Decides.{eqb_tells}
use Rattle.std.proofs.lemmas.List.Elements.{filter-append}
use Rattle.std.proofs.lemmas.Slice.Eq.{bytes_eq-Decides}
use Rattle.sm_model.proofs.OneRising.{contains_behind, contains_either, contains_head, contains_none}
use Rattle.sm_compile.specs.Compiled.{EachSays}
use Rattle.sm_service.specs.ErrorsView.{RiseBetween, but_at}
use Rattle.sm_service.specs.References.{once}
use Rattle.sm_service.specs.steps.OperationRows.{is_none_of}

-- that none is the id
pub none_of_here : (xs : List (List ℕ)) (x : List ℕ) → Contains xs x → is_none_of xs x ≡ false
none_of_here [] x h = absurd (contains_none x h)
none_of_here (y ∷ ys) x h = elim (contains_either y x ys h) [
  | inl same ↦ ap (λ b. not b && is_none_of ys x) ((bytes_eq-Decides x y).1 (sym same))
  | inr later ↦ by (not (bytes_eq x y)) (none_of_here ys x later)
]
  where
    by : (b : Bool) → is_none_of ys x ≡ false → (b && is_none_of ys x) ≡ false
    by true e = e
    by false e = refl

none_of_nowhere : (xs : List (List ℕ)) (x : List ℕ) → (Contains xs x → ⊥) → is_none_of xs x ≡ true
none_of_nowhere [] x h = refl
none_of_nowhere (y ∷ ys) x h = by (bytes_eq x y) refl (none_of_nowhere ys x (λ later. h (contains_behind y x ys later)))
  where
    by : (b : Bool) → bytes_eq x y ≡ b → is_none_of ys x ≡ true → (not b && is_none_of ys x) ≡ true
    by true is rest = absurd (h (subst (Contains (y ∷ ys)) (sym ((bytes_eq-Decides x y).0 is)) (contains_head y ys)))
    by false is rest = rest

and_true : (b : Bool) → b ≡ (b && true)
and_true true = refl
and_true false = refl

and_false : (b : Bool) → false ≡ (b && false)
and_false true = refl
and_false false = refl

-- one more that it isn't
none_of_more : (xs : List (List ℕ)) (x y : List ℕ) → is_none_of (xs ++ x ∷ []) y ≡ (is_none_of xs y && not (bytes_eq y x))
none_of_more [] x y = sym (and_true (not (bytes_eq y x)))
none_of_more (z ∷ zs) x y = by (not (bytes_eq y z)) (none_of_more zs x y)
  where
    by : (b : Bool) → is_none_of (zs ++ x ∷ []) y ≡ (is_none_of zs y && not (bytes_eq y x))
        → (b && is_none_of (zs ++ x ∷ []) y) ≡ ((b && is_none_of zs y) && not (bytes_eq y x))
    by true e = e
    by false e = refl

none_of_again : (xs : List (List ℕ)) (x y : List ℕ) → Contains xs x → is_none_of xs y ≡ (is_none_of xs y && not (bytes_eq y x))
none_of_again xs x y h = by (bytes_eq y x) refl
  where
    by : (b : Bool) → bytes_eq y x ≡ b → is_none_of xs y ≡ (is_none_of xs y && not b)
    by true is =
        let none = none_of_here xs y (subst (Contains xs) (sym ((bytes_eq-Decides y x).0 is)) h) in none ∙ and_false (is_none_of xs y)
    by false is = and_true (is_none_of xs y)

-- two tests, one after the other
filter_both : (p q r : List ℕ → Bool) → ((y : List ℕ) → r y ≡ (p y && q y)) → (ys : List (List ℕ)) → filter p (filter q ys) ≡ filter r ys
filter_both p q r is [] = refl
filter_both p q r is (y ∷ ys) = by (q y) (p y) refl refl (is y) (filter_both p q r is ys)
  where
    by : (b c : Bool) → q y ≡ b → p y ≡ c → r y ≡ (p y && q y) → filter p (filter q ys) ≡ filter r ys
        → filter p (cond b (y ∷ filter q ys) (filter q ys)) ≡ cond (r y) (y ∷ filter r ys) (filter r ys)
    by true true qb pb both rest =
        let passes : r y ≡ true = both ∙ ap (λ a. a && q y) pb ∙ qb in
        ap (λ a. cond a (y ∷ filter p (filter q ys)) (filter p (filter q ys))) pb ∙ ap (λ zs. y ∷ zs) rest
        ∙ sym (ap (λ a. cond a (y ∷ filter r ys) (filter r ys)) passes)
    by true false qb pb both rest =
        let fails : r y ≡ false = both ∙ ap (λ a. a && q y) pb in
        ap (λ a. cond a (y ∷ filter p (filter q ys)) (filter p (filter q ys))) pb ∙ rest
        ∙ sym (ap (λ a. cond a (y ∷ filter r ys) (filter r ys)) fails)
    by false c qb pb both rest =
        let fails : r y ≡ false = both ∙ ap (λ a. p y && a) qb ∙ sym (and_false (p y)) in
        rest ∙ sym (ap (λ a. cond a (y ∷ filter r ys) (filter r ys)) fails)

pub all_pass : (p : List ℕ → Bool) (ys : List (List ℕ)) → ((y : List ℕ) → Contains ys y → p y ≡ true) → filter p ys ≡ ys
all_pass p [] h = refl
all_pass p (y ∷ ys) h =
    ap (λ a. cond a (y ∷ filter p ys) (filter p ys)) (h y (contains_head y ys))
    ∙ ap (λ zs. y ∷ zs) (all_pass p ys (λ z there. h z (contains_behind y z ys there)))

-- the next id, where it is there already and where it isn't: what is kept, and then what of the rest isn't among it
module _ (kept : List (List ℕ)) (id : List ℕ) (ids : List (List ℕ)) where
  pub kept_again : Contains kept id → filter (is_none_of kept) (once (id ∷ ids)) ≡ filter (is_none_of kept) (once ids)
  kept_again h =
      ap (λ a. cond a (id ∷ filter (is_none_of kept) (filter (λ other. not (bytes_eq other id)) (once ids)))
      (filter (is_none_of kept) (filter (λ other. not (bytes_eq other id)) (once ids)))) (none_of_here kept id h)
      ∙ filter_both (is_none_of kept) (λ other. not (bytes_eq other id)) (is_none_of kept) (λ y. none_of_again kept id y h) (once ids)

  pub kept_new : (Contains kept id → ⊥)
      → kept ++ filter (is_none_of kept) (once (id ∷ ids)) ≡ (kept ++ id ∷ []) ++ filter (is_none_of (kept ++ id ∷ [])) (once ids)
  kept_new h =
      ap (λ a. kept ++ cond a (id ∷ filter (is_none_of kept) (filter (λ other. not (bytes_eq other id)) (once ids)))
      (filter (is_none_of kept) (filter (λ other. not (bytes_eq other id)) (once ids)))) (none_of_nowhere kept id h)
      ∙ ap (λ zs. kept ++ id ∷ zs)
      (filter_both (is_none_of kept) (λ other. not (bytes_eq other id)) (is_none_of (kept ++ id ∷ [])) (λ y. none_of_more kept id y) (once ids))
      ∙ sym (append_assoc kept (id ∷ []) (filter (is_none_of (kept ++ id ∷ [])) (once ids)))

-- of two lists joined
pub once_joined : (xs ys : List (List ℕ)) → once (xs ++ ys) ≡ once xs ++ filter (is_none_of xs) (once ys)
once_joined [] ys = sym (all_pass (is_none_of []) (once ys) (λ y there. refl))
once_joined (x ∷ xs) ys =
    let other : List ℕ → Bool = λ y. not (bytes_eq y x) in
    ap (λ zs. x ∷ filter other zs) (once_joined xs ys)
    ∙ ap (λ zs. x ∷ zs) (filter-append other (once xs) (filter (is_none_of xs) (once ys)))
    ∙ ap (λ zs. x ∷ filter other (once xs) ++ zs) (filter_both other (is_none_of xs) (is_none_of (x ∷ xs)) (λ y. refl) (once ys))

-- rows of lists joined
pub says_joined : {D : Type 0} (Says : List ℕ → D → Type 0) (is js : List (List ℕ)) (ds es : List D) → EachSays Says is ds
    → EachSays Says js es → EachSays Says (is ++ js) (ds ++ es)
says_joined Says [] js [] es h k = k
says_joined Says [] js (d ∷ ds) es h k = absurd h
says_joined Says (i ∷ is) js [] es h k = absurd h
says_joined Says (i ∷ is) js (d ∷ ds) es h k = (h.0, says_joined Says is js ds es h.1 k)

-- rows but at some places: those of the ids that pass a test, which fails exactly there
abbrev FailsAt : (List ℕ → Bool) → List (List ℕ) → ℕ → List ℕ → Type 0
FailsAt p ids k again =
    (i : ℕ) (id : List ℕ) → slice_get ids i ≡ Some id → (p id ≡ false → Contains again (k + i)) × (Contains again (k + i) → p id ≡ false)

none_below : (low high k : ℕ) (ps : List ℕ) → RiseBetween low high ps → k < low → Contains ps k → ⊥
none_below low high k [] r lt h = contains_none k h
none_below low high k (p ∷ ps) r lt h = elim (contains_either p k ps h) [
  | inl same ↦ omega (arith, same, lt, r.0)
  | inr later ↦ none_below (suc p) high k ps r.2 (omega (arith, lt, r.0)) later
]

not_false : (b : Bool) → (b ≡ false → ⊥) → b ≡ true
not_false true h = refl
not_false false h = absurd (h refl)

more_than : (k q : ℕ) → k ≤ q → (q ≡ k → ⊥) → suc k ≤ q
more_than k q le other = elim (cases_lt k q) [
  | inl less ↦ omega (arith, less)
  | inr ge ↦ absurd (other (omega (arith, le, ge)))
]

place_in : {X : Type 0} (xs : List X) (x : X) → Contains xs x → (i : ℕ) × (slice_get xs i ≡ Some x)
place_in [] x h = absurd (contains_none x h)
place_in (y ∷ ys) x h = elim (contains_either y x ys h) [
  | inl same ↦ (zero, ap Some same)
  | inr later ↦ let at = place_in ys x later in (suc at.0, at.1)
]

next_place : (k i : ℕ) → k + suc i ≡ suc k + i
next_place k i = omega arith

first_place : (k : ℕ) → k + 0 ≡ k
first_place k = omega arith

module _ {D : Type 0} (Says : List ℕ → D → Type 0) (p : List ℕ → Bool) where
  pub says_but : (ids : List (List ℕ)) (es : List D) (k : ℕ) (again : List ℕ) → EachSays Says ids es → RiseBetween k (k + length es) again
      → FailsAt p ids k again → EachSays Says (filter p ids) (but_at again k es)
  says_but [] [] k again h r f = tt
  says_but [] (e ∷ es) k again h r f = absurd h
  says_but (id ∷ ids) [] k again h r f = absurd h
  says_but (id ∷ ids) (e ∷ es) k [] h r f =
      subst (λ is. EachSays Says is (e ∷ es)) (sym (all_pass p (id ∷ ids) passes)) h
    where
      passes : (y : List ℕ) → Contains (id ∷ ids) y → p y ≡ true
      passes y there =
          let at = place_in (id ∷ ids) y there in not_false (p y) (λ fails. contains_none (k + at.0) ((f at.0 y at.1).0 fails))
  says_but (id ∷ ids) (e ∷ es) k (q ∷ qs) h r f =
      by (eqb_tells q k) (λ rises fails. says_but ids es (suc k) qs h.1 rises fails)
      (λ rises fails. says_but ids es (suc k) (q ∷ qs) h.1 rises fails)
    where
      high : k + suc (length es) ≡ suc k + length es
      high = next_place k (length es)

      left : q ≡ k → FailsAt p ids (suc k) qs
      left same i id2 at = (
        λ fails. elim (contains_either q (k + suc i) qs ((f (suc i) id2 at).0 fails)) [
          | inl is ↦ absurd (omega (arith, same, is))
          | inr later ↦ subst (Contains qs) (next_place k i) later
        ],
        λ there. (f (suc i) id2 at).1 (contains_behind q (k + suc i) qs (subst (Contains qs) (sym (next_place k i)) there)),
      )

      behind : FailsAt p ids (suc k) (q ∷ qs)
      behind i id2 at = (
        λ fails. subst (Contains (q ∷ qs)) (next_place k i) ((f (suc i) id2 at).0 fails),
        λ there. (f (suc i) id2 at).1 (subst (Contains (q ∷ qs)) (sym (next_place k i)) there),
      )

      by : (((q == k) ≡ true) × (q ≡ k)) ⊎ (((q == k) ≡ false) × (q ≡ k → ⊥))
          → (RiseBetween (suc k) (suc k + length es) qs → FailsAt p ids (suc k) qs → EachSays Says (filter p ids) (but_at qs (suc k) es))
          → (RiseBetween (suc k) (suc k + length es) (q ∷ qs) → FailsAt p ids (suc k) (q ∷ qs)
          → EachSays Says (filter p ids) (but_at (q ∷ qs) (suc k) es))
          → EachSays Says (cond (p id) (id ∷ filter p ids) (filter p ids)) (cond (q == k) (but_at qs (suc k) es) (e ∷ but_at (q ∷ qs) (suc k) es))
      by (inl here) left_out kept =
          let fails : p id ≡ false = (f 0 id refl).1 (subst (Contains (q ∷ qs)) (here.1 ∙ sym (first_place k)) (contains_head q qs)) in
          let rises = subst (λ t. RiseBetween (suc k) t qs) high (subst (λ l. RiseBetween (suc l) (k + suc (length es)) qs) here.1 r.2) in
          subst (λ b. EachSays Says (cond (p id) (id ∷ filter p ids) (filter p ids)) (cond b (but_at qs (suc k) es) (e ∷ but_at (q ∷ qs) (suc k) es)))
          (sym here.0)
          (subst (λ b. EachSays Says (cond b (id ∷ filter p ids) (filter p ids)) (but_at qs (suc k) es)) (sym fails)
          (left_out rises (left here.1)))
      by (inr other) left_out kept =
          let above : suc k ≤ q = more_than k q r.0 other.1 in
          let rises : RiseBetween (suc k) (k + suc (length es)) (q ∷ qs) = (above, r.1, r.2) in
          let passes : p id ≡ true = not_false (p id) (λ fails.
          none_below (suc k) (k + suc (length es)) k (q ∷ qs) rises (omega arith)
          (subst (Contains (q ∷ qs)) (first_place k) ((f 0 id refl).0 fails))) in
          subst (λ b. EachSays Says (cond (p id) (id ∷ filter p ids) (filter p ids)) (cond b (but_at qs (suc k) es) (e ∷ but_at (q ∷ qs) (suc k) es)))
          (sym other.0)
          (subst (λ b. EachSays Says (cond b (id ∷ filter p ids) (filter p ids)) (e ∷ but_at (q ∷ qs) (suc k) es)) (sym passes)
          (h.0, kept (subst (λ t. RiseBetween (suc k) t (q ∷ qs)) high rises) behind))
