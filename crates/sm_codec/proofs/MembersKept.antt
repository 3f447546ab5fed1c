-- What a frame keeps of a structure's members, as lists: some of the values, in order; the members before one and those behind it; and
-- the first fault in model order.
use Rattle.std.proofs.Common.{◌≡◌, ◌⊎◌, inl, inr, ℕ, ◌<◌, ◌≤◌, nat_lt, Bool, true, false, cond, List, [], ◌∷◌, ◌++◌, refl, sym, ap, ◌∙◌}
use Rattle.std.proofs.Common.{subst, arith}
use Rattle.sm_shapes.specs.Values.{Val}
use Rattle.sm_codec.specs.FaultLists.{FaultAt}
use Rattle.sm_codec.specs.Kept.{AreOf, AreKept}
use Rattle.sm_shapes.specs.FieldPuts.{put_field, FieldsFrom}

-- some of a list's elements
module _ {A : Type 0} where
  pub all_of : (xs : List A) → AreOf xs xs
  all_of [] = tt
  all_of (x ∷ xs) = inl (refl, all_of xs)

  pub none_of : (ys : List A) → AreOf [] ys
  none_of [] = tt
  none_of (y ∷ ys) = tt

  pub of_more : (xs ys : List A) (y : A) → AreOf xs ys → AreOf xs (y ∷ ys)
  of_more [] ys y h = tt
  of_more (x ∷ xs) ys y h = inr h

  pub of_fewer : (x : A) (xs ys : List A) → AreOf (x ∷ xs) ys → AreOf xs ys
  of_fewer x xs [] h = absurd h
  of_fewer x xs (y ∷ ys) (inl h) = of_more xs ys y h.1
  of_fewer x xs (y ∷ ys) (inr h) = of_more xs ys y (of_fewer x xs ys h)

  -- of two lists joined
  pub of_behind : (xs ys zs : List A) → AreOf xs zs → AreOf xs (ys ++ zs)
  of_behind xs [] zs h = h
  of_behind xs (y ∷ ys) zs h = of_more xs (ys ++ zs) y (of_behind xs ys zs h)

  pub of_joined : (cs xs bs ys : List A) → AreOf cs xs → AreOf bs ys → AreOf (cs ++ bs) (xs ++ ys)
  of_joined [] xs bs ys h g = of_behind bs xs ys g
  of_joined (a ∷ cs) [] bs ys h g = absurd h
  of_joined (a ∷ cs) (x ∷ xs) bs ys (inl h) g = inl (h.0, of_joined cs xs bs ys h.1 g)
  of_joined (a ∷ cs) (x ∷ xs) bs ys (inr h) g = inr (of_joined (a ∷ cs) xs bs ys h g)

  abbrev pub InTwo : List A → List A → List A → Type 0
  InTwo kept xs ys = (cs bs : List A) × (kept ≡ cs ++ bs) × AreOf cs xs × AreOf bs ys

  pub of_two : (kept xs ys : List A) → AreOf kept (xs ++ ys) → InTwo kept xs ys
  of_two kept [] ys h = ([], kept, refl, tt, h)
  of_two [] (x ∷ xs) ys h = ([], [], refl, tt, none_of ys)
  of_two (k ∷ kept) (x ∷ xs) ys (inl h) =
      let rest = of_two kept xs ys h.1 in (k ∷ rest.0, rest.1, ap (λ zs. k ∷ zs) rest.2, inl (h.0, rest.3), rest.4)
  of_two (k ∷ kept) (x ∷ xs) ys (inr h) =
      let rest = of_two (k ∷ kept) xs ys h in (rest.0, rest.1, rest.2, of_more rest.0 xs x rest.3, rest.4)

  -- what is kept is some of all, and all where there is no fault
  pub kept_of : (fs : List FaultAt) (kept all : List A) → AreKept fs kept all → AreOf kept all
  kept_of [] kept all h = subst (λ xs. AreOf xs all) (sym h) (all_of all)
  kept_of (f ∷ fs) kept all h = h

  pub kept_all : (fs : List FaultAt) (kept all : List A) → AreKept fs kept all → fs ≡ [] → kept ≡ all
  kept_all [] kept all h e = h
  kept_all (f ∷ fs) kept all h e = absurd cc

  pub kept_from : (fs : List FaultAt) (kept all : List A) → AreOf kept all → (fs ≡ [] → kept ≡ all) → AreKept fs kept all
  kept_from [] kept all h g = g refl
  kept_from (f ∷ fs) kept all h g = h

  -- where an element stands in a list that is split
  pub two_splits : (pre post before : List A) (k : A) (behind : List A) → pre ++ post ≡ before ++ k ∷ behind
      → ((more : List A) × (before ≡ pre ++ more)) ⊎ ((mid : List A) × (pre ≡ before ++ k ∷ mid) × (behind ≡ mid ++ post))
  two_splits [] post before k behind e = inl (before, refl)
  two_splits (x ∷ pre) post [] k behind e =
      let first : x ≡ k = cc in
      let rest : pre ++ post ≡ behind = cc in
      inr (pre, ap (λ y. y ∷ pre) first, sym rest)
  two_splits (x ∷ pre) post (y ∷ before) k behind e =
      let first : x ≡ y = cc in
      let rest : pre ++ post ≡ before ++ k ∷ behind = cc in
      elim (two_splits pre post before k behind rest) [
        | inl h ↦ inl (h.0, ap (λ z. z ∷ before) (sym first) ∙ ap (λ zs. x ∷ zs) h.1)
        | inr h ↦ inr (h.0, ap (λ z. z ∷ pre) first ∙ ap (λ zs. y ∷ zs) h.1, h.2)
      ]

-- fields of members before k, and of members behind it
abbrev pub FieldsBelow : ℕ → List (ℕ × Val) → Type 0
FieldsBelow k [] = Unit {0}
FieldsBelow k (f ∷ fs) = (f.0 < k) × FieldsBelow k fs

abbrev pub FieldsAbove : ℕ → List (ℕ × Val) → Type 0
FieldsAbove k [] = Unit {0}
FieldsAbove k (f ∷ fs) = (k < f.0) × FieldsAbove k fs

pub below_joined : (k : ℕ) (fs gs : List (ℕ × Val)) → FieldsBelow k fs → FieldsBelow k gs → FieldsBelow k (fs ++ gs)
below_joined k [] gs h g = g
below_joined k (f ∷ fs) gs h g = (h.0, below_joined k fs gs h.1 g)

pub above_joined : (k : ℕ) (fs gs : List (ℕ × Val)) → FieldsAbove k fs → FieldsAbove k gs → FieldsAbove k (fs ++ gs)
above_joined k [] gs h g = g
above_joined k (f ∷ fs) gs h g = (h.0, above_joined k fs gs h.1 g)

pub below_of : (k : ℕ) (fs gs : List (ℕ × Val)) → AreOf fs gs → FieldsBelow k gs → FieldsBelow k fs
below_of k [] gs h g = tt
below_of k (f ∷ fs) [] h g = absurd h
below_of k (f ∷ fs) (e ∷ gs) (inl h) g = (subst (λ x. x.0 < k) (sym h.0) g.0, below_of k fs gs h.1 g.1)
below_of k (f ∷ fs) (e ∷ gs) (inr h) g = below_of k (f ∷ fs) gs h g.1

pub above_of : (k : ℕ) (fs gs : List (ℕ × Val)) → AreOf fs gs → FieldsAbove k gs → FieldsAbove k fs
above_of k [] gs h g = tt
above_of k (f ∷ fs) [] h g = absurd h
above_of k (f ∷ fs) (e ∷ gs) (inl h) g = (subst (λ x. k < x.0) (sym h.0) g.0, above_of k fs gs h.1 g.1)
above_of k (f ∷ fs) (e ∷ gs) (inr h) g = above_of k (f ∷ fs) gs h g.1

-- a field that is put goes behind those before it
put_past : (k : ℕ) (v : Val) (f : ℕ × Val) (fs : List (ℕ × Val)) (b : Bool) → nat_lt f.0 k ≡ b → f.0 < k
    → cond b (f ∷ put_field k v fs) ((k, v) ∷ f ∷ fs) ≡ f ∷ put_field k v fs
put_past k v f fs true e h = refl
put_past k v f fs false e h = absurd (grind (arith, e, h))

pub put_behind : (k : ℕ) (v : Val) (fs gs : List (ℕ × Val)) → FieldsBelow k fs → put_field k v (fs ++ gs) ≡ fs ++ put_field k v gs
put_behind k v [] gs h = refl
put_behind k v (f ∷ fs) gs h =
    put_past k v f (fs ++ gs) (nat_lt f.0 k) refl h.0 ∙ ap (λ xs. f ∷ xs) (put_behind k v fs gs h.1)

put_here : (k : ℕ) (v : Val) (f : ℕ × Val) (fs : List (ℕ × Val)) (b : Bool) → nat_lt f.0 k ≡ b → k < f.0
    → cond b (f ∷ put_field k v fs) ((k, v) ∷ f ∷ fs) ≡ (k, v) ∷ f ∷ fs
put_here k v f fs true e h = absurd (grind (arith, e, h))
put_here k v f fs false e h = refl

pub put_before : (k : ℕ) (v : Val) (gs : List (ℕ × Val)) → FieldsAbove k gs → put_field k v gs ≡ (k, v) ∷ gs
put_before k v [] h = refl
put_before k v (g ∷ gs) h = put_here k v g gs (nat_lt g.0 k) refl h.0

pub put_between : (k : ℕ) (v : Val) (fs gs : List (ℕ × Val)) → FieldsBelow k fs → FieldsAbove k gs
    → put_field k v (fs ++ gs) ≡ fs ++ (k, v) ∷ gs
put_between k v fs gs h g = put_behind k v fs gs h ∙ ap (λ xs. fs ++ xs) (put_before k v gs g)

-- fields of k and of members behind it
pub from_above : (k : ℕ) (fs : List (ℕ × Val)) → FieldsAbove k fs → FieldsFrom k fs
from_above k [] h = tt
from_above k (f ∷ fs) h = (omega (arith, h.0), from_above k fs h.1)

pub above_before : (j k : ℕ) (fs : List (ℕ × Val)) → j < k → FieldsFrom k fs → FieldsAbove j fs
above_before j k [] lt h = tt
above_before j k (f ∷ fs) lt h = (omega (arith, lt, h.0), above_before j k fs lt h.1)

pub from_of : (k : ℕ) (fs gs : List (ℕ × Val)) → AreOf fs gs → FieldsFrom k gs → FieldsFrom k fs
from_of k [] gs h g = tt
from_of k (f ∷ fs) [] h g = absurd h
from_of k (f ∷ fs) (e ∷ gs) (inl h) g = (subst (λ x. k ≤ x.0) (sym h.0) g.0, from_of k fs gs h.1 g.1)
from_of k (f ∷ fs) (e ∷ gs) (inr h) g = from_of k (f ∷ fs) gs h g.1

-- fields before k that are all there are the first of those kept
pub prefix_same : (k : ℕ) (cs bs xs ys : List (ℕ × Val)) → AreOf cs xs → FieldsBelow k xs → FieldsFrom k bs → cs ++ bs ≡ xs ++ ys
    → (cs ≡ xs) × (bs ≡ ys)
prefix_same k [] bs [] ys h below above e = (refl, e)
prefix_same k [] [] (x ∷ xs) ys h below above e = absurd cc
prefix_same k [] (b ∷ bs) (x ∷ xs) ys h below above e =
    let first : b ≡ x = cc in
    let low : b.0 < k = subst (λ f. f.0 < k) (sym first) below.0 in
    absurd (omega (arith, low, above.0))
prefix_same k (a ∷ cs) bs [] ys h below above e = absurd h
prefix_same k (a ∷ cs) bs (x ∷ xs) ys h below above e =
    let first : a ≡ x = cc in
    let rest : cs ++ bs ≡ xs ++ ys = cc in
    let more : AreOf cs xs = rest_of a cs x xs h in
    let both = prefix_same k cs bs xs ys more below.1 above rest in
    (ap (λ f. f ∷ cs) first ∙ ap (λ fs. x ∷ fs) both.0, both.1)
  where
    rest_of : (a : ℕ × Val) (cs : List (ℕ × Val)) (x : ℕ × Val) (xs : List (ℕ × Val)) → AreOf (a ∷ cs) (x ∷ xs) → AreOf cs xs
    rest_of a cs x xs (inl h) = h.1
    rest_of a cs x xs (inr h) = of_fewer a cs xs h

-- more in the middle
module _ {A : Type 0} where
  of_front : (xs ys zs : List A) → AreOf xs ys → AreOf xs (ys ++ zs)
  of_front [] ys zs h = none_of (ys ++ zs)
  of_front (x ∷ xs) [] zs h = absurd h
  of_front (x ∷ xs) (y ∷ ys) zs (inl h) = inl (h.0, of_front xs ys zs h.1)
  of_front (x ∷ xs) (y ∷ ys) zs (inr h) = inr (of_front (x ∷ xs) ys zs h)

  pub of_grown : (kept xs ys ws zs : List A) → AreOf kept (xs ++ (ys ++ zs)) → AreOf kept (xs ++ ((ys ++ ws) ++ zs))
  of_grown kept xs ys ws zs h =
      let outer = of_two kept xs (ys ++ zs) h in
      let inner = of_two outer.1 ys zs outer.4 in
      let more = of_joined inner.0 (ys ++ ws) inner.1 zs (of_front inner.0 ys ws inner.3) inner.4 in
      let behind = subst (λ bs. AreOf bs ((ys ++ ws) ++ zs)) (sym inner.2) more in
      subst (λ ks. AreOf ks (xs ++ ((ys ++ ws) ++ zs))) (sym outer.2) (of_joined outer.0 xs outer.1 ((ys ++ ws) ++ zs) outer.3 behind)

  -- what is kept of all stays kept where something more stands in the middle, and there is a fault now
  pub kept_grown : (fs gs : List FaultAt) (kept xs ys ws zs : List A) → (gs ≡ [] → ⊥) → AreKept fs kept (xs ++ (ys ++ zs))
      → AreKept gs kept (xs ++ ((ys ++ ws) ++ zs))
  kept_grown fs gs kept xs ys ws zs never h =
      kept_from gs kept (xs ++ ((ys ++ ws) ++ zs)) (of_grown kept xs ys ws zs (kept_of fs kept (xs ++ (ys ++ zs)) h))
      (λ e. absurd (never e))

  -- and where one is put between those before it and those behind it
  pub kept_put : (put : List A → List A) (new : A) (fs : List FaultAt) (kept xs zs : List A)
      → ((bs cs : List A) → AreOf bs xs → AreOf cs zs → put (bs ++ cs) ≡ bs ++ new ∷ cs) → AreKept fs kept (xs ++ zs)
      → AreKept fs (put kept) (xs ++ new ∷ zs)
  kept_put put new fs kept xs zs between h =
      let parts = of_two kept xs zs (kept_of fs kept (xs ++ zs) h) in
      let placed : put kept ≡ parts.0 ++ new ∷ parts.1 = ap put parts.2 ∙ between parts.0 parts.1 parts.3 parts.4 in
      let some : AreOf (put kept) (xs ++ new ∷ zs) =
      subst (λ ks. AreOf ks (xs ++ new ∷ zs)) (sym placed) (of_joined parts.0 xs (new ∷ parts.1) (new ∷ zs) parts.3
      (inl (refl, parts.4))) in
      kept_from fs (put kept) (xs ++ new ∷ zs) some
      (λ e. ap put (kept_all fs kept (xs ++ zs) h e) ∙ between xs zs (all_of xs) (all_of zs))
