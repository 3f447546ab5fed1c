-- Lists that are cut at an element, and what their parts are made of.
use Rattle.std.proofs.Common.{◌≡◌, ◌<◌, ◌+◌, ℕ, List, [], ◌∷◌, ◌++◌, Option, Some, None, length, get_or, map, take, drop, refl, sym, ap}
use Rattle.std.proofs.Common.{◌∙◌, subst}
use Rattle.std.specs.Prelude.{IsSomeAnd, slice_get}
use Rattle.std.specs.FinMap as fin
use Rattle.std.specs.List.{cons_option, filter_map}
use Rattle.std.proofs.Math.Seq.{take-append_seam}
use Rattle.std.proofs.lemmas.List.{append-nil, append_assoc, drop_more}
use Rattle.std.proofs.lemmas.Option.{same_Some, slice_get_within}
use Rattle.sm_model.specs.EventView.{EventTold}
use Rattle.sm_model.specs.Graphs.{text_cmp}
use Rattle.sm_passes.specs.Earlier.{ToldAfter, ToldAt}
use Rattle.sm_passes.specs.Putting.{Below}
use Rattle.sm_passes.proofs.ListParts.{parts_at, seam_at}

abbrev behind_first : {X : Type 0} → List X → List X
behind_first [] = []
behind_first (x ∷ xs) = xs

abbrev first_or : {X : Type 0} → X → List X → X
first_or d [] = d
first_or d (x ∷ xs) = x

abbrev pub IsThere : {X : Type 0} → List X → Type 0
IsThere [] = ⊥
IsThere (x ∷ xs) = Unit {0}

not_nil : {X : Type 0} (before : List X) (y : X) (later : List X) → [] ≡ before ++ y ∷ later → ⊥
not_nil [] y later is = subst IsThere (sym is) tt
not_nil (b ∷ before) y later is = subst IsThere (sym is) tt

-- what is told at the places of rows is told of a row and those before it
module _ (T : ℕ → ℕ → EventTold → Type 0) where
  pub record ToldSplit (rows : List (List ℕ × ℕ)) (e : EventTold) : Type 0 where
    pub before : List (List ℕ × ℕ)
    pub row : List ℕ × ℕ
    pub later : List (List ℕ × ℕ)
    pub is : rows ≡ before ++ row ∷ later
    pub told : ToldAfter T (fin.find text_cmp row.0 before) row.1 e

  pub split_told : (rows : List (List ℕ × ℕ)) (e : EventTold) → Below (ToldAt T rows) (length rows) e → ToldSplit rows e
  split_told rows e (i, small, w) = by (slice_get rows i) refl w
    where
      by : (o : Option (List ℕ × ℕ)) → slice_get rows i ≡ o
          → IsSomeAnd o (λ (r : List ℕ × ℕ). ToldAfter T (fin.find text_cmp r.0 (take i rows)) r.1 e) → ToldSplit rows e
      by None at h = absurd h
      by (Some r) at h = record { before = take i rows; row = r; later = drop (i + 1) rows; is = parts_at rows i r at; told = h }

  pub told_split : (rows : List (List ℕ × ℕ)) (e : EventTold) → ToldSplit rows e → Below (ToldAt T rows) (length rows) e
  told_split rows e s =
      let i = length s.before in
      let at : slice_get rows i ≡ Some s.row = ap (λ xs. slice_get xs i) s.is ∙ seam_at s.before s.row s.later in
      let front : take i rows ≡ s.before = ap (take i) s.is ∙ take-append_seam s.before (s.row ∷ s.later) in (
        i,
        slice_get_within rows i s.row at,
        subst (λ o. IsSomeAnd o (λ (r : List ℕ × ℕ). ToldAfter T (fin.find text_cmp r.0 (take i rows)) r.1 e)) (sym at)
            (subst (λ rs. ToldAfter T (fin.find text_cmp s.row.0 rs) s.row.1 e) (sym front) s.told),
      )

-- the parts of what is kept of a list
module _ {X Y : Type 0} (h : X → Option Y) where
  pub record Kept (xs : List X) (before : List Y) (y : Y) : Type 0 where
    pub first : List X
    pub at : X
    pub later : List X
    pub is : xs ≡ first ++ at ∷ later
    pub made : filter_map h first ≡ before
    pub here : h at ≡ Some y

  pub kept_parts : (xs : List X) (before : List Y) (y : Y) (later : List Y) → filter_map h xs ≡ before ++ y ∷ later → Kept xs before y
  kept_parts [] before y later is = absurd (not_nil before y later is)
  kept_parts (x ∷ xs) before y later is = by (h x) refl before is (kept_parts xs)
    where
      by : (o : Option Y) → h x ≡ o → (before : List Y) → cons_option o (filter_map h xs) ≡ before ++ y ∷ later
          → ((b : List Y) (z : Y) (l : List Y) → filter_map h xs ≡ b ++ z ∷ l → Kept xs b z) → Kept (x ∷ xs) before y
      by None at before is rest =
          let r = rest before y later is in
          record {
            first = x ∷ r.first;
            at = r.at;
            later = r.later;
            is = ap (λ ys. x ∷ ys) r.is;
            made = ap (λ o. cons_option o (filter_map h r.first)) at ∙ r.made;
            here = r.here;
          }
      by (Some z) at [] is rest =
          record { first = []; at = x; later = xs; is = refl; made = refl; here = at ∙ ap (λ w. Some w) (ap (first_or z) is) }
      by (Some z) at (b ∷ before) is rest =
          let r = rest before y later (ap behind_first is) in
          let same : z ≡ b = ap (first_or z) is in
          record {
            first = x ∷ r.first;
            at = r.at;
            later = r.later;
            is = ap (λ ys. x ∷ ys) r.is;
            made = ap (λ o. cons_option o (filter_map h r.first)) at ∙ (λ i. same i ∷ r.made i);
            here = r.here;
          }

module _ {X Y : Type 0} (f : X → Y) where
  all_kept : (xs : List X) → filter_map (λ x. Some (f x)) xs ≡ map f xs
  all_kept [] = refl
  all_kept (x ∷ xs) = ap (λ ys. f x ∷ ys) (all_kept xs)

  pub record Mapped (xs : List X) (before : List Y) (y : Y) : Type 0 where
    pub first : List X
    pub at : X
    pub later : List X
    pub is : xs ≡ first ++ at ∷ later
    pub made : map f first ≡ before
    pub here : f at ≡ y

  pub mapped_parts : (xs : List X) (before : List Y) (y : Y) (later : List Y) → map f xs ≡ before ++ y ∷ later → Mapped xs before y
  mapped_parts xs before y later is =
      let r = kept_parts (λ x. Some (f x)) xs before y later (all_kept xs ∙ is) in
      record {
        first = r.first;
        at = r.at;
        later = r.later;
        is = r.is;
        made = sym (all_kept r.first) ∙ r.made;
        here = same_Some (f r.at) y r.here;
      }

-- what is kept is put one by one
module _ {X Y : Type 0} (h : X → Option Y) where
  kept_joined : (old : List Y) (o : Option Y) (rest : List Y) → (old ++ cons_option o []) ++ rest ≡ old ++ cons_option o rest
  kept_joined old None rest = ap (λ xs. xs ++ rest) (append-nil old)
  kept_joined old (Some y) rest = append_assoc old (y ∷ []) rest

  pub kept_next : (xs : List X) (i : ℕ) (d : X) → i < length xs → (old now : List Y) → old ++ filter_map h (drop i xs) ≡ filter_map h xs
      → now ≡ old ++ cons_option (h (get_or xs i d)) [] → now ++ filter_map h (drop (i + 1) xs) ≡ filter_map h xs
  kept_next xs i d within old now so is =
      ap (λ ys. ys ++ filter_map h (drop (i + 1) xs)) is
      ∙ kept_joined old (h (get_or xs i d)) (filter_map h (drop (i + 1) xs))
      ∙ ap (λ ys. old ++ filter_map h ys) (sym (drop_more xs i d within))
      ∙ so
