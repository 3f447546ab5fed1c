-- The error of an operation that has an id: there is one of its name, and no other.
use Rattle.std.proofs.Common.{◌≡◌, inl, inr, ℕ, zero, suc, ◌<◌, Bool, true, false, List, [], ◌∷◌, Option, Some, None, map, length, get_or}
use Rattle.std.proofs.Common.{bytes_eq, cond, refl, sym, ap, ◌∙◌, subst, arith}
use Rattle.std.specs.Prelude.{slice_get}
use Rattle.std.specs.List.{Contains}
use Rattle.std.specs.Option.{option_map}
use Rattle.std.proofs.lemmas.List.{get_or-map, length-map}
use Rattle.std.proofs.lemmas.Option.{get_or_from_slice_get, same_Some, slice_get-get_or, slice_get-map, slice_get_within}
use Rattle.std.proofs.lemmas.Slice.Eq.{bytes_eq-Decides}
use Rattle.sm_ids.specs.TextParts.{name_part}
use Rattle.sm_shapes.specs.Names.{AllDiffer, NoneIs}
use Rattle.sm_shapes.specs.TableData.{member_with}
use Rattle.sm_shapes.proofs.NamedMembers.{IsAmong}
use Rattle.sm_messages.specs.service.ErrorOrder.{places_of}
use Rattle.sm_messages.specs.service.ServiceData.{name_of_error}
use Rattle.sm_messages.specs.service.declared.error.ErrorShape.{ErrorShape}
use Rattle.sm_messages.proofs.service.ErrorsNamed.{among_below, below_among, with_some}
use Rattle.sm_messages.specs.Goals.{no_error}
use Rattle.sm_examples.specs.Entries.{error_with_id, id_at_place}
use Rattle.sm_examples.proofs.InputOrders.{never_both}

-- the error at a place
error_there : (es : List ErrorShape) (k : ℕ) → k < length es → slice_get es k ≡ Some (get_or es k no_error)
error_there es k lt = slice_get-get_or es k no_error lt

pub id_there : (es : List ErrorShape) (k : ℕ) (e : ErrorShape) → slice_get es k ≡ Some e → id_at_place es k ≡ e.id
id_there es k e there =
    get_or-map (λ x. x.id) es k no_error [] (slice_get_within es k e there) ∙ ap (λ x. x.id) (get_or_from_slice_get es k e no_error there)

pub none_past : (es : List ErrorShape) (k : ℕ) → k < length es → None ≡ slice_get es k → ⊥
none_past es k lt none = apart (none ∙ error_there es k lt)
  where
    apart : Path (Option ErrorShape) None (Some (get_or es k no_error)) → ⊥
    apart e = cc

-- the name of the error that has an id
name_there : (es : List ErrorShape) (k : ℕ) (id : List ℕ) → k < length es → id_at_place es k ≡ id
    → slice_get (map name_of_error es) k ≡ Some (name_part id)
name_there es k id lt is =
    let e = get_or es k no_error in
    slice_get-map name_of_error es k ∙ ap (option_map name_of_error) (error_there es k lt)
    ∙ ap (λ u. Some (name_part u)) (sym (id_there es k e (error_there es k lt)) ∙ is)

never_there : (w : List ℕ) (ns : List (List ℕ)) (k : ℕ) → NoneIs w ns → slice_get ns k ≡ Some w → ⊥
never_there w [] k none there = absurd cc
never_there w (n ∷ ns) zero none there = none.0 (same_Some n w there)
never_there w (n ∷ ns) (suc k) none there = never_there w ns k none.1 there

-- a name that stands once has one place
one_place : (ns : List (List ℕ)) (j k : ℕ) (w : List ℕ) → AllDiffer ns → slice_get ns j ≡ Some w → slice_get ns k ≡ Some w → j ≡ k
one_place [] j k w differ at also = absurd cc
one_place (n ∷ ns) zero zero w differ at also = refl
one_place (n ∷ ns) zero (suc k) w differ at also =
    absurd (never_there n ns k differ.0 (subst (λ u. slice_get ns k ≡ Some u) (sym (same_Some n w at)) also))
one_place (n ∷ ns) (suc j) zero w differ at also =
    absurd (never_there n ns j differ.0 (subst (λ u. slice_get ns j ≡ Some u) (sym (same_Some n w also)) at))
one_place (n ∷ ns) (suc j) (suc k) w differ at also = ap suc (one_place ns j k w differ.1 at also)

-- what stands at a place is among all
contains_at : (ns : List (List ℕ)) (k : ℕ) (w : List ℕ) → slice_get ns k ≡ Some w → Contains ns w
contains_at ns k w there = (k, slice_get_within ns k w there, get_or_from_slice_get ns k w w there)

-- where one of them has it, one is found
some_with : (f : ℕ → List ℕ) (w : List ℕ) (k : ℕ) (ks : List ℕ) → IsAmong k ks → f k ≡ w → (j : ℕ) × (member_with f w ks ≡ Some j)
some_with f w k [] among is = absurd among
some_with f w k (i ∷ ks) among is = by (bytes_eq (f i) w) refl among (λ later. some_with f w k ks later is)
  where
    by : (b : Bool) → bytes_eq (f i) w ≡ b → IsAmong k (i ∷ ks) → (IsAmong k ks → (j : ℕ) × (member_with f w ks ≡ Some j))
        → (j : ℕ) × (cond b (Some i) (member_with f w ks) ≡ Some j)
    by true e here rest = (i, refl)
    by false e (inl same) rest = absurd (never_both (bytes_eq (f i) w) ((bytes_eq-Decides (f i) w).1 (ap f (sym same) ∙ is)) e)
    by false e (inr later) rest = rest later

module _ (es : List ErrorShape) (id : List ℕ) (differ : AllDiffer (map name_of_error es)) where
  found_of : (k : ℕ) → error_with_id es id ≡ Some k → (k < length es) × (id_at_place es k ≡ id)
  found_of k e =
      let r = with_some (id_at_place es) id (places_of es) k e in
      let less = among_below 0 (length es) k r.1 in (omega (arith, less), r.0)

  -- the error of the name has the id
  error_found : (k : ℕ) → slice_get (map name_of_error es) k ≡ Some (name_part id) → k < length es → id_at_place es k ≡ id
      → Some k ≡ error_with_id es id
  error_found k named lt is =
      let (j, e) = some_with (id_at_place es) id k (places_of es) (below_among 0 (length es) k (omega arith) (omega (arith, lt))) is in
      let other = found_of j e in
      ap Some (one_place (map name_of_error es) k j (name_part id) differ named (name_there es j id other.0 other.1)) ∙ sym e

  -- it has another one
  other_id : (k : ℕ) → slice_get (map name_of_error es) k ≡ Some (name_part id) → (id_at_place es k ≡ id → ⊥)
      → None ≡ error_with_id es id
  other_id k named other = by (error_with_id es id) refl
    where
      by : (r : Option ℕ) → error_with_id es id ≡ r → None ≡ r
      by None e = refl
      by (Some j) e =
          let found = found_of j e in
          let same = one_place (map name_of_error es) j k (name_part id) differ (name_there es j id found.0 found.1) named in
          absurd (other (subst (λ i. id_at_place es i ≡ id) same found.1))

  -- there is none of the name
  no_such_name : (Contains (map name_of_error es) (name_part id) → ⊥) → None ≡ error_with_id es id
  no_such_name none = by (error_with_id es id) refl
    where
      by : (r : Option ℕ) → error_with_id es id ≡ r → None ≡ r
      by None e = refl
      by (Some j) e =
          let found = found_of j e in
          absurd (none (contains_at (map name_of_error es) j (name_part id) (name_there es j id found.0 found.1)))

  -- by what is told of the error that has the name
  pub told_here : (k : ℕ) (name : List ℕ) (told : Bool) → name ≡ name_part id → slice_get (map name_of_error es) k ≡ Some name
      → k < length es → told ≡ bytes_eq (id_at_place es k) id → told ≡ true → Some k ≡ error_with_id es id
  told_here k name told is named lt says so =
      error_found k (named ∙ ap (λ u. Some u) is) lt ((bytes_eq-Decides (id_at_place es k) id).0 (sym says ∙ so))

  pub told_other : (k : ℕ) (name : List ℕ) (told : Bool) → name ≡ name_part id → slice_get (map name_of_error es) k ≡ Some name
      → told ≡ bytes_eq (id_at_place es k) id → told ≡ false → None ≡ error_with_id es id
  told_other k name told is named says so =
      other_id k (named ∙ ap (λ u. Some u) is)
      (λ same. never_both told (says ∙ (bytes_eq-Decides (id_at_place es k) id).1 same) so)

  pub told_none : (name : List ℕ) → name ≡ name_part id → (Contains (map name_of_error es) name → ⊥) → None ≡ error_with_id es id
  told_none name is none = no_such_name (λ there. none (subst (Contains (map name_of_error es)) (sym is) there))

-- a name stands at the place of an error
pub name_within : (es : List ErrorShape) (k : ℕ) (name : List ℕ) → slice_get (map name_of_error es) k ≡ Some name → k < length es
name_within es k name there = subst (λ n. k < n) (length-map es name_of_error) (slice_get_within (map name_of_error es) k name there)

-- a place that is found is one of the errors
pub error_within : (es : List ErrorShape) (id : List ℕ) (k : ℕ) → error_with_id es id ≡ Some k → k < length es
error_within es id k e =
    let r = with_some (id_at_place es) id (places_of es) k e in
    let less = among_below 0 (length es) k r.1 in omega (arith, less)
