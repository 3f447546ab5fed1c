-- The rows of operations and of their errors.
use Rattle.std.proofs.Common.{◌≡◌, ◌⊎◌, inl, inr, ℕ, zero, suc, ◌+◌, Bool, true, false, cond, not, List, [], ◌∷◌, ◌++◌, length, map}
use Rattle.std.proofs.Common.{Some, filter, get_or, refl, sym, ap, ◌∙◌, subst, arith}
use Rattle.std.specs.Prelude.{◌&&◌, slice_get}
use Rattle.std.specs.List.{Contains}
use Rattle.std.specs.Str.{bytes_eq}
use Rattle.std.proofs.lemmas.Slice.Eq.{bytes_eq-Decides}
use Rattle.std.proofs.lemmas.Option.{get_or_from_slice_get, none-some, same_Some, slice_get_within}
use Rattle.sm_ids.specs.TextParts.{name_part}
use Rattle.sm_model.specs.Graphs.{GraphMaps}
use Rattle.sm_model.proofs.OneRising.{contains_behind, contains_either, contains_head, contains_none}
use Rattle.sm_model.proofs.Worklist.{apart}
use Rattle.sm_compile.specs.Compiled.{EachSays, Numbering}
use Rattle.sm_compile.proofs.TabledShapes.{mapped_from, mapped_to}
use Rattle.sm_service.specs.Compiled.{SaysError}
use Rattle.sm_service.specs.ErrorOrder.{name_at_place}
use Rattle.sm_service.specs.ErrorsView.{RiseBetween, but_at, joined_errors}
use Rattle.sm_service.specs.References.{once}
use Rattle.sm_service.specs.ServiceData.{name_of_error}
use Rattle.sm_service.specs.declared.error.ErrorShape.{ErrorShape}
use Rattle.sm_service.specs.steps.OperationRows.{AreAgain, NamesTell, is_none_of}
use Rattle.sm_service.proofs.OnceNamed.{none_of_here, once_joined, says_but, says_joined}

-- what passes a test
filtered : (p : List ℕ → Bool) (xs : List (List ℕ)) (y : List ℕ) → Contains (filter p xs) y → Contains xs y
filtered p [] y h = absurd (contains_none y h)
filtered p (x ∷ xs) y h = by (p x) h (λ rest. filtered p xs y rest)
  where
    by : (b : Bool) → Contains (cond b (x ∷ filter p xs) (filter p xs)) y → (Contains (filter p xs) y → Contains xs y) → Contains (x ∷ xs) y
    by true there rest = elim (contains_either x y (filter p xs) there) [
      | inl same ↦ subst (Contains (x ∷ xs)) same (contains_head x xs)
      | inr later ↦ contains_behind x y xs (rest later)
    ]
    by false there rest = contains_behind x y xs (rest there)

pub once_from : (ids : List (List ℕ)) (id : List ℕ) → Contains (once ids) id → Contains ids id
once_from [] id h = h
once_from (x ∷ xs) id h = elim (contains_either x id (filter (λ other. not (bytes_eq other x)) (once xs)) h) [
  | inl same ↦ subst (Contains (x ∷ xs)) same (contains_head x xs)
  | inr later ↦ contains_behind x id xs (once_from xs id (filtered (λ other. not (bytes_eq other x)) (once xs) id later))
]

passing : (p : List ℕ → Bool) (xs : List (List ℕ)) (y : List ℕ) → p y ≡ true → Contains xs y → Contains (filter p xs) y
passing p [] y is h = absurd (contains_none y h)
passing p (x ∷ xs) y is h = elim (contains_either x y xs h) [
  | inl same ↦ subst (λ b. Contains (cond b (x ∷ filter p xs) (filter p xs)) y) (sym (ap p same ∙ is))
      (subst (Contains (x ∷ filter p xs)) same (contains_head x (filter p xs)))
  | inr later ↦ behind (p x) (passing p xs y is later)
]
  where
    behind : (b : Bool) → Contains (filter p xs) y → Contains (cond b (x ∷ filter p xs) (filter p xs)) y
    behind true there = contains_behind x y (filter p xs) there
    behind false there = there

not_none : (xs : List (List ℕ)) (x : List ℕ) → is_none_of xs x ≡ false → Contains xs x
not_none [] x h = absurd (apart (sym h))
not_none (y ∷ ys) x h = by (bytes_eq x y) refl h (not_none ys x)
  where
    by : (b : Bool) → bytes_eq x y ≡ b → (not b && is_none_of ys x) ≡ false → (is_none_of ys x ≡ false → Contains ys x)
        → Contains (y ∷ ys) x
    by true is e rest = subst (Contains (y ∷ ys)) (sym ((bytes_eq-Decides x y).0 is)) (contains_head y ys)
    by false is e rest = contains_behind y x ys (rest e)

first : (i : ℕ) → i ≡ 0 + i
first i = omega arith

-- what stands at a place is there
pub got_in : {X : Type 0} (xs : List X) (k : ℕ) (x : X) → slice_get xs k ≡ Some x → Contains xs x
got_in xs k x e = (k, slice_get_within xs k x e, get_or_from_slice_get xs k x x e)

-- rows and their ids, place by place
module _ {D : Type 0} (Says : List ℕ → D → Type 0) where
  pub row_in : (ids : List (List ℕ)) (ds : List D) (d : D) → EachSays Says ids ds → Contains ds d
      → (id : List ℕ) × Contains ids id × Says id d
  row_in [] [] d h there = absurd (contains_none d there)
  row_in [] (e ∷ ds) d h there = absurd h
  row_in (id ∷ ids) [] d h there = absurd h
  row_in (id ∷ ids) (e ∷ ds) d h there = elim (contains_either e d ds there) [
    | inl same ↦ (id, contains_head id ids, subst (Says id) same h.0)
    | inr later ↦ let r = row_in ids ds d h.1 later in (r.0, contains_behind id r.0 ids r.1, r.2)
  ]

  pub row_at_place : (ids : List (List ℕ)) (ds : List D) (i : ℕ) (d : D) → EachSays Says ids ds → slice_get ds i ≡ Some d
      → (id : List ℕ) × (slice_get ids i ≡ Some id) × Says id d
  row_at_place [] [] i d h e = absurd (none-some d e)
  row_at_place [] (x ∷ ds) i d h e = absurd h
  row_at_place (id ∷ ids) [] i d h e = absurd h
  row_at_place (id ∷ ids) (x ∷ ds) zero d h e = (id, refl, subst (Says id) (same_Some x d e) h.0)
  row_at_place (id ∷ ids) (x ∷ ds) (suc i) d h e = row_at_place ids ds i d h.1 e

  row_for : (ids : List (List ℕ)) (ds : List D) (id : List ℕ) → EachSays Says ids ds → Contains ids id
      → (d : D) × Contains ds d × Says id d
  row_for [] ds id h there = absurd (contains_none id there)
  row_for (i ∷ ids) [] id h there = absurd h
  row_for (i ∷ ids) (e ∷ ds) id h there = elim (contains_either i id ids there) [
    | inl same ↦ (e, contains_head e ds, subst (λ x. Says x e) same h.0)
    | inr later ↦ let r = row_for ids ds id h.1 later in (r.0, contains_behind e r.0 ds r.1, r.2)
  ]

  pub rows_long : (ids : List (List ℕ)) (ds : List D) → EachSays Says ids ds → length ds ≡ length ids
  rows_long [] [] h = refl
  rows_long [] (e ∷ ds) h = absurd h
  rows_long (id ∷ ids) [] h = absurd h
  rows_long (id ∷ ids) (e ∷ ds) h = ap suc (rows_long ids ds h.1)

  -- a part of rows is what each of them tells
  pub rows_map : {X : Type 0} (f : D → X) (g : List ℕ → X) → ((id : List ℕ) (d : D) → Says id d → f d ≡ g id)
      → (ids : List (List ℕ)) (ds : List D) → EachSays Says ids ds → map f ds ≡ map g ids
  rows_map f g is [] [] h = refl
  rows_map f g is [] (e ∷ ds) h = absurd h
  rows_map f g is (id ∷ ids) [] h = absurd h
  rows_map f g is (id ∷ ids) (e ∷ ds) h =
      ap (λ x. x ∷ map f ds) (is id e h.0) ∙ ap (λ xs. g id ∷ xs) (rows_map f g is ids ds h.1)

-- an operation's errors, and behind them those of its service
module _ (g : GraphMaps) (n : Numbering) (a b : List (List ℕ)) (own shared : List ErrorShape) (again : List ℕ)
    (rows : EachSays (SaysError g n) (once a) own) (others : EachSays (SaysError g n) (once b) shared) (are : AreAgain own shared again)
    (tell : NamesTell (a ++ b)) where
  names_said : (ids : List (List ℕ)) (es : List ErrorShape) → EachSays (SaysError g n) ids es → map name_of_error es ≡ map name_part ids
  names_said ids es h = rows_map (SaysError g n) name_of_error name_part (λ id e says. ap name_part says.id_is) ids es h

  name_at : (ids : List (List ℕ)) (i : ℕ) (id : List ℕ) → slice_get ids i ≡ Some id → get_or (map name_part ids) i [] ≡ name_part id
  name_at [] i id e = absurd (none-some id e)
  name_at (x ∷ ids) zero id e = ap name_part (same_Some x id e)
  name_at (x ∷ ids) (suc i) id e = name_at ids i id e

  at_place : (i : ℕ) (id : List ℕ) → slice_get (once b) i ≡ Some id → name_at_place shared i ≡ name_part id
  at_place i id e = ap (λ ns. get_or ns i []) (names_said (once b) shared others) ∙ name_at (once b) i id e

  left : (xs ys : List (List ℕ)) (x : List ℕ) → Contains xs x → Contains (xs ++ ys) x
  left [] ys x h = absurd (contains_none x h)
  left (z ∷ zs) ys x h = elim (contains_either z x zs h) [
    | inl same ↦ subst (Contains (z ∷ zs ++ ys)) same (contains_head z (zs ++ ys))
    | inr later ↦ contains_behind z x (zs ++ ys) (left zs ys x later)
  ]

  right : (xs ys : List (List ℕ)) (x : List ℕ) → Contains ys x → Contains (xs ++ ys) x
  right [] ys x h = h
  right (z ∷ zs) ys x h = contains_behind z x (zs ++ ys) (right zs ys x h)

  to_once : (ids : List (List ℕ)) (id : List ℕ) → Contains ids id → Contains (once ids) id
  to_once [] id h = h
  to_once (x ∷ xs) id h = by (bytes_eq id x) refl (contains_either x id xs h) (to_once xs id)
    where
      by : (c : Bool) → bytes_eq id x ≡ c → (x ≡ id) ⊎ Contains xs id → (Contains xs id → Contains (once xs) id) → Contains (once (x ∷ xs)) id
      by true is either rest =
          subst (Contains (once (x ∷ xs))) (sym ((bytes_eq-Decides id x).0 is))
          (contains_head x (filter (λ other. not (bytes_eq other x)) (once xs)))
      by false is (inl same) rest = absurd (apart (sym is ∙ (bytes_eq-Decides id x).1 (sym same)))
      by false is (inr later) rest =
          contains_behind x id (filter (λ other. not (bytes_eq other x)) (once xs))
          (passing (λ other. not (bytes_eq other x)) (once xs) id (ap not is) (rest later))

  is_own : (id : List ℕ) → Contains a id → Contains (map name_of_error own) (name_part id)
  is_own id there =
      let r = row_for (SaysError g n) (once a) own id rows (to_once a id there) in
      subst (Contains (map name_of_error own)) (ap name_part r.2.id_is) (mapped_to name_of_error own r.0 r.1)

  fails_there : (i : ℕ) (id : List ℕ) → slice_get (once b) i ≡ Some id → is_none_of a id ≡ false → Contains again (0 + i)
  fails_there i id e fails =
      let within = slice_get_within (once b) i id e in
      let long = rows_long (SaysError g n) (once b) shared others in
      let named : Contains (map name_of_error own) (name_at_place shared i) =
      subst (Contains (map name_of_error own)) (sym (at_place i id e)) (is_own id (not_none a id fails)) in
      subst (Contains again) (first i) (are.all i (omega (arith, within, long)) named)

  -- what stands at such a place is an own one
  pub own_again : (i : ℕ) (id : List ℕ) → slice_get (once b) i ≡ Some id → Contains again (0 + i)
      → Contains a id × Contains (map (λ (o : ErrorShape). o.id) own) id
  own_again i id e there =
      let named = are.named i (subst (Contains again) (sym (first i)) there) in
      let r = mapped_from name_of_error own (name_at_place shared i) named in
      let row = row_in (SaysError g n) (once a) own r.0 rows r.1 in
      let mine : Contains a row.0 = once_from a row.0 row.1 in
      let its : Contains b id = once_from b id (got_in (once b) i id e) in
      let same : row.0 ≡ id =
      tell row.0 id (left a b row.0 mine) (right a b id its) (sym (ap name_part row.2.id_is) ∙ r.2 ∙ at_place i id e) in (
        subst (Contains a) same mine,
        subst (Contains (map (λ (o : ErrorShape). o.id) own)) (row.2.id_is ∙ same) (mapped_to (λ (o : ErrorShape). o.id) own r.0 r.1),
      )

  there_fails : (i : ℕ) (id : List ℕ) → slice_get (once b) i ≡ Some id → Contains again (0 + i) → is_none_of a id ≡ false
  there_fails i id e there = none_of_here a id (own_again i id e there).0

  pub joined_rows : EachSays (SaysError g n) (once (a ++ b)) (joined_errors own again shared)
  joined_rows =
      subst (λ ids. EachSays (SaysError g n) ids (joined_errors own again shared)) (sym (once_joined a b))
      (says_joined (SaysError g n) (once a) (filter (is_none_of a) (once b)) own (but_at again 0 shared) rows
      (says_but (SaysError g n) (is_none_of a) (once b) shared 0 again others
      (subst (λ h. RiseBetween 0 h again) (first (length shared)) are.rise)
      (λ i id e. (fails_there i id e, there_fails i id e))))
