-- Errors by their names: what is found among own ones, and among shared ones but for those at some places.
use Rattle.std.proofs.Common.{◌≡◌, inl, inr, ℕ, zero, suc, ◌+◌, ◌-◌, ◌<◌, ◌≤◌, Bool, true, false, cond, List, [], ◌∷◌, ◌++◌, Option, Some, None}
use Rattle.std.proofs.Common.{map, length, get_or, bytes_eq, refl, sym, ap, ◌∙◌, subst, arith}
use Rattle.std.specs.Prelude.{◌==◌, MatchOption, slice_get}
use Rattle.std.specs.List.{Contains, range_with_len}
use Rattle.std.specs.Option.{option_map}
use Rattle.std.proofs.lemmas.Bool.{cases_eq, cases_lt, le-ltb, lt-ltb}
use Rattle.std.proofs.lemmas.List.{length-append, length-map, map-append}
use Rattle.std.proofs.lemmas.List.Elements.{Contains-append_cases}
use Rattle.std.proofs.lemmas.Option.{none-some, same_Some, slice_get-map, slice_get_within}
use Rattle.std.proofs.lemmas.Slice.Eq.{bytes_eq-Decides}
use Rattle.sm_model.proofs.LinkedEntries.{cons_cases, cons_here}
use Rattle.sm_model.proofs.Worklist.{apart}
use Rattle.sm_shapes.specs.TableData.{member_with}
use Rattle.sm_shapes.proofs.NamedMembers.{IsAmong}
use Rattle.sm_service.specs.ErrorOrder.{name_at_place, place_named, places_of}
use Rattle.sm_service.specs.ErrorsView.{RiseBetween, but_at}
use Rattle.sm_service.specs.ServiceData.{name_of_error}
use Rattle.sm_service.specs.declared.error.ErrorShape.{ErrorShape}
use Rattle.sm_service.specs.steps.KeptPlaces.{below_place, moved_place}
use Rattle.sm_service.proofs.KeptErrors.{kept_at_place, moved_not, moved_past}

-- what a search by names finds
pub with_some : (f : ℕ → List ℕ) (w : List ℕ) (ks : List ℕ) (k : ℕ) → member_with f w ks ≡ Some k → (f k ≡ w) × IsAmong k ks
with_some f w [] k e = absurd (none-some k e)
with_some f w (j ∷ ks) k e = by (bytes_eq (f j) w) refl e (λ h. with_some f w ks k h)
  where
    by : (b : Bool) → bytes_eq (f j) w ≡ b → cond b (Some j) (member_with f w ks) ≡ Some k
        → (member_with f w ks ≡ Some k → (f k ≡ w) × IsAmong k ks) → (f k ≡ w) × IsAmong k (j ∷ ks)
    by true is e later =
        let same : j ≡ k = same_Some j k e in
        (subst (λ i. f i ≡ w) same ((bytes_eq-Decides (f j) w).0 is), inl (sym same))
    by false is e later = let rest = later e in (rest.0, inr rest.1)

with_none : (f : ℕ → List ℕ) (w : List ℕ) (ks : List ℕ) → member_with f w ks ≡ None → (k : ℕ) → IsAmong k ks → f k ≡ w → ⊥
with_none f w [] e k among is = among
with_none f w (j ∷ ks) e k among is = by (bytes_eq (f j) w) refl e among (λ h i. with_none f w ks h k i is)
  where
    by : (b : Bool) → bytes_eq (f j) w ≡ b → cond b (Some j) (member_with f w ks) ≡ None → IsAmong k (j ∷ ks)
        → (member_with f w ks ≡ None → IsAmong k ks → ⊥) → ⊥
    by true same e among rest = none-some j (sym e)
    by false other e (inl here) rest =
        let equal : bytes_eq (f j) w ≡ true = (bytes_eq-Decides (f j) w).1 (ap f (sym here) ∙ is) in apart (sym other ∙ equal)
    by false other e (inr later) rest = rest e later

-- numbers in a row
pub among_below : (a n k : ℕ) → IsAmong k (range_with_len a n) → k < a + n
among_below a zero k h = absurd h
among_below a (suc n) k (inl e) = omega (arith, e)
among_below a (suc n) k (inr h) = let rest = among_below (a + 1) n k h in omega (arith, rest)

pub below_among : (a n k : ℕ) → a ≤ k → k < a + n → IsAmong k (range_with_len a n)
below_among a zero k le lt = absurd (omega (arith, le, lt))
below_among a (suc n) k le lt = elim (cases_eq k a) [
  | inl same ↦ inl same
  | inr other ↦ inr (below_among (a + 1) n k (above k a le other) (omega (arith, lt)))
]
  where
    above : (k a : ℕ) → a ≤ k → (k ≡ a → ⊥) → a + 1 ≤ k
    above k a le other = elim (cases_lt a k) [ inl less ↦ omega (arith, less) | inr ge ↦ absurd (other (omega (arith, le, ge))) ]

got_at : (ns : List (List ℕ)) (k : ℕ) → k < length ns → slice_get ns k ≡ Some (get_or ns k [])
got_at [] k lt = absurd (omega (arith, lt))
got_at (n ∷ ns) zero lt = refl
got_at (n ∷ ns) (suc k) lt = got_at ns k (omega (arith, lt))

-- a name that is found, and one that isn't
pub some_named : (es : List ErrorShape) (w : List ℕ) (k : ℕ) → place_named es w ≡ Some k → slice_get (map name_of_error es) k ≡ Some w
some_named es w k e =
    let r = with_some (name_at_place es) w (places_of es) k e in
    let small : k < length (map name_of_error es) =
    let less = among_below 0 (length es) k r.1 in let long = length-map es name_of_error in omega (arith, less, long) in
    got_at (map name_of_error es) k small ∙ ap (λ n. Some n) r.0

pub none_named : (es : List ErrorShape) (w : List ℕ) → place_named es w ≡ None → Contains (map name_of_error es) w → ⊥
none_named es w e among =
    let small : among.0 < length es = let long = length-map es name_of_error in omega (arith, among.1, long) in
    with_none (name_at_place es) w (places_of es) e among.0 (below_among 0 (length es) among.0 (omega arith) (omega (arith, small)))
    (named (map name_of_error es) among.0 w among.1 among.2)
  where
    named : (ns : List (List ℕ)) (k : ℕ) (w : List ℕ) → k < length ns → get_or ns k w ≡ w → get_or ns k [] ≡ w
    named [] k w lt e = absurd (omega (arith, lt))
    named (n ∷ ns) zero w lt e = e
    named (n ∷ ns) (suc k) w lt e = named ns k w (omega (arith, lt)) e

-- what is left has no names but those of all
pub kept_names : {X Y : Type 0} (f : X → Y) (ps : List ℕ) (k : ℕ) (xs : List X) (y : Y) → Contains (map f (but_at ps k xs)) y
    → Contains (map f xs) y
kept_names f ps k [] y h = h
kept_names f [] k (x ∷ xs) y h = h
kept_names f (p ∷ ps) k (x ∷ xs) y h = by (p == k) h (kept_names f ps (suc k) xs y) (kept_names f (p ∷ ps) (suc k) xs y)
  where
    later : Contains (map f xs) y → Contains (f x ∷ map f xs) y
    later among = (suc among.0, omega (arith, among.1), among.2)

    by : (b : Bool) → Contains (map f (cond b (but_at ps (suc k) xs) (x ∷ but_at (p ∷ ps) (suc k) xs))) y
        → (Contains (map f (but_at ps (suc k) xs)) y → Contains (map f xs) y)
        → (Contains (map f (but_at (p ∷ ps) (suc k) xs)) y → Contains (map f xs) y) → Contains (f x ∷ map f xs) y
    by true h left_out kept = later (left_out h)
    by false h left_out kept = elim (cons_cases (f x) (map f (but_at (p ∷ ps) (suc k) xs)) y h) [
      | inl here ↦ subst (Contains (f x ∷ map f xs)) here (cons_here (f x) (map f xs))
      | inr rest ↦ later (kept rest)
    ]

-- one that isn't the first is past it
past : (at p : ℕ) (ps : List ℕ) → p ≤ at → (Contains (p ∷ ps) at → ⊥) → suc p ≤ at
past at p ps le other = elim (cases_lt p at) [
  | inl less ↦ omega (arith, less)
  | inr ge ↦ let same : p ≡ at = omega (arith, le, ge) in absurd (other (subst (Contains (p ∷ ps)) same (cons_here p ps)))
]

-- how many places stand before one that isn't among them
pub below_few : (low high : ℕ) (ps : List ℕ) (at : ℕ) → RiseBetween low high ps → (Contains ps at → ⊥) → low ≤ at
    → low + below_place ps at ≤ at
below_few low high [] at r other le = omega (arith, le)
below_few low high (p ∷ ps) at r other le = elim (cases_lt at p) [
  | inl less ↦ let none = ap (λ b. cond b zero (suc (below_place ps at))) (lt-ltb at p less) in omega (arith, none, le)
  | inr ge ↦
      let more = ap (λ b. cond b zero (suc (below_place ps at))) (le-ltb at p ge) in
      let rest = below_few (suc p) high ps at r.2 (λ h. other (suc h.0, omega (arith, h.1), h.2)) (past at p ps ge other) in
      omega (arith, more, rest, r.0)
]

-- the place of what stands at one where these are left out
pub moved_back : (low high : ℕ) (ps : List ℕ) (at : ℕ) → RiseBetween low high ps → (Contains ps at → ⊥) → low ≤ at
    → moved_place ps (at - below_place ps at) ≡ at
moved_back low high [] at r other le = let same : at - 0 ≡ at = omega arith in same
moved_back low high (p ∷ ps) at r other le = elim (cases_lt at p) [
  | inl less ↦
      let none = ap (λ b. cond b zero (suc (below_place ps at))) (lt-ltb at p less) in
      let same : at - below_place (p ∷ ps) at ≡ at = omega (arith, none) in
      ap (moved_place (p ∷ ps)) same ∙ moved_not p at ps less
  | inr ge ↦
      let more = ap (λ b. cond b zero (suc (below_place ps at))) (le-ltb at p ge) in
      let others = λ (h : Contains ps at). other (suc h.0, omega (arith, h.1), h.2) in
      let beyond = past at p ps ge other in
      let few = below_few (suc p) high ps at r.2 others beyond in
      let least : p ≤ at - below_place (p ∷ ps) at = omega (arith, more, few) in
      let next : suc (at - below_place (p ∷ ps) at) ≡ at - below_place ps at = omega (arith, more, few) in
      moved_past p (at - below_place (p ∷ ps) at) ps least ∙ ap (moved_place ps) next ∙ moved_back (suc p) high ps at r.2 others beyond
]

-- the name at a place that is found
pub found_name : (es : List ErrorShape) (w : List ℕ) (k : ℕ) → place_named es w ≡ Some k → name_at_place es k ≡ w
found_name es w k e = (with_some (name_at_place es) w (places_of es) k e).0

-- what is found among all stands among what is left
pub kept_found : (again : List ℕ) (es : List ErrorShape) (w : List ℕ) (k : ℕ) → RiseBetween 0 (length es) again
    → (Contains again k → ⊥) → place_named es w ≡ Some k
    → slice_get (map name_of_error (but_at again 0 es)) (k - below_place again k) ≡ Some w
kept_found again es w k r other e =
    let j = k - below_place again k in
    let back = moved_back 0 (length es) again k r other (omega arith) in
    slice_get-map name_of_error (but_at again 0 es) j
    ∙ ap (option_map name_of_error) (kept_at_place again es j r ∙ ap (slice_get es) back)
    ∙ sym (slice_get-map name_of_error es k) ∙ some_named es w k e

-- a name among own errors, and among those behind them
get_left : {X : Type 0} (xs ys : List X) (k : ℕ) (x : X) → slice_get xs k ≡ Some x → slice_get (xs ++ ys) k ≡ Some x
get_left [] ys k x e = absurd (none-some x e)
get_left (z ∷ xs) ys zero x e = e
get_left (z ∷ xs) ys (suc k) x e = get_left xs ys k x e

get_right : {X : Type 0} (xs ys : List X) (k : ℕ) → slice_get (xs ++ ys) (length xs + k) ≡ slice_get ys k
get_right [] ys k = let same : 0 + k ≡ k = omega arith in ap (slice_get ys) same
get_right (z ∷ xs) ys k = let next : suc (length xs) + k ≡ suc (length xs + k) = omega arith in ap (slice_get (z ∷ (xs ++ ys))) next ∙ get_right xs ys k

pub named_own : (own kept : List ErrorShape) (w : List ℕ) (k : ℕ) → place_named own w ≡ Some k
    → slice_get (map name_of_error (own ++ kept)) k ≡ Some w
named_own own kept w k e =
    ap (λ ns. slice_get ns k) (map-append name_of_error own kept)
    ∙ get_left (map name_of_error own) (map name_of_error kept) k w (some_named own w k e)

pub named_behind : (own : List ErrorShape) (again : List ℕ) (shared : List ErrorShape) (w : List ℕ) (r : Option ℕ)
    → place_named own w ≡ None
    → MatchOption r (Contains (map name_of_error shared) w → ⊥)
    (λ k. slice_get (map name_of_error (but_at again 0 shared)) k ≡ Some w)
    → MatchOption (option_map (λ k. length own + k) r) (Contains (map name_of_error (own ++ but_at again 0 shared)) w → ⊥)
    (λ k. slice_get (map name_of_error (own ++ but_at again 0 shared)) k ≡ Some w)
named_behind own again shared w None none h = λ among.
    elim (Contains-append_cases (map name_of_error own) (map name_of_error (but_at again 0 shared)) w
    (subst (λ ns. Contains ns w) (map-append name_of_error own (but_at again 0 shared)) among)) [
      | inl here ↦ none_named own w none here
      | inr later ↦ h (kept_names name_of_error again 0 shared w later)
    ]
named_behind own again shared w (Some k) none h =
    let long = length-map own name_of_error in
    ap (λ ns. slice_get ns (length own + k)) (map-append name_of_error own (but_at again 0 shared))
    ∙ ap (λ n. slice_get (map name_of_error own ++ map name_of_error (but_at again 0 shared)) (n + k)) (sym long)
    ∙ get_right (map name_of_error own) (map name_of_error (but_at again 0 shared)) k ∙ h

-- a place behind own errors is one of all
pub behind_few : (own kept all : List ErrorShape) (w : List ℕ) (k : ℕ) → own ++ kept ≡ all
    → slice_get (map name_of_error kept) k ≡ Some w → length own + k < length all
behind_few own kept all w k whole found =
    let small = slice_get_within (map name_of_error kept) k w found in
    let long = length-map kept name_of_error in
    let joined : length all ≡ length own + length kept = sym (ap length whole) ∙ length-append own kept in
    omega (arith, small, long, joined)
