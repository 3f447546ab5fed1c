-- The first of ordered routes that matches goes before all others that do.
use Rattle.std.proofs.Common.{◌≡◌, ℕ, zero, suc, ◌+◌, ◌<◌, ◌≤◌, List, [], ◌∷◌, drop, length, map, get_or, Bool, true, false, refl, sym, ap, ◌∙◌, subst, arith}
use Rattle.std.proofs.Common.{inl, inr}
use Rattle.std.specs.List.{Contains}
use Rattle.std.specs.Ordering.{is_lt}
use Rattle.std.specs.Prelude.{Some, None, ◌&&◌}
use Rattle.std.specs.Str.{bytes_eq}
use Rattle.std.proofs.lemmas.Bool.{and_left, and_right, both_ways, cases_lt}
use Rattle.std.proofs.lemmas.List.Sorted.{ranks_by, sorted_far}
use Rattle.sm_parts.specs.Targets.{path_of, query_of, query_pairs, segments_of}
use Rattle.sm_routes.specs.KeptOrder.{AreOrdered, kept_cmp, stands_first}
use Rattle.sm_routes.specs.RouteView.{route_data}
use Rattle.sm_routes.specs.Routes.{GoesBefore, IsFirstRoute, RouteData, is_routed, literals_stand, path_matches}
use Rattle.sm_routes.specs.Routes.{route_matches, segments_match}
use Rattle.sm_routes.specs.declared.route.Route.{Route}
use Rattle.sm_routes.specs.declared.walk.Stop.{Stop}
use Rattle.sm_routes.specs.steps.Passing.{IsPassedTo, StopsAt, first_piece, stand_of}
use Rattle.sm_routes.proofs.KeptRows.{kept_as_they_go, kept_by_places, kept_total, path_true}
use Rattle.sm_routes.proofs.PassedRows.{between}

-- what stands among the routes' data is that of one of them
pub record IsOneOf (rows : List Route) (r : RouteData) : Type 0 where
  pub place : ℕ
  pub route : Route
  pub stood : (d : Route) → get_or rows place d ≡ route
  pub within : place < length rows
  pub is : route_data route ≡ r

one_behind : (x : Route) (rows : List Route) (r : RouteData) → IsOneOf rows r → IsOneOf (x ∷ rows) r
one_behind x rows r o = record { place = suc o.place; route = o.route; stood = o.stood; within = omega (arith, o.within); is = o.is }

one_of : (rows : List Route) (r : RouteData) (k : ℕ) → k < length (map route_data rows) → get_or (map route_data rows) k r ≡ r
    → IsOneOf rows r
one_of [] r k h e = absurd (omega arith)
one_of (x ∷ rows) r zero h e = record { place = zero; route = x; stood = λ d. refl; within = omega arith; is = e }
one_of (x ∷ rows) r (suc k) h e = one_behind x rows r (one_of rows r k (omega arith) e)

at_data : (rows : List Route) (k : ℕ) (d : Route) (e : RouteData) → k < length rows
    → get_or (map route_data rows) k e ≡ route_data (get_or rows k d)
at_data [] k d e h = absurd (omega arith)
at_data (x ∷ rows) zero d e h = refl
at_data (x ∷ rows) (suc k) d e h = at_data rows k d e (omega arith)

as_many : (rows : List Route) → length (map route_data rows) ≡ length rows
as_many [] = refl
as_many (x ∷ rows) = ap suc (as_many rows)

there_at : (rows : List Route) (i : ℕ) (row : Route) → i < length rows → get_or rows i row ≡ row → Contains (map route_data rows) (route_data row)
there_at rows i row h e = (i, omega (arith, h, as_many rows), at_data rows i row (route_data row) h ∙ ap route_data e)

-- none of the first so many matches
abbrev pub NoneBefore : List ℕ → List ℕ → List Route → ℕ → Type 0
NoneBefore method target rows i =
    (k : ℕ) (d : Route) → k < i → k < length rows → route_matches method target (route_data (get_or rows k d)) ≡ false

-- within a list it doesn't matter what would stand past its end
any_default : (rows : List Route) (i : ℕ) (d e : Route) → i < length rows → get_or rows i d ≡ get_or rows i e
any_default [] i d e h = absurd (omega (arith, h))
any_default (x ∷ rows) zero d e h = refl
any_default (x ∷ rows) (suc i) d e h = any_default rows i d e (omega (arith, h))

module _ (method target : List ℕ) (rows : List Route) where
  pub none_first : NoneBefore method target rows 0
  none_first k d h within = absurd (omega (arith, h))

  pub none_more : (i : ℕ) (row : Route) → i < length rows → get_or rows i row ≡ row → NoneBefore method target rows i
      → route_matches method target (route_data row) ≡ false → NoneBefore method target rows (i + 1)
  none_more i row inside stood none misses k d h within = elim (cases_lt k i) [
    | inl before ↦ none k d before within
    | inr past ↦
        let same : i ≡ k = omega (arith, h, past) in
        subst (λ n. route_matches method target (route_data (get_or rows n d)) ≡ false) same
        (ap (λ r. route_matches method target (route_data r)) (any_default rows i d row inside ∙ stood) ∙ misses)
  ]

  clash : (r : RouteData) (i : ℕ) → NoneBefore method target rows i → (o : IsOneOf rows r) → o.place < i
      → route_matches method target r ≡ true → ⊥
  clash r i none o h hits =
      let misses = none o.place o.route h o.within in
      let data_is : route_data (get_or rows o.place o.route) ≡ r = ap route_data (o.stood o.route) ∙ o.is in
      both_ways (route_matches method target r) (ap (route_matches method target) (sym data_is) ∙ misses) hits

  pub none_at_all : (i : ℕ) → length rows ≤ i → NoneBefore method target rows i → (r : RouteData) → Contains (map route_data rows) r
      → route_matches method target r ≡ true → ⊥
  none_at_all i h none r c =
      let o = one_of rows r c.0 c.1 c.2 in clash r i none o (omega (arith, h, o.within))

  not_before : (ordered : AreOrdered rows) (i : ℕ) (row : Route) → get_or rows i row ≡ row → (r : RouteData) → (o : IsOneOf rows r)
      → i ≤ o.place → route_matches method target r ≡ true → route_matches method target (route_data row) ≡ true
      → GoesBefore r (route_data row) → ⊥
  not_before ordered i row stood r o h matches hits before =
      let far = sorted_far stands_first (ranks_by kept_total route_data) rows ordered i o.place row h o.within in
      let same : stands_first (get_or rows o.place row) (get_or rows i row) ≡ is_lt (kept_cmp r (route_data row)) =
      ap (λ x. is_lt (kept_cmp (route_data x) (route_data (get_or rows i row)))) (o.stood row)
      ∙ ap (λ x. is_lt (kept_cmp x (route_data (get_or rows i row)))) o.is
      ∙ ap (λ x. is_lt (kept_cmp r (route_data x))) stood in
      both_ways (is_lt (kept_cmp r (route_data row))) (sym same ∙ far)
      (ap is_lt (kept_as_they_go method target r (route_data row) matches hits ∙ before))

  -- the one that is found first
  pub first_found : AreOrdered rows → (i : ℕ) (row : Route) → i < length rows → get_or rows i row ≡ row
      → NoneBefore method target rows i → route_matches method target (route_data row) ≡ true
      → IsFirstRoute (map route_data rows) method target row.operation
  first_found ordered i row within stood none hits = record {
    route = route_data row;
    there = there_at rows i row within stood;
    number = refl;
    matches = hits;
    first = λ r c matches before.
        let o = one_of rows r c.0 c.1 c.2 in
        elim (cases_lt o.place i) [
          | inl earlier ↦ clash r i none o earlier matches
          | inr later ↦ not_before ordered i row stood r o later matches hits before
        ];
  }

  -- rows whose segments don't match
  path_missed : (ps : List (List ℕ)) → segments_of (path_of target) ≡ Some ps → (k : Route) → segments_match k.uri.segments.items ps ≡ false
      → route_matches method target (route_data k) ≡ false
  path_missed ps is k h =
      let path = path_matches k.uri.segments.items (segments_of (path_of target)) in
      let literals = literals_stand k.uri.literals.items (query_pairs (query_of target)) in
      let missed : path ≡ false = ap (path_matches k.uri.segments.items) is ∙ h in
      and_right (is_routed method) (bytes_eq k.method method && (path && literals))
      (and_right (bytes_eq k.method method) (path && literals) (and_left path literals missed))

  -- a run of rows that stand so
  pub none_passed : (ordered : AreOrdered rows) (ps : List (List ℕ)) → segments_of (path_of target) ≡ Some ps
      → (at last : ℕ) (row : Route) (stop : Stop) → at < length rows → get_or rows at row ≡ row → StopsAt row.uri.segments.items ps stop
      → IsPassedTo rows row.uri.segments.items stop at last → NoneBefore method target rows at → NoneBefore method target rows (last + 1)
  none_passed ordered ps is at last row stop inside stood stops run none k d h within = elim (cases_lt k at) [
    | inl before ↦ none k d before within
    | inr past ↦
        let order = ranks_by kept_total route_data in
        let own = get_or rows k row in
        let other = get_or rows last row in
        let low : stands_first own row ≡ false =
        subst (λ x. stands_first own x ≡ false) stood (sorted_far stands_first order rows ordered at k row past within) in
        let high : stands_first other own ≡ false =
        sorted_far stands_first order rows ordered k last row (omega (arith, h)) run.within in
        let here : stand_of (drop stop.depth row.uri.segments.items) (first_piece (drop stop.depth ps)) ≡ stop.stand =
        subst (λ p. stand_of (drop stop.depth row.uri.segments.items) p ≡ stop.stand) stops.piece stops.stand in
        let there : stand_of (drop stop.depth other.uri.segments.items) (first_piece (drop stop.depth ps)) ≡ stop.stand =
        subst (λ p. stand_of (drop stop.depth other.uri.segments.items) p ≡ stop.stand) stops.piece (run.so row).stand in
        let missed = between stop.depth row.uri.segments.items own.uri.segments.items other.uri.segments.items ps stop.stand
        (kept_by_places (route_data own) (route_data row) low) (kept_by_places (route_data other) (route_data own) high)
        (run.so row).begins here there stops.missed in
        ap (λ x. route_matches method target (route_data x)) (any_default rows k d row within) ∙ path_missed ps is own missed
  ]

  -- what asking for a row comes to
  swap : (x y z : Bool) → (x && (y && z)) ≡ (y && (x && z))
  swap true y z = refl
  swap false true z = refl
  swap false false z = refl

  pub is_wanted_row : (ps : List (List ℕ)) → segments_of (path_of target) ≡ Some ps → is_routed method ≡ true → (row : Route) (path wanted : Bool)
      → segments_match row.uri.segments.items ps ≡ path
      → wanted ≡ (path && (bytes_eq row.method method && literals_stand row.uri.literals.items (query_pairs (query_of target))))
      → route_matches method target (route_data row) ≡ wanted
  is_wanted_row ps is routed row path wanted h k =
      let literals = literals_stand row.uri.literals.items (query_pairs (query_of target)) in
      ap (λ t. t && (bytes_eq row.method method && (path_matches row.uri.segments.items (segments_of (path_of target)) && literals))) routed
      ∙ ap (λ p. bytes_eq row.method method && (path_matches row.uri.segments.items p && literals)) is
      ∙ ap (λ t. bytes_eq row.method method && (t && literals)) h
      ∙ swap (bytes_eq row.method method) path literals ∙ sym k

  -- a target without a path, and a method that isn't routed
  pub no_path : segments_of (path_of target) ≡ None → (r : RouteData) → Contains (map route_data rows) r
      → route_matches method target r ≡ true → ⊥
  no_path is r c h =
      both_ways (path_matches r.uri.segments (segments_of (path_of target))) (ap (path_matches r.uri.segments) is) (path_true method target r h)

  pub not_routed : is_routed method ≡ false → (r : RouteData) → Contains (map route_data rows) r → route_matches method target r ≡ true → ⊥
  not_routed other r c h =
      let own = bytes_eq r.method method && (path_matches r.uri.segments (segments_of (path_of target))
      && literals_stand r.uri.literals (query_pairs (query_of target))) in
      both_ways (route_matches method target r) (and_left (is_routed method) own other) h
