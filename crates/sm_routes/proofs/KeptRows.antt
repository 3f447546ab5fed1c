-- The order in which routes are kept is total, and of two routes that match one target it is the order in which they go first.
use Rattle.std.proofs.Common.{◌≡◌, ℕ, List, [], ◌∷◌, true, false, ◌&&◌, refl, sym, ap, ◌∙◌, subst}
use Rattle.std.specs.Prelude.{Option, Some, None}
use Rattle.std.specs.Cmp.{IsTotalOrder}
use Rattle.std.specs.Cmp.Lexicographic.{nat_list_cmp_total, slice_cmp}
use Rattle.std.specs.Ordering.{is_lt, nat_cmp, ordering_then}
use Rattle.std.specs.Str.{bytes_eq}
use Rattle.std.specs.declared.cmp.Ordering.{Ordering}
use Rattle.std.specs.declared.cmp.Ordering.TheVariants.{Less, Equal, Greater}
use Rattle.std.proofs.lemmas.Bool.{and_parts, both_ways}
use Rattle.std.proofs.lemmas.Cmp.{lists_total, nat_cmp_total, on_total, then_total, tied_itself}
use Rattle.std.proofs.lemmas.Slice.Eq.{bytes_eq-Decides}
use Rattle.percent_encoding.specs.Percent.{percent_decode}
use Rattle.sm_model.specs.Graphs.{text_cmp}
use Rattle.sm_uri.specs.declared.pattern.Segment.{Segment}
use Rattle.sm_uri.specs.declared.pattern.Segment.TheVariants.{Literal, Label, Greedy}
use Rattle.sm_parts.specs.HeaderLists.{is_filled}
use Rattle.sm_parts.specs.Targets.{path_of, query_of, query_pairs, segments_of}
use Rattle.sm_routes.specs.KeptOrder.{SegmentPlace, kept_cmp, place_cmp, places_cmp, places_of}
use Rattle.sm_routes.specs.Routes.{RouteData, is_routed, literals_stand, path_matches, route_cmp, route_matches, segments_match}
use Rattle.sm_routes.proofs.RouteOrder.{literal_count, ranks_of, route_total, same_order, then_assoc}

place_total : IsTotalOrder place_cmp
place_total = then_total (on_total (λ p. p.0) nat_cmp_total) (on_total (λ p. p.1) nat_list_cmp_total)

abbrev route_places : RouteData → List SegmentPlace
route_places r = places_of r.uri.segments

pub kept_total : IsTotalOrder kept_cmp
kept_total = then_total (on_total route_places (lists_total place_total)) route_total

abbrev path_order : List Segment → List Segment → Ordering
path_order ss ts = slice_cmp nat_cmp (ranks_of ss) (ranks_of ts)

-- two literals that a segment is equal to
tied : (p a b : List ℕ) → bytes_eq (percent_decode p) a ≡ true → bytes_eq (percent_decode p) b ≡ true → text_cmp a b ≡ Equal
tied p a b h k =
    let same : a ≡ b = sym ((bytes_eq-Decides (percent_decode p) a).0 h) ∙ (bytes_eq-Decides (percent_decode p) b).0 k in
    subst (λ u. text_cmp a u ≡ Equal) same (tied_itself nat_list_cmp_total a)

-- of two paths that match one, where their places tell them apart, their ranks do so
agree : (ss ts : List Segment) (ps : List (List ℕ)) → segments_match ss ps ≡ true → segments_match ts ps ≡ true
    → ordering_then (places_cmp ss ts) (path_order ss ts) ≡ path_order ss ts
agree [] [] ps h k = refl
agree [] (t ∷ ts) [] h k = absurd (both_ways false refl k)
agree [] (t ∷ ts) (p ∷ ps) h k = absurd (both_ways false refl h)
agree (s ∷ ss) [] [] h k = absurd (both_ways false refl h)
agree (s ∷ ss) [] (p ∷ ps) h k = absurd (both_ways false refl k)
agree (s ∷ ss) (t ∷ ts) [] h k = absurd (both_ways false refl h)
agree (Literal a ∷ ss) (Literal b ∷ ts) (p ∷ ps) h k =
    let here = and_parts (bytes_eq (percent_decode p) a) (segments_match ss ps) h in
    let there = and_parts (bytes_eq (percent_decode p) b) (segments_match ts ps) k in
    ap (λ o. ordering_then (ordering_then o (places_cmp ss ts)) (path_order ss ts)) (tied p a b here.0 there.0)
    ∙ agree ss ts ps here.1 there.1
agree (Literal a ∷ ss) (Label b ∷ ts) (p ∷ ps) h k = refl
agree (Literal a ∷ ss) (Greedy b ∷ ts) (p ∷ ps) h k = refl
agree (Label a ∷ ss) (Literal b ∷ ts) (p ∷ ps) h k = refl
agree (Label a ∷ ss) (Label b ∷ ts) (p ∷ ps) h k =
    agree ss ts ps (and_parts (is_filled p) (segments_match ss ps) h).1 (and_parts (is_filled p) (segments_match ts ps) k).1
agree (Label a ∷ ss) (Greedy b ∷ ts) (p ∷ ps) h k = refl
agree (Greedy a ∷ ss) (Literal b ∷ ts) (p ∷ ps) h k = refl
agree (Greedy a ∷ ss) (Label b ∷ ts) (p ∷ ps) h k = refl
agree (Greedy a ∷ ss) (Greedy b ∷ ts) (p ∷ ps) h k = refl

agree_on : (ss ts : List Segment) (path : Option (List (List ℕ))) → path_matches ss path ≡ true → path_matches ts path ≡ true
    → ordering_then (places_cmp ss ts) (path_order ss ts) ≡ path_order ss ts
agree_on ss ts None h k = absurd (both_ways false refl h)
agree_on ss ts (Some ps) h k = agree ss ts ps h k

-- the path of a route that matches
pub path_true : (method target : List ℕ) (r : RouteData) → route_matches method target r ≡ true
    → path_matches r.uri.segments (segments_of (path_of target)) ≡ true
path_true method target r h =
    let path = path_matches r.uri.segments (segments_of (path_of target)) in
    let literals = literals_stand r.uri.literals (query_pairs (query_of target)) in
    let routed = and_parts (is_routed method) (bytes_eq r.method method && (path && literals)) h in
    let own = and_parts (bytes_eq r.method method) (path && literals) routed.1 in
    (and_parts path literals own.1).0

pub kept_as_they_go : (method target : List ℕ) (r s : RouteData) → route_matches method target r ≡ true → route_matches method target s ≡ true
    → kept_cmp r s ≡ route_cmp r s
kept_as_they_go method target r s h k =
    let places = places_cmp r.uri.segments s.uri.segments in
    let path = path_order r.uri.segments s.uri.segments in
    let rest = ordering_then (nat_cmp (literal_count s) (literal_count r)) (text_cmp r.name s.name) in
    ap (ordering_then places) (sym (same_order r s)) ∙ sym (then_assoc places path rest)
    ∙ ap (λ o. ordering_then o rest)
    (agree_on r.uri.segments s.uri.segments (segments_of (path_of target)) (path_true method target r h) (path_true method target s k))
    ∙ same_order r s

-- where one is kept before another, its path is
pub kept_by_places : (r s : RouteData) → is_lt (kept_cmp r s) ≡ false → is_lt (places_cmp r.uri.segments s.uri.segments) ≡ false
kept_by_places r s h = by (places_cmp r.uri.segments s.uri.segments) (route_cmp r s) h
  where
    by : (o p : Ordering) → is_lt (ordering_then o p) ≡ false → is_lt o ≡ false
    by Less p h = absurd (both_ways true h refl)
    by Equal p h = refl
    by Greater p h = refl
