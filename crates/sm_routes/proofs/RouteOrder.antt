-- The order in which routes go first is total: segment by segment by their ranks, where the end of a pattern ranks behind all.
use Rattle.std.proofs.Common.{◌≡◌, ℕ, suc, ◌<◌, List, [], ◌∷◌, length, refl, sym, ap, ◌∙◌, subst, arith}
use Rattle.std.specs.Cmp.{IsTotalOrder, nat_cmp_is}
use Rattle.std.specs.Cmp.Lexicographic.{nat_list_cmp_total, slice_cmp}
use Rattle.std.specs.Ordering.{MatchOrdering, nat_cmp, ordering_then}
use Rattle.std.specs.declared.cmp.Ordering.{Ordering}
use Rattle.std.specs.declared.cmp.Ordering.TheVariants.{Less, Equal, Greater}
use Rattle.std.proofs.lemmas.Cmp.{back_total, nat_cmp_total, on_total, ranked, then_total}
use Rattle.sm_model.specs.Graphs.{text_cmp}
use Rattle.sm_uri.specs.declared.pattern.Segment.{Segment}
use Rattle.sm_uri.specs.declared.pattern.Segment.TheVariants.{Literal, Label, Greedy}
use Rattle.sm_routes.specs.Routes.{RouteData, ranks_cmp, route_cmp, segment_rank}

-- the ranks of segments, and of the end
abbrev pub ranks_of : List Segment → List ℕ
ranks_of [] = 3 ∷ []
ranks_of (s ∷ ss) = segment_rank s ∷ ranks_of ss

suc_by : (a b : ℕ) (r : Ordering) → MatchOrdering r (a < b) (a ≡ b) (b < a) → r ≡ nat_cmp (suc a) (suc b)
suc_by a b Less h = nat_cmp_is (suc a) (suc b) Less (omega (arith, h))
suc_by a b Equal h = nat_cmp_is (suc a) (suc b) Equal (ap suc h)
suc_by a b Greater h = nat_cmp_is (suc a) (suc b) Greater (omega (arith, h))

suc_cmp : (a b : ℕ) → nat_cmp a b ≡ nat_cmp (suc a) (suc b)
suc_cmp a b = suc_by a b (nat_cmp a b) (ranked a b (nat_cmp a b) refl)

end_behind : (t : Segment) → nat_cmp 3 (segment_rank t) ≡ Greater
end_behind (Literal text) = refl
end_behind (Label name) = refl
end_behind (Greedy name) = refl

before_end : (s : Segment) → nat_cmp (segment_rank s) 3 ≡ Less
before_end (Literal text) = refl
before_end (Label name) = refl
before_end (Greedy name) = refl

then_same : (r o p q : Ordering) → ordering_then o q ≡ p → ordering_then (ordering_then r o) q ≡ ordering_then r p
then_same Less o p q h = refl
then_same Equal o p q h = h
then_same Greater o p q h = refl

-- what stands behind the ranks of segments decides where they are alike
by_ranks : (ss ts : List Segment)
    → ordering_then (ranks_cmp ss ts) (nat_cmp (length ts) (length ss)) ≡ slice_cmp nat_cmp (ranks_of ss) (ranks_of ts)
by_ranks [] [] = refl
by_ranks [] (t ∷ ts) =
    sym (nat_cmp_is (suc (length ts)) 0 Greater (omega arith)) ∙ sym (ap (λ o. ordering_then o (slice_cmp nat_cmp [] (ranks_of ts))) (end_behind t))
by_ranks (s ∷ ss) [] =
    sym (nat_cmp_is 0 (suc (length ss)) Less (omega arith)) ∙ sym (ap (λ o. ordering_then o (slice_cmp nat_cmp (ranks_of ss) [])) (before_end s))
by_ranks (s ∷ ss) (t ∷ ts) =
    then_same (nat_cmp (segment_rank s) (segment_rank t)) (ranks_cmp ss ts) (slice_cmp nat_cmp (ranks_of ss) (ranks_of ts))
    (nat_cmp (suc (length ts)) (suc (length ss)))
    (ap (ordering_then (ranks_cmp ss ts)) (sym (suc_cmp (length ts) (length ss))) ∙ by_ranks ss ts)

pub then_assoc : (o p q : Ordering) → ordering_then (ordering_then o p) q ≡ ordering_then o (ordering_then p q)
then_assoc Less p q = refl
then_assoc Equal p q = refl
then_assoc Greater p q = refl

-- the same order, by what each route has
abbrev pub path_key : RouteData → List ℕ
path_key r = ranks_of r.uri.segments

abbrev pub literal_count : RouteData → ℕ
literal_count r = length r.uri.literals

abbrev pub keyed_cmp : RouteData → RouteData → Ordering
keyed_cmp r s =
    ordering_then (slice_cmp nat_cmp (path_key r) (path_key s))
    (ordering_then (nat_cmp (literal_count s) (literal_count r)) (text_cmp r.name s.name))

keyed_total : IsTotalOrder keyed_cmp
keyed_total =
    then_total (on_total path_key nat_list_cmp_total)
    (then_total (back_total (on_total literal_count nat_cmp_total)) (on_total (λ r. r.name) nat_list_cmp_total))

pub same_order : (r s : RouteData) → keyed_cmp r s ≡ route_cmp r s
same_order r s =
    let rest = ordering_then (nat_cmp (literal_count s) (literal_count r)) (text_cmp r.name s.name) in
    ap (λ o. ordering_then o rest) (sym (by_ranks r.uri.segments s.uri.segments))
    ∙ then_assoc (ranks_cmp r.uri.segments s.uri.segments) (nat_cmp (length s.uri.segments) (length r.uri.segments)) rest

pub route_total : IsTotalOrder route_cmp
route_total = subst IsTotalOrder (λ i r s. same_order r s i) keyed_total

-- two paths by their first segments
pub ranks_first : (ones others more rest : List Segment) (s t : Segment) (o : Ordering) → ones ≡ s ∷ more → others ≡ t ∷ rest
    → nat_cmp (segment_rank s) (segment_rank t) ≡ o → ranks_cmp ones others ≡ ordering_then o (ranks_cmp more rest)
ranks_first ones others more rest s t o e f h =
    ap (λ l. ranks_cmp l others) e ∙ ap (ranks_cmp (s ∷ more)) f ∙ ap (λ r. ordering_then r (ranks_cmp more rest)) h
