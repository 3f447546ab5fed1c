-- The operation to which a request of restJson1 goes: one at most, of the service, and one for which its head is.
use Rattle.std.proofs.Common.{◌≡◌, inl, inr, ℕ, zero, ◌<◌, ◌+◌, suc, true, List, [], ◌∷◌, get_or, length, refl, sym, ap, ◌∙◌, subst, arith}
use Rattle.std.specs.Prelude.{None, Option, Some}
use Rattle.std.specs.List.{Contains}
use Rattle.std.specs.List.Sorted.{IsPermutation}
use Rattle.std.specs.Ordering.{is_eq, nat_cmp, ordering_reverse, ordering_then}
use Rattle.std.specs.declared.cmp.Ordering.{Ordering}
use Rattle.std.specs.declared.cmp.Ordering.TheVariants.{Less, Equal, Greater}
use Rattle.std.specs.Cmp.Lexicographic.{nat_list_cmp_total}
use Rattle.std.proofs.lemmas.Bool.{cases_lt}
use Rattle.std.proofs.lemmas.Cmp.{nat_cmp_total}
use Rattle.std.proofs.lemmas.List.{get_or_past}
use Rattle.std.proofs.lemmas.List.Elements.{Contains-append_cases}
use Rattle.std.proofs.lemmas.List.Sorted.{Contains-permutation, IsPermutation-sym}
use Rattle.std.proofs.lemmas.Map.Text.{is_eq-slice_cmp}
use Rattle.std.proofs.lemmas.Slice.Eq.{bytes_eq-Decides}
use Rattle.sm_http.specs.declared.message.Head.{Head}
use Rattle.sm_http.specs.declared.message.Start.{Start}
use Rattle.sm_http.specs.declared.message.Start.TheVariants.{Request, Response}
use Rattle.sm_model.specs.Graphs.{text_cmp}
use Rattle.sm_uri.specs.declared.pattern.Segment.{Segment}
use Rattle.sm_routes.specs.Routes.{IsFirstRoute, IsRouted, RouteData, ranks_cmp, route_cmp, route_matches, segment_rank}
use Rattle.sm_bind.specs.service.Servable.{Servable}
use Rattle.sm_bind.specs.service.ServiceData.{HttpData, OperationData, ServiceData}
use Rattle.sm_messages.specs.Goals.{no_operation, operation_at}
use Rattle.sm_messages.proofs.OperationsNamed.{one_number}
use Rattle.sm_rest_heads.specs.RestRoutes.{GoesTo, IsAskedFor, IsForOperation, route_of, routes_at, routes_from, routes_of}

-- a route is that of the operation at a place
pub record IsRouteAt (operation : OperationData) (k : ℕ) (r : RouteData) : Type 0 where
  pub number : r.operation ≡ k
  pub name : r.name ≡ operation.name
  pub rule : HttpData
  pub has : operation.http ≡ Some rule
  pub is : r ≡ route_of k operation.name rule

only_at : (x r : RouteData) (i : ℕ) → i < 1 → get_or (x ∷ []) i r ≡ r → x ≡ r
only_at x r zero lt e = e
only_at x r (suc i) lt e = absurd (omega (arith, lt))

route_at : (operation : OperationData) (k : ℕ) (r : RouteData) (http : Option HttpData) → operation.http ≡ http
    → Contains (routes_at k operation http) r → IsRouteAt operation k r
route_at operation k r None e there = absurd (omega (arith, there.1))
route_at operation k r (Some h) e there =
    let same : route_of k operation.name h ≡ r = only_at (route_of k operation.name h) r there.0 there.1 there.2 in
    record {
      number = sym (ap (λ x. x.operation) same);
      name = sym (ap (λ x. x.name) same);
      rule = h;
      has = e;
      is = sym same;
    }

route_from : (k : ℕ) (operations : List OperationData) (r : RouteData) → Contains (routes_from k operations) r
    → (i : ℕ) × (i < length operations) × IsRouteAt (get_or operations i no_operation) (k + i) r
route_from k [] r there = absurd (omega (arith, there.1))
route_from k (operation ∷ operations) r there =
    elim (Contains-append_cases (routes_at k operation operation.http) (routes_from (suc k) operations) r there) [
      | inl first ↦
          let here : k ≡ k + 0 = omega arith in
          (0, omega arith, subst (λ n. IsRouteAt operation n r) here (route_at operation k r operation.http refl first))
      | inr later ↦
          let next = route_from (suc k) operations r later in
          let many = next.1 in
          let place : suc k + next.0 ≡ k + suc next.0 = omega arith in
          (suc next.0, omega (arith, many), subst (λ n. IsRouteAt (get_or operations next.0 no_operation) n r) place next.2)
    ]

-- of a service
pub record IsRouteIn (s : ServiceData) (o : ℕ) (r : RouteData) : Type 0 where
  pub within : o < length s.operations
  pub at : IsRouteAt (operation_at s o) o r

route_in : (s : ServiceData) (o : ℕ) (r : RouteData) → Contains (routes_of s) r → r.operation ≡ o → IsRouteIn s o r
route_in s o r there number =
    let found = route_from 0 s.operations r there in
    let own = found.2.number in
    let same : found.0 ≡ o = omega (arith, own, number) in
    let place : 0 + found.0 ≡ o = omega (arith, same) in
    subst (λ n. IsRouteIn s n r) same
    (record {
      within = found.1;
      at = subst (λ n. IsRouteAt (get_or s.operations found.0 no_operation) n r) (place ∙ sym same) found.2;
    })

-- the operation to which it goes is one for which its head is
pub asked_for : (s : ServiceData) (head : Head) (o : ℕ) → GoesTo s head o → IsForOperation s o head
asked_for s head o to =
    let own = route_in s o to.first.route to.first.there to.first.number in
    record {
      method = to.method;
      target = to.target;
      start = to.start;
      rule = own.at.rule;
      has_rule = own.at.has;
      matches = subst (λ r. route_matches to.method to.target r ≡ true) own.at.is to.first.matches;
    }

no_rule : (rule : HttpData) → no_operation.http ≡ Some rule → ⊥
no_rule rule e = absurd cc

-- which is one of the service
pub for_within : (s : ServiceData) (head : Head) (o : ℕ) → IsForOperation s o head → o < length s.operations
for_within s head o is = elim (cases_lt o (length s.operations)) [
  | inl lt ↦ lt
  | inr past ↦ absurd (no_rule is.rule (sym (ap (λ x. x.http) (get_or_past s.operations o no_operation past)) ∙ is.has_rule))
]

same_method : (m n a b : List ℕ) → Path Start (Request m a) (Request n b) → m ≡ n
same_method m n a b e = cc

same_target : (m n a b : List ℕ) → Path Start (Request m a) (Request n b) → a ≡ b
same_target m n a b e = cc

no_start : (m a : List ℕ) (status : ℕ) → Path Start (Response status) (Request m a) → ⊥
no_start m a status e = absurd cc

-- routes that match, of which neither goes before the other, have one name
last_equal : (o p : Ordering) → ordering_then o p ≡ Equal → p ≡ Equal
last_equal Less p e = absurd cc
last_equal Equal p e = e
last_equal Greater p e = absurd cc

equal_texts : (x y : List ℕ) → text_cmp x y ≡ Equal → x ≡ y
equal_texts x y h = (bytes_eq-Decides x y).0 (sym (is_eq-slice_cmp x y) ∙ ap is_eq h)

-- the order of routes, read from its other end
reverse_then : (o p : Ordering) → ordering_then (ordering_reverse o) (ordering_reverse p) ≡ ordering_reverse (ordering_then o p)
reverse_then Less p = refl
reverse_then Equal p = refl
reverse_then Greater p = refl

then_back : (o p x y : Ordering) → o ≡ ordering_reverse x → p ≡ ordering_reverse y
    → ordering_then o p ≡ ordering_reverse (ordering_then x y)
then_back o p x y e f = ap (λ q. ordering_then q p) e ∙ ap (ordering_then (ordering_reverse x)) f ∙ reverse_then x y

ranks_back : (ss ts : List Segment) → ranks_cmp ss ts ≡ ordering_reverse (ranks_cmp ts ss)
ranks_back [] [] = refl
ranks_back [] (t ∷ ts) = refl
ranks_back (s ∷ ss) [] = refl
ranks_back (s ∷ ss) (t ∷ ts) =
    then_back (nat_cmp (segment_rank s) (segment_rank t)) (ranks_cmp ss ts) (nat_cmp (segment_rank t) (segment_rank s)) (ranks_cmp ts ss)
    (nat_cmp_total.antisymm (segment_rank s) (segment_rank t)) (ranks_back ss ts)

abbrev literals_cmp : RouteData → RouteData → Ordering
literals_cmp r s = ordering_then (nat_cmp (length s.uri.literals) (length r.uri.literals)) (text_cmp r.name s.name)

abbrev lengths_cmp : RouteData → RouteData → Ordering
lengths_cmp r s = ordering_then (nat_cmp (length s.uri.segments) (length r.uri.segments)) (literals_cmp r s)

literals_back : (r s : RouteData) → literals_cmp r s ≡ ordering_reverse (literals_cmp s r)
literals_back r s =
    let ones = length r.uri.literals in
    let others = length s.uri.literals in
    then_back (nat_cmp others ones) (text_cmp r.name s.name) (nat_cmp ones others) (text_cmp s.name r.name) (nat_cmp_total.antisymm others ones)
    (nat_list_cmp_total.antisymm r.name s.name)

lengths_back : (r s : RouteData) → lengths_cmp r s ≡ ordering_reverse (lengths_cmp s r)
lengths_back r s =
    let ones = length r.uri.segments in
    let others = length s.uri.segments in
    then_back (nat_cmp others ones) (literals_cmp r s) (nat_cmp ones others) (literals_cmp s r) (nat_cmp_total.antisymm others ones)
    (literals_back r s)

route_back : (r s : RouteData) → route_cmp r s ≡ ordering_reverse (route_cmp s r)
route_back r s =
    then_back (ranks_cmp r.uri.segments s.uri.segments) (lengths_cmp r s) (ranks_cmp s.uri.segments r.uri.segments) (lengths_cmp s r)
    (ranks_back r.uri.segments s.uri.segments) (lengths_back r s)

names_tie : (r t : RouteData) → (route_cmp r t ≡ Less → ⊥) → (route_cmp t r ≡ Less → ⊥) → r.name ≡ t.name
names_tie r t one other = by (route_cmp r t) refl
  where
    by : (o : Ordering) → route_cmp r t ≡ o → r.name ≡ t.name
    by Less e = absurd (one e)
    by Equal e =
        let names = text_cmp r.name t.name in
        let literals = nat_cmp (length t.uri.literals) (length r.uri.literals) in
        let segments = nat_cmp (length t.uri.segments) (length r.uri.segments) in
        equal_texts r.name t.name (last_equal literals names (last_equal segments (ordering_then literals names)
        (last_equal (ranks_cmp r.uri.segments t.uri.segments) (ordering_then segments (ordering_then literals names)) e)))
    by Greater e = absurd (other (route_back t r ∙ ap ordering_reverse e))

-- one operation at most
pub one_asked : (s : ServiceData) (head : Head) (o p : ℕ) → Servable s → GoesTo s head o → GoesTo s head p → o ≡ p
one_asked s head o p servable x y =
    let starts : Path Start (Request x.method x.target) (Request y.method y.target) = sym x.start ∙ y.start in
    let method = same_method x.method y.method x.target y.target starts in
    let target = same_target x.method y.method x.target y.target starts in
    let one = route_in s o x.first.route x.first.there x.first.number in
    let other = route_in s p y.first.route y.first.there y.first.number in
    let other_matches : route_matches x.method x.target y.first.route ≡ true =
    subst (λ a. route_matches x.method a y.first.route ≡ true) (sym target)
    (subst (λ m. route_matches m y.target y.first.route ≡ true) (sym method) y.first.matches)
    in
    let one_matches : route_matches y.method y.target x.first.route ≡ true =
    subst (λ a. route_matches y.method a x.first.route ≡ true) target
    (subst (λ m. route_matches m x.target x.first.route ≡ true) method x.first.matches)
    in
    let names = names_tie x.first.route y.first.route (y.first.first x.first.route x.first.there one_matches)
    (x.first.first y.first.route y.first.there other_matches) in
    one_number (λ k. k.name) s.operations no_operation o p servable.order one.within other.within
    (sym one.at.name ∙ names ∙ other.at.name)

-- what is found among the same routes in another order
first_of_same : (rs ss : List RouteData) (method target : List ℕ) (n : ℕ) → IsPermutation rs ss → IsFirstRoute ss method target n
    → IsFirstRoute rs method target n
first_of_same rs ss method target n same is = record {
  route = is.route;
  there = Contains-permutation ss rs is.route (IsPermutation-sym rs ss same) is.there;
  number = is.number;
  matches = is.matches;
  first = λ r there matches. is.first r (Contains-permutation rs ss r same there) matches;
}

pub routed_asked : (s : ServiceData) (head : Head) (method target : List ℕ) (ss : List RouteData) (r : Option ℕ)
    → IsPermutation (routes_of s) ss → Path Start head.start (Request method target) → IsRouted ss method target r → IsAskedFor s head r
routed_asked s head method target ss (Some n) same start is = record {
  method = method;
  target = target;
  start = start;
  first = first_of_same (routes_of s) ss method target n same is;
}
routed_asked s head method target ss None same start none = λ o to.
    let starts : Path Start (Request to.method to.target) (Request method target) = sym to.start ∙ start in
    let matches : route_matches method target to.first.route ≡ true =
    subst (λ a. route_matches method a to.first.route ≡ true) (same_target to.method method to.target target starts)
    (subst (λ m. route_matches m to.target to.first.route ≡ true) (same_method to.method method to.target target starts) to.first.matches)
    in
    none to.first.route (Contains-permutation (routes_of s) ss to.first.route same to.first.there) matches

pub none_asked : (s : ServiceData) (head : Head) (status : ℕ) → Path Start head.start (Response status) → IsAskedFor s head None
none_asked s head status start = λ o to. no_start to.method to.target status (sym start ∙ to.start)
