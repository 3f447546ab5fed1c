-- Each part of a message is one member's: what the rules on bindings say of all members, said of two of them.
use Rattle.std.proofs.Common.{◌≡◌, ◌≤◌, inl, inr, ℕ, Bool, true, false, ◌||◌, cond, List, [], ◌∷◌, filter, length, map, refl, sym, ap, ◌∙◌}
use Rattle.std.proofs.Common.{subst, arith}
use Rattle.std.specs.Prelude.{None, Option, Some}
use Rattle.std.specs.List.{Contains, cons_option, filter_map, list_any}
use Rattle.std.specs.Str.{bytes_eq, str_to_ascii_lowercase}
use Rattle.std.proofs.lemmas.Bool.{false_from_ne_true}
use Rattle.std.proofs.lemmas.List.Elements.{Contains-append_right}
use Rattle.std.proofs.lemmas.List.Sums.{length-filter}
use Rattle.std.proofs.lemmas.Slice.Eq.{bytes_eq-Decides}
use Rattle.sm_rules.specs.Bindings.{BindingTrait, BoundSide, a_payload, a_response_code, an_error, an_input, an_output, bindings_of}
use Rattle.sm_rules.specs.Bindings.{some_prefix_headers, some_query_params}
use Rattle.sm_shapes.specs.Fitting.{Test}
use Rattle.sm_shapes.specs.Names.{AllDiffer, NoneIs}
use Rattle.sm_shapes.specs.TableData.{BindingData, binding_at, header, payload, prefix_headers, query, query_params}
use Rattle.sm_shapes.specs.TableData.{response_code}
use Rattle.sm_shapes.proofs.NamedMembers.{IsAmong}
use Rattle.sm_bind_read.specs.service.HttpServable.{IsBoundOnce}
use Rattle.sm_bind_read.specs.service.WireMembers.{WireMember, counted_binding, header_of, is_bound_by, query_of, wire_member_at, wire_members}
use Rattle.sm_bind_read.specs.bind.Roles.{Bound, binding_on, bound_members, has_document, header_names, is_among, is_in_document, query_names}
use Rattle.sm_bind_read.proofs.bind.Counted.{kept_is, kept_on}
use Rattle.sm_bind_laws.specs.BoundRight.{IsBoundRight}

-- a binding that counts is the member's own
itself_by : (z : Bool) (o : Option BindingData) (x : BindingData) → cond z o None ≡ Some x → o ≡ Some x
itself_by true o x h = h
itself_by false o x h = absurd cc

pub own_binding : (side : BoundSide) (o : Option BindingData) (x : BindingData) → counted_binding side o ≡ Some x → o ≡ Some x
own_binding side o x h = itself_by (list_any (is_bound_by o) (bindings_of side)) o x h

-- a query counts on inputs alone
query_on : (side : BoundSide) (name : List ℕ) → kept_on side (Some (query name)) ≡ Some (query name) → side ≡ an_input
query_on an_input name h = refl
query_on an_output name h = absurd cc
query_on an_error name h = absurd cc

query_side : (side : BoundSide) (o : Option BindingData) (name : List ℕ) → counted_binding side o ≡ Some (query name) → side ≡ an_input
query_side side o name h =
    let own = own_binding side o (query name) h in
    query_on side name (subst (λ x. kept_on side x ≡ Some (query name)) own (sym (kept_is side o) ∙ h))

-- members of a list, and what holds of none
pub there_of : {X : Type 0} (f : ℕ → X) (k : ℕ) (ks : List ℕ) → IsAmong k ks → Contains (map f ks) (f k)
there_of f k [] i = absurd i
there_of f k (j ∷ js) (inl e) = (0, omega arith, ap f (sym e))
there_of f k (j ∷ js) (inr i) = Contains-append_right (f j ∷ []) (map f js) (f k) (there_of f k js i)

pub none_any : (p : ℕ → Bool) (ks : List ℕ) → ((j : ℕ) → IsAmong j ks → p j ≡ true → ⊥) → list_any p ks ≡ false
none_any p [] h = refl
none_any p (k ∷ ks) h =
    ap (λ t. t || list_any p ks) (false_from_ne_true (p k) (λ e. h k (inl refl) e)) ∙ none_any p ks (λ j i. h j (inr i))

-- one at most of those of which something holds
first_counts : (b : Bool) (y : WireMember) (ys : List WireMember) → b ≡ true → 1 ≤ length (cond b (y ∷ ys) ys)
first_counts true y ys e = omega arith
first_counts false y ys e = absurd cc

others_count : (b : Bool) (y : WireMember) (ys : List WireMember) → 1 ≤ length ys → 1 ≤ length (cond b (y ∷ ys) ys)
others_count true y ys h = omega arith
others_count false y ys h = h

not_two : (b : Bool) (y : WireMember) (ys : List WireMember) → b ≡ true → 1 ≤ length ys → length (cond b (y ∷ ys) ys) ≤ 1 → ⊥
not_two true y ys e h few = omega (arith, h, few)
not_two false y ys e h few = cc

rest_few : (b : Bool) (y : WireMember) (ys : List WireMember) → length (cond b (y ∷ ys) ys) ≤ 1 → length ys ≤ 1
rest_few true y ys few = omega (arith, few)
rest_few false y ys few = few

module _ (f : ℕ → WireMember) (q : WireMember → Bool) where
  some_left : (k : ℕ) (ks : List ℕ) → IsAmong k ks → q (f k) ≡ true → 1 ≤ length (filter q (map f ks))
  some_left k [] i e = absurd i
  some_left k (j ∷ js) (inl same) e =
      first_counts (q (f j)) (f j) (filter q (map f js)) (subst (λ n. q (f n) ≡ true) same e)
  some_left k (j ∷ js) (inr i) e = others_count (q (f j)) (f j) (filter q (map f js)) (some_left k js i e)

  one_left : (j k : ℕ) (ks : List ℕ) → IsAmong j ks → IsAmong k ks → q (f j) ≡ true → q (f k) ≡ true → length (filter q (map f ks)) ≤ 1
      → j ≡ k
  one_left j k [] i l e g few = absurd i
  one_left j k (x ∷ xs) (inl same) (inl also) e g few = same ∙ sym also
  one_left j k (x ∷ xs) (inl same) (inr l) e g few =
      absurd (not_two (q (f x)) (f x) (filter q (map f xs)) (subst (λ n. q (f n) ≡ true) same e) (some_left k xs l g) few)
  one_left j k (x ∷ xs) (inr i) (inl also) e g few =
      absurd (not_two (q (f x)) (f x) (filter q (map f xs)) (subst (λ n. q (f n) ≡ true) also g) (some_left j xs i e) few)
  one_left j k (x ∷ xs) (inr i) (inr l) e g few = one_left j k xs i l e g (rest_few (q (f x)) (f x) (filter q (map f xs)) few)

-- names that members have differ, by a word of them
two_names : (m n : List ℕ) → Some m ≡ Some n → m ≡ n
two_names m n e = cc

module _ (f : ℕ → Option (List ℕ)) (g : List ℕ → List ℕ) where
  none_by : (o : Option (List ℕ)) (n w : List ℕ) (rest : List (List ℕ)) → NoneIs w (map g (cons_option o rest)) → o ≡ Some n → g n ≡ w → ⊥
  none_by None n w rest h e same = absurd cc
  none_by (Some m) n w rest h e same = h.0 (ap g (two_names m n e) ∙ same)

  none_later : (o : Option (List ℕ)) (w : List ℕ) (rest : List (List ℕ)) → NoneIs w (map g (cons_option o rest)) → NoneIs w (map g rest)
  none_later None w rest h = h
  none_later (Some m) w rest h = h.1

  none_there : (k : ℕ) (ks : List ℕ) (n w : List ℕ) → NoneIs w (map g (filter_map f ks)) → IsAmong k ks → f k ≡ Some n → g n ≡ w → ⊥
  none_there k [] n w h i e same = i
  none_there k (j ∷ js) n w h (inl here) e same =
      none_by (f j) n w (filter_map f js) h (subst (λ x. f x ≡ Some n) here e) same
  none_there k (j ∷ js) n w h (inr i) e same = none_there k js n w (none_later (f j) w (filter_map f js) h) i e same

  first_none : (o : Option (List ℕ)) (m : List ℕ) (rest : List (List ℕ)) → AllDiffer (map g (cons_option o rest)) → o ≡ Some m
      → NoneIs (g m) (map g rest)
  first_none None m rest h e = absurd cc
  first_none (Some l) m rest h e = subst (λ u. NoneIs (g u) (map g rest)) (two_names l m e) h.0

  differ_later : (o : Option (List ℕ)) (rest : List (List ℕ)) → AllDiffer (map g (cons_option o rest)) → AllDiffer (map g rest)
  differ_later None rest h = h
  differ_later (Some m) rest h = h.1

  one_named : (j k : ℕ) (ks : List ℕ) (m n : List ℕ) → AllDiffer (map g (filter_map f ks)) → IsAmong j ks → IsAmong k ks → f j ≡ Some m
      → f k ≡ Some n → g m ≡ g n → j ≡ k
  one_named j k [] m n h i l e d same = absurd i
  one_named j k (x ∷ xs) m n h (inl here) (inl also) e d same = here ∙ sym also
  one_named j k (x ∷ xs) m n h (inl here) (inr l) e d same =
      absurd (none_there k xs n (g m) (first_none (f x) m (filter_map f xs) h (subst (λ y. f y ≡ Some m) here e)) l d (sym same))
  one_named j k (x ∷ xs) m n h (inr i) (inl also) e d same =
      absurd (none_there j xs m (g n) (first_none (f x) n (filter_map f xs) h (subst (λ y. f y ≡ Some n) also d)) i e same)
  one_named j k (x ∷ xs) m n h (inr i) (inr l) e d same = one_named j k xs m n (differ_later (f x) (filter_map f xs) h) i l e d same

  -- and a name that one has is among them
  among_by : (o : Option (List ℕ)) (n : List ℕ) (rest : List (List ℕ)) → o ≡ Some n
      → is_among (map g (cons_option o rest)) (g n) ≡ true
  among_by None n rest e = absurd cc
  among_by (Some m) n rest e =
      ap (λ t. t || is_among (map g rest) (g n)) ((bytes_eq-Decides (g n) (g m)).1 (ap g (sym (two_names m n e))))

  among_later : (o : Option (List ℕ)) (w : List ℕ) (rest : List (List ℕ)) → is_among (map g rest) w ≡ true
      → is_among (map g (cons_option o rest)) w ≡ true
  among_later None w rest h = h
  among_later (Some m) w rest h = either (bytes_eq w (g m)) h
    where
      either : (a : Bool) → is_among (map g rest) w ≡ true → (a || is_among (map g rest) w) ≡ true
      either true e = refl
      either false e = e

  name_among : (k : ℕ) (ks : List ℕ) (n : List ℕ) → IsAmong k ks → f k ≡ Some n → is_among (map g (filter_map f ks)) (g n) ≡ true
  name_among k [] n i e = absurd i
  name_among k (j ∷ js) n (inl here) e = among_by (f j) n (filter_map f js) (subst (λ x. f x ≡ Some n) here e)
  name_among k (j ∷ js) n (inr i) e = among_later (f j) (g n) (filter_map f js) (name_among k js n i e)

map_first : (h : WireMember → Option (List ℕ)) (f : ℕ → WireMember) (ks : List ℕ) → filter_map h (map f ks) ≡ filter_map (λ k. h (f k)) ks
map_first h f [] = refl
map_first h f (k ∷ ks) = ap (cons_option (h (f k))) (map_first h f ks)

same_each : (us : List (List ℕ)) → map (λ u. u) us ≡ us
same_each [] = refl
same_each (u ∷ us) = ap (λ vs. u ∷ vs) (same_each us)

-- the parts of a structure
module _ (b : Bound) (test : Test) (labels : List (List ℕ)) (right : IsBoundRight b test labels) where
  abbrev members : List ℕ
  members = bound_members b

  own : (k : ℕ) (x : BindingData) → binding_on b k ≡ Some x → binding_at b.table k ≡ Some x
  own k x h = own_binding b.side (binding_at b.table k) x h

  pub one_header : (j k : ℕ) (m n : List ℕ) → IsAmong j members → IsAmong k members → binding_on b j ≡ Some (header m)
      → binding_on b k ≡ Some (header n) → str_to_ascii_lowercase m ≡ str_to_ascii_lowercase n → j ≡ k
  one_header j k m n i l e d same =
      one_named (λ x. header_of (binding_at b.table x)) str_to_ascii_lowercase j k members m n
      (subst (λ us. AllDiffer (map str_to_ascii_lowercase us)) (map_first (λ w. header_of w.binding) (wire_member_at b.table) members)
      right.parts.headers)
      i l (ap header_of (own j (header m) e)) (ap header_of (own k (header n) d)) same

  pub one_query : (j k : ℕ) (m n : List ℕ) → IsAmong j members → IsAmong k members → binding_on b j ≡ Some (query m)
      → binding_on b k ≡ Some (query n) → m ≡ n → j ≡ k
  one_query j k m n i l e d same =
      let input = query_side b.side (binding_at b.table j) m e in
      one_named (λ x. query_of (binding_at b.table x)) (λ u. u) j k members m n
      (subst (λ us. AllDiffer us)
      (map_first (λ w. query_of w.binding) (wire_member_at b.table) members
      ∙ sym (same_each (filter_map (λ x. query_of (binding_at b.table x)) members)))
      (right.queries input).differ)
      i l (ap query_of (own j (query m) e)) (ap query_of (own k (query n) d)) same

  one_bound : (wanted : BindingTrait) (x y : BindingData) (j k : ℕ) → IsBoundOnce wanted (wire_members b.table b.shape)
      → is_bound_by (Some x) wanted ≡ true → is_bound_by (Some y) wanted ≡ true → IsAmong j members → IsAmong k members
      → binding_on b j ≡ Some x → binding_on b k ≡ Some y → j ≡ k
  one_bound wanted x y j k once is also i l e d =
      let p : WireMember → Bool = λ w. is_bound_by w.binding wanted in
      one_left (wire_member_at b.table) p j k members i l
      (ap (λ o. is_bound_by o wanted) (own j x e) ∙ is) (ap (λ o. is_bound_by o wanted) (own k y d) ∙ also)
      (subst (λ n. n ≤ 1) (sym (length-filter p (wire_members b.table b.shape))) once)

  pub one_params : (j k : ℕ) → IsAmong j members → IsAmong k members → binding_on b j ≡ Some query_params
      → binding_on b k ≡ Some query_params → j ≡ k
  one_params j k i l e d = one_bound some_query_params query_params query_params j k right.parts.one_params refl refl i l e d

  pub one_prefix : (j k : ℕ) (m n : List ℕ) → IsAmong j members → IsAmong k members → binding_on b j ≡ Some (prefix_headers m)
      → binding_on b k ≡ Some (prefix_headers n) → j ≡ k
  one_prefix j k m n i l e d =
      one_bound some_prefix_headers (prefix_headers m) (prefix_headers n) j k right.parts.one_prefix refl refl i l e d

  pub one_payload : (j k : ℕ) → IsAmong j members → IsAmong k members → binding_on b j ≡ Some payload → binding_on b k ≡ Some payload
      → j ≡ k
  one_payload j k i l e d = one_bound a_payload payload payload j k right.parts.one_payload refl refl i l e d

  pub one_code : (j k : ℕ) → IsAmong j members → IsAmong k members → binding_on b j ≡ Some response_code
      → binding_on b k ≡ Some response_code → j ≡ k
  one_code j k i l e d = one_bound a_response_code response_code response_code j k right.parts.one_code refl refl i l e d

  -- a payload has the body for itself
  pub payload_alone : (k : ℕ) → IsAmong k members → binding_on b k ≡ Some payload → has_document b ≡ false
  payload_alone k i e =
      none_any (is_in_document b) members (λ j l there.
      right.parts.alone (wire_member_at b.table k) (wire_member_at b.table j) (there_of (wire_member_at b.table) k members i)
      (there_of (wire_member_at b.table) j members l) (ap (λ o. is_bound_by o a_payload) (own k payload e)) there)

  -- the names of queries and headers are taken
  pub query_taken : (k : ℕ) (name : List ℕ) → IsAmong k members → binding_on b k ≡ Some (query name)
      → is_among (query_names b) name ≡ true
  query_taken k name i e =
      subst (λ us. is_among us name ≡ true) (same_each (query_names b))
      (name_among (λ x. query_of (binding_on b x)) (λ u. u) k members name i (ap query_of e))

  pub header_taken : (k : ℕ) (name : List ℕ) → IsAmong k members → binding_on b k ≡ Some (header name)
      → is_among (header_names b) (str_to_ascii_lowercase name) ≡ true
  header_taken k name i e =
      name_among (λ x. header_of (binding_on b x)) str_to_ascii_lowercase k members name i (ap header_of e)
