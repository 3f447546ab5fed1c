-- The texts of routes: a pattern and a method have one, and one text is of one route.
use Rattle.std.proofs.Common.{◌≡◌, ℕ, Bool, true, false, List, [], ◌∷◌, ◌++◌, Option, Some, None, map, refl, sym, ap, ◌∙◌, subst}
use Rattle.std.specs.Prelude.{◌==◌, ◌||◌, codes, not}
use Rattle.std.specs.List.{flat_map, list_all}
use Rattle.std.proofs.lemmas.Option.{none-some, same_Some}
use Rattle.sm_bytes.specs.Ascii.{equals, number_sign, slash}
use Rattle.sm_ids.specs.steps.Ahead.{EndsRun}
use Rattle.sm_ids.proofs.Cutting.{both, list_all_weaker, one_cut, tails}
use Rattle.sm_model.specs.Graphs.{GraphMaps}
use Rattle.sm_model.proofs.Worklist.{apart}
use Rattle.sm_uri.specs.UriPattern.{IsUri, IsUriText, QueryLiteral, UriSaid, UriText, is_brace, is_key_byte, is_literal_byte}
use Rattle.sm_uri.specs.UriPattern.{is_query_literal, is_segment, is_text_of, is_value, is_value_byte, literal_text, more_text, path_text}
use Rattle.sm_uri.specs.UriPattern.{printed_uri, ampersand, query_text, question_mark, segment_text, value_text}
use Rattle.sm_uri.specs.UriRoutes.{IsSameRoute, one_named, unnamed}
use Rattle.sm_uri.specs.declared.pattern.Segment.{Segment}
use Rattle.sm_uri.specs.declared.pattern.Segment.TheVariants.{Literal, Label, Greedy}
use Rattle.sm_rules.specs.Http.{method_of}
use Rattle.sm_rules.specs.Words.{IsOperation}
use Rattle.sm_uri.proofs.UriOnce.{one_uri}
use Rattle.sm_uri.proofs.UriRouted.{routes_by_texts}
use Rattle.sm_uri.proofs.UriSegments.{all_both, text_passes}
use Rattle.sm_http_traits.specs.Http.{method_seen, uri_seen}
use Rattle.sm_http_traits.proofs.HttpSaid.{said_seen, seen_said}
use Rattle.sm_http_rules.proofs.HttpUris.{field_text}
use Rattle.sm_http_rules.specs.steps.Routes.{IsRouteKey, key_of, method_tail}

abbrev is_free : ℕ → Bool
is_free c = not (c == number_sign)

-- no byte of a pattern is a `#`
third : (a b s d : Bool) → not (a || (b || (s || d))) ≡ true → not s ≡ true
third true b s d h = absurd (apart h)
third false true s d h = absurd (apart h)
third false false true d h = absurd (apart h)
third false false false d h = refl

last : (a b s : Bool) → not (a || (b || s)) ≡ true → not s ≡ true
last true b s h = absurd (apart h)
last false true s h = absurd (apart h)
last false false s h = h

literal_free : (c : ℕ) → is_literal_byte c ≡ true → is_free c ≡ true
literal_free c h = third (is_brace c) (c == question_mark) (c == number_sign) (c == slash) h

value_free : (c : ℕ) → is_value_byte c ≡ true → is_free c ≡ true
value_free c h = last (is_brace c) (c == ampersand) (c == number_sign) h

key_free : (c : ℕ) → is_key_byte c ≡ true → is_free c ≡ true
key_free c h = value_free c (both (is_value_byte c) (not (c == equals)) h).0

segment_is_free : (s : Segment) → is_segment s ≡ true → list_all is_free (segment_text (one_named s)) ≡ true
segment_is_free (Literal t) h = list_all_weaker is_literal_byte is_free literal_free t (text_passes is_literal_byte t h)
segment_is_free (Label n) h = refl
segment_is_free (Greedy n) h = refl

segments_free : (ss : List Segment) → list_all is_segment ss ≡ true → list_all is_free (flat_map segment_text (map one_named ss)) ≡ true
segments_free [] h = refl
segments_free (s ∷ ss) h =
    let a = both (is_segment s) (list_all is_segment ss) h in
    all_both is_free (segment_text (one_named s)) (flat_map segment_text (map one_named ss)) (segment_is_free s a.0) (segments_free ss a.1)

path_free : (ss : List Segment) → list_all is_segment ss ≡ true → list_all is_free (path_text (map one_named ss)) ≡ true
path_free [] h = refl
path_free (s ∷ ss) h = segments_free (s ∷ ss) h

value_is_free : (v : Option (List ℕ)) → is_value v ≡ true → list_all is_free (value_text v) ≡ true
value_is_free None h = refl
value_is_free (Some v) h = list_all_weaker is_value_byte is_free value_free v h

literal_is_free : (l : QueryLiteral) → is_query_literal l ≡ true → list_all is_free (literal_text l) ≡ true
literal_is_free l h =
    let a = both (is_text_of is_key_byte l.0) (is_value l.1) h in
    all_both is_free l.0 (value_text l.1) (list_all_weaker is_key_byte is_free key_free l.0 (text_passes is_key_byte l.0 a.0))
    (value_is_free l.1 a.1)

more_free : (ls : List QueryLiteral) → list_all is_query_literal ls ≡ true → list_all is_free (more_text ls) ≡ true
more_free [] h = refl
more_free (l ∷ ls) h =
    let a = both (is_query_literal l) (list_all is_query_literal ls) h in
    all_both is_free (literal_text l) (more_text ls) (literal_is_free l a.0) (more_free ls a.1)

query_free : (ls : List QueryLiteral) → list_all is_query_literal ls ≡ true → list_all is_free (query_text ls) ≡ true
query_free [] h = refl
query_free (l ∷ ls) h =
    let a = both (is_query_literal l) (list_all is_query_literal ls) h in
    all_both is_free (literal_text l) (more_text ls) (literal_is_free l a.0) (more_free ls a.1)

pattern_free : (u : UriSaid) → IsUri u → list_all is_free (printed_uri (unnamed u)) ≡ true
pattern_free u h =
    all_both is_free (path_text (map one_named u.segments)) (query_text u.literals) (path_free u.segments h.segments)
    (query_free u.literals h.literals)

tail_ends : (m : Option (List ℕ)) → EndsRun is_free (method_tail m)
tail_ends None = tt
tail_ends (Some m) = refl

same_method : (m n : Option (List ℕ)) → method_tail m ≡ method_tail n → m ≡ n
same_method None None e = refl
same_method None (Some n) e = cc
same_method (Some m) None e = cc
same_method (Some m) (Some n) e = ap (λ t. Some t) (tails 35 35 m n e)

-- one text is of one route and one method
pub keys_same : (u v : UriSaid) → IsUri u → IsUri v → (m n : Option (List ℕ)) → key_of u m ≡ key_of v n → IsSameRoute u v × (m ≡ n)
keys_same u v h k m n e =
    let c = one_cut is_free (printed_uri (unnamed u)) (printed_uri (unnamed v)) (method_tail m) (method_tail n) (pattern_free u h)
    (pattern_free v k) (tail_ends m) (tail_ends n) e in
    ((routes_by_texts u v h k).0 c.0, same_method m n c.1)

pub same_keys : (u v : UriSaid) → IsUri u → IsUri v → (m n : Option (List ℕ)) → IsSameRoute u v → m ≡ n → key_of u m ≡ key_of v n
same_keys u v h k m n route methods = let texts = (routes_by_texts u v h k).1 route in λ i. texts i ++ method_tail (methods i)

-- an operation has one
pub one_key : (g : GraphMaps) (id a b : List ℕ) → IsRouteKey g id a → IsRouteKey g id b → a ≡ b
one_key g id a b (u, x, p) (v, y, q) =
    let same : y.t ≡ x.t = same_Some y.t x.t (sym y.said ∙ x.said) in
    let one : u ≡ v = one_uri u v x.t x.spells (subst (UriText v) same y.spells) in
    p ∙ ap (λ w. key_of w (method_of g id)) one ∙ sym q

module _ (g : GraphMaps) (id : List ℕ) where
  method_same : IsOperation g id → method_seen g id ≡ method_of g id
  method_same own = by (method_of g id) refl (method_seen g id) refl
    where
      by : (o : Option (List ℕ)) → method_of g id ≡ o → (p : Option (List ℕ)) → method_seen g id ≡ p → method_seen g id ≡ method_of g id
      by (Some m) is p at = said_seen g id (field_text (codes "method")) refl m own is ∙ sym is
      by None is None at = at ∙ sym is
      by None is (Some m) at = absurd (none-some m (sym is ∙ (seen_said g id (field_text (codes "method")) refl m at).1))

  module _ (t : List ℕ) (seen : Some t ≡ uri_seen g id) where
    pub key_said : (u : UriSaid) → UriText u t → (key : List ℕ) → key ≡ key_of u (method_seen g id) → IsRouteKey g id key
    key_said u spells key made =
        let said = seen_said g id (field_text (codes "uri")) refl t (sym seen) in
        (u, record { is_operation = said.0; t = t; said = said.1; spells = spells }, made ∙ ap (key_of u) (method_same said.0))

    pub no_pattern_key : (IsUriText t → ⊥) → (key : List ℕ) → IsRouteKey g id key → ⊥
    no_pattern_key none key (u, h, is) =
        let same : h.t ≡ t =
        same_Some h.t t (sym (said_seen g id (field_text (codes "uri")) refl h.t h.is_operation h.said) ∙ sym seen) in
        none (u, subst (UriText u) same h.spells)

  pub no_text_key : None ≡ uri_seen g id → (key : List ℕ) → IsRouteKey g id key → ⊥
  no_text_key seen key (u, h, is) = none-some h.t (seen ∙ said_seen g id (field_text (codes "uri")) refl h.t h.is_operation h.said)
