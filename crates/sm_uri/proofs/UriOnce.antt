-- A text spells one pattern.
use Rattle.std.proofs.Common.{◌≡◌, ℕ, true, List, [], ◌∷◌, ◌++◌, append_assoc, Option, Some, None, refl, sym, ap, ◌∙◌, arith}
use Rattle.std.specs.List.{list_all}
use Rattle.sm_ids.specs.steps.Ahead.{EndsRun}
use Rattle.sm_ids.proofs.Cutting.{both, heads, tails, one_cut}
use Rattle.sm_uri.specs.UriPattern.{QueryLiteral, is_value_byte, is_key_byte, is_text_of, is_segment, is_value, is_query_literal, body_text}
use Rattle.sm_uri.specs.UriPattern.{path_text, value_text, literal_text, more_text, query_text, OneUri}
use Rattle.sm_uri.specs.steps.UriReading.{tail_text}
use Rattle.sm_uri.proofs.UriSegments.{text_passes, no_root, one_segment, tail_ends}
use Rattle.sm_uri.proofs.UriQueries.{literal_passes, more_ends}
use Rattle.sm_uri.specs.declared.pattern.Segment.{Segment}

slash_is_no_mark : (a b : ℕ) → a ≡ 47 → b ≡ 63 → a ≡ b → ⊥
slash_is_no_mark a b h k e = let f : 47 ≡ 63 = sym h ∙ e ∙ k in omega (arith, f)

-- segments and what is behind them
same_tail : (ss ts : List Segment) (ls ks : List QueryLiteral) → list_all is_segment ss ≡ true → list_all is_segment ts ≡ true
    → tail_text ss ls ≡ tail_text ts ks → (ss ≡ ts) × (query_text ls ≡ query_text ks)
same_tail [] [] ls ks h k e = (refl, e)
same_tail [] (t ∷ ts) [] ks h k e = cc
same_tail [] (t ∷ ts) (l ∷ ls) ks h k e = absurd (slash_is_no_mark 47 63 refl refl (sym (heads 63 47 _ _ e)))
same_tail (s ∷ ss) [] ls [] h k e = cc
same_tail (s ∷ ss) [] ls (l ∷ ks) h k e = absurd (slash_is_no_mark 47 63 refl refl (heads 47 63 _ _ e))
same_tail (s ∷ ss) (t ∷ ts) ls ks h k e =
    let a = both (is_segment s) (list_all is_segment ss) h in
    let b = both (is_segment t) (list_all is_segment ts) k in
    let one = one_segment s t (tail_text ss ls) (tail_text ts ks) a.0 b.0 (tail_ends ss ls) (tail_ends ts ks)
    (sym (append_assoc (body_text s) _ (query_text ls)) ∙ tails 47 47 _ _ e ∙ append_assoc (body_text t) _ (query_text ks)) in
    let rest = same_tail ss ts ls ks a.1 b.1 one.1 in
    (λ i. one.0 i ∷ rest.0 i, rest.1)

-- a path and the query behind it
pub same_path : (ss ts : List Segment) (ls ks : List QueryLiteral) → list_all is_segment ss ≡ true → list_all is_segment ts ≡ true
    → path_text ss ++ query_text ls ≡ path_text ts ++ query_text ks → (ss ≡ ts) × (query_text ls ≡ query_text ks)
same_path [] [] ls ks h k e = (refl, tails 47 47 (query_text ls) (query_text ks) e)
same_path [] (t ∷ ts) ls ks h k e =
    absurd (no_root t (tail_text ts ks) ls (both (is_segment t) (list_all is_segment ts) k).0
    (sym (append_assoc (body_text t) _ (query_text ks)) ∙ sym (tails 47 47 (query_text ls) _ e)))
same_path (s ∷ ss) [] ls ks h k e =
    absurd (no_root s (tail_text ss ls) ks (both (is_segment s) (list_all is_segment ss) h).0
    (sym (append_assoc (body_text s) _ (query_text ls)) ∙ tails 47 47 _ (query_text ks) e))
same_path (s ∷ ss) (t ∷ ts) ls ks h k e = same_tail (s ∷ ss) (t ∷ ts) ls ks h k e

-- the literals of a query
key_ends : (v : Option (List ℕ)) → EndsRun is_key_byte (value_text v)
key_ends None = tt
key_ends (Some t) = refl

same_value : (v w : Option (List ℕ)) → value_text v ≡ value_text w → v ≡ w
same_value None None e = refl
same_value None (Some t) e = cc
same_value (Some t) None e = cc
same_value (Some t) (Some u) e = ap Some (tails 61 61 t u e)

same_literal : (l m : QueryLiteral) → is_query_literal l ≡ true → is_query_literal m ≡ true → literal_text l ≡ literal_text m → l ≡ m
same_literal l m h k e =
    let a = text_passes is_key_byte l.0 (both (is_text_of is_key_byte l.0) (is_value l.1) h).0 in
    let b = text_passes is_key_byte m.0 (both (is_text_of is_key_byte m.0) (is_value m.1) k).0 in
    let c = one_cut is_key_byte l.0 m.0 (value_text l.1) (value_text m.1) a b (key_ends l.1) (key_ends m.1) e in
    let v = same_value l.1 m.1 c.1 in
    λ i. (c.0 i, v i)

same_more : (ls ks : List QueryLiteral) → list_all is_query_literal ls ≡ true → list_all is_query_literal ks ≡ true
    → more_text ls ≡ more_text ks → ls ≡ ks
same_more [] [] h k e = refl
same_more [] (m ∷ ks) h k e = cc
same_more (l ∷ ls) [] h k e = cc
same_more (l ∷ ls) (m ∷ ks) h k e =
    let a = both (is_query_literal l) (list_all is_query_literal ls) h in
    let b = both (is_query_literal m) (list_all is_query_literal ks) k in
    let c = one_cut is_value_byte (literal_text l) (literal_text m) (more_text ls) (more_text ks) (literal_passes l a.0)
    (literal_passes m b.0)
    (more_ends ls) (more_ends ks) (tails 38 38 (literal_text l ++ more_text ls) (literal_text m ++ more_text ks) e) in
    let first = same_literal l m a.0 b.0 c.0 in
    let rest = same_more ls ks a.1 b.1 c.1 in
    λ i. first i ∷ rest i

pub same_query : (ls ks : List QueryLiteral) → list_all is_query_literal ls ≡ true → list_all is_query_literal ks ≡ true
    → query_text ls ≡ query_text ks → ls ≡ ks
same_query [] [] h k e = refl
same_query [] (m ∷ ks) h k e = cc
same_query (l ∷ ls) [] h k e = cc
same_query (l ∷ ls) (m ∷ ks) h k e = same_more (l ∷ ls) (m ∷ ks) h k
    (ap (λ x. 38 ∷ x) (tails 63 63 (literal_text l ++ more_text ls) (literal_text m ++ more_text ks) e))

pub one_uri : OneUri
one_uri u v text h k =
    let p = same_path u.segments v.segments u.literals v.literals h.is_uri.segments k.is_uri.segments (sym h.spelled ∙ k.spelled) in
    let q = same_query u.literals v.literals h.is_uri.literals k.is_uri.literals p.1 in
    λ i. record { segments = p.0 i; literals = q i }
