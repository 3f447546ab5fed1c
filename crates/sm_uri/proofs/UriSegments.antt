-- Segments, each cut from what is behind it in one way.
use Rattle.std.proofs.Common.{◌≡◌, ℕ, ◌⊎◌, inl, inr, Bool, true, false, List, [], ◌∷◌, ◌++◌, append_assoc, append-nil, refl, sym, ap, subst}
use Rattle.std.proofs.Common.{◌∙◌, arith}
use Rattle.std.specs.List.{list_all}
use Rattle.std.proofs.lemmas.List.Folds.{list_all-append}
use Rattle.sm_ids.specs.Identifier.{is_identifier, is_identifier_byte, IsIdentifier}
use Rattle.sm_ids.specs.steps.Ahead.{EndsRun}
use Rattle.sm_ids.proofs.Cutting.{both, and_also, list_all_weaker, heads, tails, one_cut}
use Rattle.sm_ids.proofs.Identifiers.{made_of_bytes}
use Rattle.sm_uri.specs.UriPattern.{QueryLiteral, is_literal_byte, is_text_of, is_segment, body_text, query_text, IsUri}
use Rattle.sm_uri.specs.steps.UriReading.{is_inner_byte, ends_segment, tail_text, SegmentAhead, AfterSlash, QueryAhead, closing_text}
use Rattle.sm_uri.specs.steps.UriReading.{labelled}
use Rattle.sm_uri.proofs.UriBytes.{literal_inner, name_inner, ends_inner}
use Rattle.sm_uri.specs.declared.pattern.Segment.{Segment}
use Rattle.sm_uri.specs.declared.pattern.Segment.TheVariants.{Literal, Label, Greedy}

pub all_both : {X : Type 0} (p : X → Bool) (a b : List X) → list_all p a ≡ true → list_all p b ≡ true → list_all p (a ++ b) ≡ true
all_both p a b h k = list_all-append p a b ∙ and_also (list_all p a) (list_all p b) h k

pub text_passes : (p : ℕ → Bool) (t : List ℕ) → is_text_of p t ≡ true → list_all p t ≡ true
text_passes p [] h = cc
text_passes p (c ∷ t) h = h

-- the first byte of a text of a class
pub text_first : (p : ℕ → Bool) (t x more : List ℕ) (c : ℕ) → is_text_of p t ≡ true → t ++ x ≡ c ∷ more → p c ≡ true
text_first p [] x more c h e = cc
text_first p (d ∷ t) x more c h e = subst (λ y. p y ≡ true) (heads d c (t ++ x) more e) (both (p d) (list_all p t) h).0

-- a label's text is its name in braces
pub label_body : (greedy : Bool) (name : List ℕ) → body_text (labelled greedy name) ≡ 123 ∷ (name ++ closing_text greedy)
label_body true name = refl
label_body false name = refl

pub label_is_segment : (greedy : Bool) (name : List ℕ) → IsIdentifier name → is_segment (labelled greedy name) ≡ true
label_is_segment true name h = h
label_is_segment false name h = h

inner_name : (name tail : List ℕ) → is_identifier name ≡ true → list_all is_inner_byte tail ≡ true
    → list_all is_inner_byte (name ++ tail) ≡ true
inner_name name tail h k = all_both is_inner_byte name tail (list_all_weaker is_identifier_byte is_inner_byte name_inner name
    (made_of_bytes name h)) k

inner_body : (s : Segment) → is_segment s ≡ true → list_all is_inner_byte (body_text s) ≡ true
inner_body (Literal t) h = list_all_weaker is_literal_byte is_inner_byte literal_inner t (text_passes is_literal_byte t h)
inner_body (Label name) h = inner_name name (125 ∷ []) h refl
inner_body (Greedy name) h = inner_name name (43 ∷ 125 ∷ []) h refl

-- what a body begins with
pub body_first : (s : Segment) (x more : List ℕ) (c : ℕ) → is_segment s ≡ true → body_text s ++ x ≡ c ∷ more
    → (is_literal_byte c ≡ true) ⊎ (c ≡ 123)
body_first (Literal t) x more c h e = inl (text_first is_literal_byte t x more c h e)
body_first (Label name) x more c h e = inr (sym (heads 123 c ((name ++ 125 ∷ []) ++ x) more e))
body_first (Greedy name) x more c h e = inr (sym (heads 123 c ((name ++ 43 ∷ 125 ∷ []) ++ x) more e))

pub body_some : (s : Segment) (x : List ℕ) → is_segment s ≡ true → body_text s ++ x ≡ [] → ⊥
body_some (Literal []) x h e = cc
body_some (Literal (c ∷ t)) x h e = cc
body_some (Label name) x h e = cc
body_some (Greedy name) x h e = cc

-- a name in a label's text, cut from what closes the label
pub one_name : (name other x y : List ℕ) → IsIdentifier name → IsIdentifier other → EndsRun is_identifier_byte x
    → EndsRun is_identifier_byte y
    → name ++ x ≡ other ++ y → (name ≡ other) × (x ≡ y)
one_name name other x y h k ox oy e = one_cut is_identifier_byte name other x y (made_of_bytes name h) (made_of_bytes other k) ox oy e

no_brace : (t rest : List ℕ) → is_text_of is_literal_byte t ≡ true → t ≡ 123 ∷ rest → ⊥
no_brace t rest h e = let k : false ≡ true = text_first is_literal_byte t [] rest 123 h (append-nil t ∙ e) in cc

one_body : (s o : Segment) → is_segment s ≡ true → is_segment o ≡ true → body_text s ≡ body_text o → s ≡ o
one_body (Literal t) (Literal u) h k e = ap Literal e
one_body (Literal t) (Label n) h k e = absurd (no_brace t (n ++ 125 ∷ []) h e)
one_body (Literal t) (Greedy n) h k e = absurd (no_brace t (n ++ 43 ∷ 125 ∷ []) h e)
one_body (Label n) (Literal u) h k e = absurd (no_brace u (n ++ 125 ∷ []) k (sym e))
one_body (Label n) (Label m) h k e = ap Label (one_name n m (125 ∷ []) (125 ∷ []) h k refl refl
    (tails 123 123 (n ++ 125 ∷ []) (m ++ 125 ∷ []) e)).0
one_body (Label n) (Greedy m) h k e =
    let c = (one_name n m (125 ∷ []) (43 ∷ 125 ∷ []) h k refl refl (tails 123 123 (n ++ 125 ∷ []) (m ++ 43 ∷ 125 ∷ []) e)).1 in
    absurd (let f : 125 ≡ 43 = heads 125 43 [] (125 ∷ []) c in omega (arith, f))
one_body (Greedy n) (Literal u) h k e = absurd (no_brace u (n ++ 43 ∷ 125 ∷ []) k (sym e))
one_body (Greedy n) (Label m) h k e =
    let c = (one_name n m (43 ∷ 125 ∷ []) (125 ∷ []) h k refl refl (tails 123 123 (n ++ 43 ∷ 125 ∷ []) (m ++ 125 ∷ []) e)).1 in
    absurd (let f : 43 ≡ 125 = heads 43 125 (125 ∷ []) [] c in omega (arith, f))
one_body (Greedy n) (Greedy m) h k e =
    ap Greedy (one_name n m (43 ∷ 125 ∷ []) (43 ∷ 125 ∷ []) h k refl refl (tails 123 123 (n ++ 43 ∷ 125 ∷ []) (m ++ 43 ∷ 125 ∷ []) e)).0

-- a segment and what is behind it: one cut
pub one_segment : (s o : Segment) (x y : List ℕ) → is_segment s ≡ true → is_segment o ≡ true → ends_segment x ≡ true → ends_segment y ≡ true
    → body_text s ++ x ≡ body_text o ++ y → (s ≡ o) × (x ≡ y)
one_segment s o x y h k ex ey e =
    let c = one_cut is_inner_byte (body_text s) (body_text o) x y (inner_body s h) (inner_body o k) (ends_inner x ex) (ends_inner y ey) e in
    (one_body s o h k c.0, c.1)

pub tail_ends : (segments : List Segment) (literals : List QueryLiteral) → ends_segment (tail_text segments literals) ≡ true
tail_ends [] [] = refl
tail_ends [] (l ∷ ls) = refl
tail_ends (s ∷ ss) ls = refl

pub middle_is : (before : List Segment) (s : Segment) (more : List Segment) → list_all is_segment (before ++ s ∷ more) ≡ true
    → is_segment s ≡ true
middle_is before s more h =
    (both (is_segment s) (list_all is_segment more)
    (both (list_all is_segment before) (list_all is_segment (s ∷ more)) (sym (list_all-append is_segment before (s ∷ more)) ∙ h)).1).0

-- behind all of these segments
pub record TailAhead (segments : List Segment) (rest : List ℕ) : Type 0 where
  pub more : List Segment
  pub literals : List QueryLiteral
  pub spelled : rest ≡ tail_text more literals
  pub is_uri : IsUri (record { segments = segments ++ more; literals = literals })

-- a body begins no query
pub no_root : (s : Segment) (x : List ℕ) (literals : List QueryLiteral) → is_segment s ≡ true → body_text s ++ x ≡ query_text literals → ⊥
no_root s x [] h e = body_some s x h e
no_root s x (l ∷ ls) h e = elim (body_first s x _ 63 h e) [
  | inl k ↦ let f : false ≡ true = k in cc
  | inr k ↦ let f : 63 ≡ 123 = k in omega (arith, f)
]

pub behind_segment : (before : List Segment) (s : Segment) (x : List ℕ) → is_segment s ≡ true → ends_segment x ≡ true
    → AfterSlash before (body_text s ++ x) → TailAhead (before ++ s ∷ []) x
behind_segment before s x h ends (inl a) =
    let is = middle_is before a.segment a.more a.is_uri.segments in
    let c = one_segment s a.segment x (tail_text a.more a.literals) h is ends (tail_ends a.more a.literals) a.spelled in
    record {
      more = a.more;
      literals = a.literals;
      spelled = c.1;
      is_uri = subst (λ ss. IsUri (record { segments = ss; literals = a.literals }))
          (ap (λ o. before ++ o ∷ a.more) (sym c.0) ∙ sym (append_assoc before (s ∷ []) a.more)) a.is_uri;
    }
behind_segment before s x h ends (inr r) = absurd (no_root s x r.literals h r.spelled)

pub tail_slash : (segments : List Segment) (x : List ℕ) → TailAhead segments (47 ∷ x) → SegmentAhead segments x
tail_slash segments x t = by_more t.more t.literals t.spelled t.is_uri
  where
    by_more : (more : List Segment) (literals : List QueryLiteral) → 47 ∷ x ≡ tail_text more literals
        → IsUri (record { segments = segments ++ more; literals = literals }) → SegmentAhead segments x
    by_more [] [] e u = cc
    by_more [] (l ∷ ls) e u = absurd (let f : 47 ≡ 63 = heads 47 63 x _ e in omega (arith, f))
    by_more (s ∷ ss) ls e u = record {
      segment = s;
      more = ss;
      literals = ls;
      spelled = tails 47 47 x _ e ∙ append_assoc (body_text s) _ (query_text ls);
      is_uri = u;
    }

pub tail_question : (segments : List Segment) (x : List ℕ) → TailAhead segments (63 ∷ x) → QueryAhead x
tail_question segments x t = by_more t.more t.literals t.spelled t.is_uri
  where
    by_more : (more : List Segment) (literals : List QueryLiteral) → 63 ∷ x ≡ tail_text more literals
        → IsUri (record { segments = segments ++ more; literals = literals }) → QueryAhead x
    by_more [] ls e u = (ls, record { spelled = e; are = u.literals })
    by_more (s ∷ ss) ls e u = absurd (let f : 63 ≡ 47 = heads 63 47 x _ e in omega (arith, f))

pub root_question : (x : List ℕ) → AfterSlash [] (63 ∷ x) → QueryAhead x
root_question x (inl a) = absurd (elim (body_first a.segment (tail_text a.more a.literals) x 63
    (middle_is [] a.segment a.more a.is_uri.segments) (sym a.spelled)) [
      | inl k ↦ let f : false ≡ true = k in cc
      | inr k ↦ let f : 63 ≡ 123 = k in omega (arith, f)
    ])
root_question x (inr r) = (r.literals, record { spelled = r.spelled; are = r.are })
