-- Where reading a segment stops: before literal text that is none, within a label, behind either.
use Rattle.std.proofs.Common.{◌≡◌, ℕ, ◌+◌, ◌⊎◌, inl, inr, Bool, true, false, ◌&&◌, ◌||◌, ◌==◌, List, [], ◌∷◌, ◌++◌, append_assoc}
use Rattle.std.proofs.Common.{append-nil, refl, sym, ap, subst, ◌∙◌, arith}
use Rattle.std.specs.List.{list_all}
use Rattle.std.specs.Char.{is_ascii_alphabetic, is_ascii_alphanumeric}
use Rattle.std.proofs.lemmas.Bool.Decides.{nat_tests}
use Rattle.std.proofs.lemmas.Bool.{cond-true, cond-false}
use Rattle.sm_ids.specs.Identifier.{is_identifier_byte, is_behind_underscore, IsIdentifier}
use Rattle.sm_ids.specs.IdText.{BeginsText}
use Rattle.sm_ids.specs.steps.Ahead.{EndsRun}
use Rattle.sm_ids.proofs.Cutting.{both, and_also, pick, heads, tails, clash, one_cut}
use Rattle.sm_ids.proofs.Identifiers.{whole, letter_opens}
use Rattle.sm_shapes.specs.Names.{AllDiffer}
use Rattle.sm_uri.specs.UriPattern.{QueryLiteral, is_literal_byte, is_text_of, is_segment, label_names, greedy_names, body_text, query_text}
use Rattle.sm_uri.specs.UriPattern.{IsUri}
use Rattle.sm_uri.specs.steps.UriReading.{NoneGoesOn, StopsBefore, ends_segment, IsNotRoot, tail_text, SegmentAhead, AfterSlash}
use Rattle.sm_uri.specs.steps.UriReading.{BeginsWithName, HasNoName, closing_text, BeginsWithClosing, HasNoClosing, labelled, is_some_name}
use Rattle.sm_uri.proofs.UriStops.{none_behind, ends_none}
use Rattle.sm_uri.proofs.UriNames.{is_among_names, differ_more, not_twice, names_of_both, name_of_label, letters, letters_of_names, total}
use Rattle.sm_uri.proofs.UriNames.{new_name, greedy_last_text, greedy_last_label, no_label_behind}
use Rattle.sm_uri.proofs.UriSegments.{all_both, text_passes, text_first, label_body, label_is_segment, body_first, body_some, one_name}
use Rattle.sm_uri.proofs.UriSegments.{tail_ends, middle_is}
use Rattle.sm_uri.specs.declared.pattern.Segment.{Segment}
use Rattle.sm_uri.specs.declared.pattern.Segment.TheVariants.{Literal, Label, Greedy}

-- these segments may stand in a pattern
abbrev pub AreSegments : List Segment → Type 0
AreSegments segments = IsUri (record { segments = segments; literals = [] })

-- and one more
pub text_more : (before : List Segment) (text : List ℕ) → AreSegments before → is_text_of is_literal_byte text ≡ true
    → AreSegments (before ++ Literal text ∷ [])
text_more before text u h = record {
  segments = all_both is_segment before (Literal text ∷ []) u.segments (ap (λ b. b && true) h);
  names = subst AllDiffer (sym (append-nil (label_names before)) ∙ sym (names_of_both before (Literal text ∷ []))) u.names;
  greedy = greedy_last_text text before u.greedy;
  literals = refl;
}

pub label_more : (before : List Segment) (greedy : Bool) (name : List ℕ) → AreSegments before → IsIdentifier name
    → is_among_names name (label_names before) ≡ false → is_some_name (greedy_names before) ≡ false
    → AreSegments (before ++ labelled greedy name ∷ [])
label_more before greedy name u h new first = record {
  segments = all_both is_segment before (labelled greedy name ∷ []) u.segments (ap (λ b. b && true) (label_is_segment greedy name h));
  names = subst AllDiffer (sym (names_of_both before (labelled greedy name ∷ [])
      ∙ ap (λ ns. label_names before ++ (ns ++ [])) (name_of_label greedy name)))
      (differ_more name (label_names before) u.names new);
  greedy = greedy_last_label greedy name before first;
  literals = refl;
}

-- a segment that ends the text
last_ahead : (before : List Segment) (s : Segment) → AreSegments (before ++ s ∷ []) → AfterSlash before (body_text s)
last_ahead before s u = inl (record { segment = s; more = []; literals = []; spelled = sym (append-nil (body_text s)); is_uri = u })

-- a letter may always come
letter_ahead : (before : List Segment) → AreSegments before → AfterSlash before (97 ∷ [])
letter_ahead before u = last_ahead before (Literal (97 ∷ [])) (text_more before (97 ∷ []) u refl)

segment_of : (before : List Segment) (x : List ℕ) (a : SegmentAhead before x) → is_segment a.segment ≡ true
segment_of before x a = middle_is before a.segment a.more a.is_uri.segments

no_such : (c : ℕ) → is_literal_byte c ≡ false → (c ≡ 123 → ⊥) → (is_literal_byte c ≡ true) ⊎ (c ≡ 123) → ⊥
no_such c h f (inl k) = clash (is_literal_byte c) k h
no_such c h f (inr k) = f k

root_head : (c : ℕ) (more : List ℕ) (literals : List QueryLiteral) → c ∷ more ≡ query_text literals → c ≡ 63
root_head c more [] e = cc
root_head c more (l ∷ ls) e = heads c 63 more _ e

-- no segment is there
none_there : (before : List Segment) (rest : List ℕ) → IsNotRoot before rest → EndsRun is_literal_byte rest
    → ((more : List ℕ) → rest ≡ 123 ∷ more → ⊥) → NoneGoesOn (AfterSlash before) [] rest
none_there before [] root ends brace = λ l. elim l [
  | inl a ↦ body_some a.segment (tail_text a.more a.literals) (segment_of before [] a) (sym a.spelled)
  | inr r ↦ let f : true ≡ false = root r.none in cc
]
none_there before (c ∷ rest) root ends brace = λ more l. elim l [
  | inl a ↦
      no_such c ends (λ e. brace rest (ap (λ d. d ∷ rest) e))
      (body_first a.segment (tail_text a.more a.literals) more c (segment_of before (c ∷ more) a) (sym a.spelled))
  | inr r ↦ clash (c == 63) (ap (λ d. d == 63) (root_head c more r.literals r.spelled)) (root r.none)
]

pub empty_stops : (before : List Segment) (rest : List ℕ) → AreSegments before → IsNotRoot before rest → EndsRun is_literal_byte rest
    → ((more : List ℕ) → rest ≡ 123 ∷ more → ⊥) → StopsBefore (AfterSlash before) rest rest
empty_stops before rest u root ends brace = record {
  taken = [];
  cut = refl;
  begun = (97 ∷ [], letter_ahead before u);
  none = none_there before rest root ends brace;
}

-- behind literal text a segment ends
end_is_no_literal : (c : ℕ) → ((c == 47) || (c == 63)) ≡ true → is_literal_byte c ≡ false
end_is_no_literal c h = grind (arith, nat_tests)

ends_literal : (x : List ℕ) → ends_segment x ≡ true → EndsRun is_literal_byte x
ends_literal [] h = tt
ends_literal (c ∷ x) h = end_is_no_literal c h

text_cut : (s : Segment) (t x y : List ℕ) → is_segment s ≡ true → is_text_of is_literal_byte t ≡ true → EndsRun is_literal_byte x
    → ends_segment y ≡ true → t ++ x ≡ body_text s ++ y → ends_segment x ≡ true
text_cut (Literal u) t x y hs ht ox ey e =
    let c = one_cut is_literal_byte t u x y (text_passes is_literal_byte t ht) (text_passes is_literal_byte u hs) ox
    (ends_literal y ey) e in
    subst (λ z. ends_segment z ≡ true) (sym c.1) ey
text_cut (Label n) t x y hs ht ox ey e = absurd (let f : false ≡ true = text_first is_literal_byte t x
    ((n ++ 125 ∷ []) ++ y) 123 ht e in cc)
text_cut (Greedy n) t x y hs ht ox ey e =
    absurd (let f : false ≡ true = text_first is_literal_byte t x ((n ++ 43 ∷ 125 ∷ []) ++ y) 123 ht e in cc)

text_root : (t x : List ℕ) (literals : List QueryLiteral) → is_text_of is_literal_byte t ≡ true → t ++ x ≡ query_text literals → ⊥
text_root [] x literals h e = cc
text_root (c ∷ t) x [] h e = cc
text_root (c ∷ t) x (l ∷ ls) h e = let f : false ≡ true = text_first is_literal_byte (c ∷ t) x _ 63 h e in cc

text_ends : (before : List Segment) (t x : List ℕ) → is_text_of is_literal_byte t ≡ true → EndsRun is_literal_byte x
    → AfterSlash before (t ++ x) → ends_segment x ≡ true
text_ends before t x h ends (inl a) =
    text_cut a.segment t x (tail_text a.more a.literals) (segment_of before (t ++ x) a) h ends (tail_ends a.more a.literals) a.spelled
text_ends before t x h ends (inr r) = absurd (text_root t x r.literals h r.spelled)

none_behind_text : (before : List Segment) (t rest : List ℕ) → is_text_of is_literal_byte t ≡ true → EndsRun is_literal_byte rest
    → ends_segment rest ≡ false → NoneGoesOn (AfterSlash before) t rest
none_behind_text before t [] h ends going = absurd (let f : true ≡ false = going in cc)
none_behind_text before t (c ∷ rest) h ends going = λ more l. clash (ends_segment (c ∷ more)) (text_ends before t (c ∷ more) h ends l) going

pub literal_stops : (before : List Segment) (t rest : List ℕ) → AreSegments before → is_text_of is_literal_byte t ≡ true
    → EndsRun is_literal_byte rest → ends_segment rest ≡ false → StopsBefore (AfterSlash before) (t ++ rest) rest
literal_stops before t rest u h ends going = record {
  taken = t;
  cut = refl;
  begun = ([], subst (AfterSlash before) (sym (append-nil t)) (last_ahead before (Literal t) (text_more before t u h)));
  none = none_behind_text before t rest h ends going;
}

-- a label behind its brace
record LabelAhead (before : List Segment) (rest : List ℕ) : Type 0 where
  pub greedy : Bool
  pub name : List ℕ
  pub more : List Segment
  pub literals : List QueryLiteral
  pub is_name : IsIdentifier name
  pub spelled : rest ≡ name ++ (closing_text greedy ++ tail_text more literals)
  pub is_uri : IsUri (record { segments = before ++ labelled greedy name ∷ more; literals = literals })

by_brace : (before : List Segment) (rest : List ℕ) (s : Segment) (more : List Segment) (literals : List QueryLiteral) → is_segment s ≡ true
    → 123 ∷ rest ≡ body_text s ++ tail_text more literals → IsUri (record { segments = before ++ s ∷ more; literals = literals })
    → LabelAhead before rest
by_brace before rest (Literal t) more literals h e u =
    absurd (let f : false ≡ true = text_first is_literal_byte t (tail_text more literals) rest 123 h (sym e) in cc)
by_brace before rest (Label n) more literals h e u = record {
  greedy = false;
  name = n;
  more = more;
  literals = literals;
  is_name = h;
  spelled = tails 123 123 rest ((n ++ 125 ∷ []) ++ tail_text more literals) e ∙ append_assoc n (125 ∷ []) (tail_text more literals);
  is_uri = u;
}
by_brace before rest (Greedy n) more literals h e u = record {
  greedy = true;
  name = n;
  more = more;
  literals = literals;
  is_name = h;
  spelled = tails 123 123 rest ((n ++ 43 ∷ 125 ∷ []) ++ tail_text more literals) e
      ∙ append_assoc n (43 ∷ 125 ∷ []) (tail_text more literals);
  is_uri = u;
}

after_brace : (before : List Segment) (rest : List ℕ) → AfterSlash before (123 ∷ rest) → LabelAhead before rest
after_brace before rest (inl a) = by_brace before rest a.segment a.more a.literals (segment_of before (123 ∷ rest) a) a.spelled a.is_uri
after_brace before rest (inr r) = absurd (let e : 123 ≡ 63 = root_head 123 rest r.literals r.spelled in omega (arith, e))

-- no label comes behind a greedy one
pub greedy_stops : (before : List Segment) (rest : List ℕ) → AreSegments before → is_some_name (greedy_names before) ≡ true
    → StopsBefore (AfterSlash before) (123 ∷ rest) (123 ∷ rest)
greedy_stops before rest u greedy = record {
  taken = [];
  cut = refl;
  begun = (97 ∷ [], letter_ahead before u);
  none = λ more l. let a = after_brace before more l in no_label_behind before a.greedy a.name a.more greedy a.is_uri.greedy;
}

-- some label begins so
label_begins : (before : List Segment) (part rest : List ℕ) → AreSegments before → is_some_name (greedy_names before) ≡ false
    → IsIdentifier (part ++ rest) → is_among_names (part ++ rest) (label_names before) ≡ false → BeginsText (AfterSlash before) (123 ∷ part)
label_begins before part rest u first h new = (
  rest ++ 125 ∷ [],
  subst (AfterSlash before) (ap (λ x. 123 ∷ x) (append_assoc part rest (125 ∷ [])))
      (last_ahead before (Label (part ++ rest)) (label_more before false (part ++ rest) u h new first)),
)

-- no name is there
pub name_stops : (before : List Segment) (inside rest : List ℕ) → AreSegments before → is_some_name (greedy_names before) ≡ false
    → HasNoName inside rest → StopsBefore (AfterSlash before) (123 ∷ inside) rest
name_stops before inside rest u first h =
    let more = letters (total (label_names before) + 1) in record {
      taken = 123 ∷ h.low_lines;
      cut = ap (λ x. 123 ∷ x) h.cut;
      begun =
          label_begins before h.low_lines (65 ∷ more) u first
          (whole h.low_lines 65 more h.are (letter_opens h.low_lines) (letters_of_names (total (label_names before) + 1)))
          (subst (λ x. is_among_names x (label_names before) ≡ false) (append_assoc h.low_lines (65 ∷ []) more)
          (new_name (h.low_lines ++ 65 ∷ []) (label_names before)));
      none =
          none_behind (λ c. Bool.false) (AfterSlash before) BeginsWithName (123 ∷ []) inside h.low_lines rest
          (λ x ends l. let a = after_brace before x l in (
            a.name,
            closing_text a.greedy ++ tail_text a.more a.literals,
            a.is_name,
            a.spelled,
          ))
          (ends_none inside) h.cut h.none;
    }

-- an identifier goes on with more of its bytes
behind_more : (t r : List ℕ) → is_behind_underscore t ≡ true → list_all is_identifier_byte r ≡ true → is_behind_underscore (t ++ r) ≡ true
behind_more [] r h k = cc
behind_more (c ∷ t) r h k = elim (pick (c == 95) (is_behind_underscore t) (is_ascii_alphanumeric c && list_all is_identifier_byte t) h) [
  | inl i ↦ cond-true (c == 95) (is_behind_underscore (t ++ r)) (is_ascii_alphanumeric c && list_all is_identifier_byte (t ++ r)) i.0
      ∙ behind_more t r i.1 k
  | inr i ↦
      let j = both (is_ascii_alphanumeric c) (list_all is_identifier_byte t) i.1 in
      cond-false (c == 95) (is_behind_underscore (t ++ r)) (is_ascii_alphanumeric c && list_all is_identifier_byte (t ++ r)) i.0
      ∙ and_also (is_ascii_alphanumeric c) (list_all is_identifier_byte (t ++ r)) j.0 (all_both is_identifier_byte t r j.1 k)
]

identifier_more : (t r : List ℕ) → IsIdentifier t → list_all is_identifier_byte r ≡ true → IsIdentifier (t ++ r)
identifier_more [] r h k = cc
identifier_more (c ∷ t) r h k = elim (pick (c == 95) (is_behind_underscore t) (is_ascii_alphabetic c && list_all is_identifier_byte t) h) [
  | inl i ↦ cond-true (c == 95) (is_behind_underscore (t ++ r)) (is_ascii_alphabetic c && list_all is_identifier_byte (t ++ r)) i.0
      ∙ behind_more t r i.1 k
  | inr i ↦
      let j = both (is_ascii_alphabetic c) (list_all is_identifier_byte t) i.1 in
      cond-false (c == 95) (is_behind_underscore (t ++ r)) (is_ascii_alphabetic c && list_all is_identifier_byte (t ++ r)) i.0
      ∙ and_also (is_ascii_alphabetic c) (list_all is_identifier_byte (t ++ r)) j.0 (all_both is_identifier_byte t r j.1 k)
]

-- a label of this name
record NamedAhead (before : List Segment) (name rest : List ℕ) : Type 0 where
  pub greedy : Bool
  pub more : List Segment
  pub literals : List QueryLiteral
  pub spelled : rest ≡ closing_text greedy ++ tail_text more literals
  pub is_uri : IsUri (record { segments = before ++ labelled greedy name ∷ more; literals = literals })

closing_ends : (greedy : Bool) (rest : List ℕ) → EndsRun is_identifier_byte (closing_text greedy ++ rest)
closing_ends true rest = refl
closing_ends false rest = refl

behind_name : (before : List Segment) (name rest : List ℕ) → IsIdentifier name → EndsRun is_identifier_byte rest
    → AfterSlash before (123 ∷ (name ++ rest)) → NamedAhead before name rest
behind_name before name rest h ends l =
    let a = after_brace before (name ++ rest) l in
    let tail = tail_text a.more a.literals in
    let c = one_name name a.name rest (closing_text a.greedy ++ tail) h a.is_name ends (closing_ends a.greedy tail) a.spelled in record {
      greedy = a.greedy;
      more = a.more;
      literals = a.literals;
      spelled = c.1;
      is_uri = subst (λ n. IsUri (record { segments = before ++ labelled a.greedy n ∷ a.more; literals = a.literals })) (sym c.0) a.is_uri;
    }

name_twice : (before : List Segment) (name rest : List ℕ) → is_among_names name (label_names before) ≡ true
    → NamedAhead before name rest → ⊥
name_twice before name rest twice a =
    not_twice name (label_names before) (label_names a.more) twice
    (subst AllDiffer (names_of_both before (labelled a.greedy name ∷ a.more)
    ∙ ap (λ ns. label_names before ++ (ns ++ label_names a.more)) (name_of_label a.greedy name)) a.is_uri.names)

none_at_all : (rest : List ℕ) → NoneGoesOn (λ x. ⊥) [] rest
none_at_all [] = λ l. l
none_at_all (c ∷ rest) = λ more l. l

-- a name that stands twice
pub same_stops : (before : List Segment) (name rest : List ℕ) → AreSegments before → is_some_name (greedy_names before) ≡ false
    → IsIdentifier name → EndsRun is_identifier_byte rest → is_among_names name (label_names before) ≡ true
    → StopsBefore (AfterSlash before) (123 ∷ (name ++ rest)) rest
same_stops before name rest u first h ends twice =
    let more = letters (total (label_names before) + 1) in record {
      taken = 123 ∷ name;
      cut = refl;
      begun =
          label_begins before name more u first (identifier_more name more h (letters_of_names (total (label_names before) + 1)))
          (new_name name (label_names before));
      none =
          subst (λ t. NoneGoesOn (AfterSlash before) (123 ∷ t) rest) (append-nil name)
          (none_behind is_identifier_byte (AfterSlash before) (λ x. ⊥) (123 ∷ name) rest [] rest
          (λ x o l. name_twice before name x twice (behind_name before name x h o l)) ends refl (none_at_all rest));
    }

-- a label that doesn't end
pub closing_stops : (before : List Segment) (name behind rest : List ℕ) → AreSegments before → is_some_name (greedy_names before) ≡ false
    → IsIdentifier name → EndsRun is_identifier_byte behind → is_among_names name (label_names before) ≡ false → HasNoClosing behind rest
    → StopsBefore (AfterSlash before) (123 ∷ (name ++ behind)) rest
closing_stops before name behind rest u first h ends new c = record {
  taken = 123 ∷ (name ++ c.taken);
  cut = ap (λ x. 123 ∷ (name ++ x)) c.cut ∙ ap (λ x. 123 ∷ x) (sym (append_assoc name c.taken rest));
  begun = (
    c.more,
    subst (AfterSlash before)
        (label_body c.greedy name ∙ ap (λ x. 123 ∷ (name ++ x)) (sym c.begun) ∙ ap (λ x. 123 ∷ x) (sym (append_assoc name c.taken c.more)))
        (last_ahead before (labelled c.greedy name) (label_more before c.greedy name u h new first)),
  );
  none =
      none_behind is_identifier_byte (AfterSlash before) BeginsWithClosing (123 ∷ name) behind c.taken rest
      (λ x o l. let a = behind_name before name x h o l in
      (a.greedy, tail_text a.more a.literals, a.spelled, tail_ends a.more a.literals)) ends c.cut c.none;
}
