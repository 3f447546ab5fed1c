-- Words by their bytes: a word is a run, and perhaps a `$` and an identifier. Two words at one place are one, or a `$` goes on behind
-- the shorter one.
use Rattle.std.proofs.Common.{◌≡◌, ◌⊎◌, inl, inr, ℕ, ◌<◌, Bool, true, false, ◌&&◌, ◌==◌, List, [], ◌∷◌, ◌++◌, length, Option, Some, None}
use Rattle.std.proofs.Common.{refl, sym, ap, ◌∙◌, subst, append_assoc, append-nil, arith, length-append}
use Rattle.std.specs.Char.{is_ascii_alphabetic}
use Rattle.std.specs.List.{list_all}
use Rattle.std.specs.Option.{ForSome}
use Rattle.std.proofs.lemmas.Bool.Decides.{nat_tests}
use Rattle.std.proofs.lemmas.List.Folds.{list_all-append}
use Rattle.std.proofs.lemmas.List.Sums.{AllPass-from_list_all}
use Rattle.sm_ids.specs.Identifier.{is_identifier_byte, is_behind_underscore, IsIdentifier, IsNamespace}
use Rattle.sm_ids.specs.IdText.{IsIdText, member_text}
use Rattle.sm_ids.specs.steps.Ahead.{EndsRun}
use Rattle.sm_ids.proofs.Cutting.{both, and_also, pick, heads, tails, list_all_weaker, one_cut}
use Rattle.sm_ids.proofs.Identifiers.{made_of_bytes}
use Rattle.sm_ids.proofs.Namespaces.{bool_cases, FirstIdentifier, namespace_first, is_namespace_byte, namespace_bytes}
use Rattle.sm_select.specs.Tokens.{EndsInRun, GoesOnWithRun, TokenThen, word, begins_run, is_run_byte}

run_byte : (c : ℕ) → is_identifier_byte c ≡ true → is_run_byte c ≡ true
run_byte c h = grind (arith, nat_tests)

namespace_run_byte : (c : ℕ) → is_namespace_byte c ≡ true → is_run_byte c ≡ true
namespace_run_byte c h = grind (arith, nat_tests)

letter_begins : (c : ℕ) → is_ascii_alphabetic c ≡ true → begins_run c ≡ true
letter_begins c h = grind (arith, nat_tests)

underscore_begins : (c : ℕ) → (c == 95) ≡ true → begins_run c ≡ true
underscore_begins c h = grind (arith, nat_tests)

pub begin_is_run : (c : ℕ) → begins_run c ≡ true → is_run_byte c ≡ true
begin_is_run c h = grind (arith, nat_tests)

-- an identifier begins a run
begun_identifier : (c : ℕ) (cs : List ℕ) → IsIdentifier (c ∷ cs) → begins_run c ≡ true
begun_identifier c cs h = elim (pick (c == 95) (is_behind_underscore cs) (is_ascii_alphabetic c && list_all is_identifier_byte cs) h) [
  | inl k ↦ underscore_begins c k.0
  | inr k ↦ letter_begins c (both (is_ascii_alphabetic c) (list_all is_identifier_byte cs) k.1).0
]

pub identifier_run : (t : List ℕ) → IsIdentifier t → list_all is_run_byte t ≡ true
identifier_run t h = list_all_weaker is_identifier_byte is_run_byte run_byte t (made_of_bytes t h)

namespace_run : (t : List ℕ) → IsNamespace t → list_all is_run_byte t ≡ true
namespace_run t h = list_all_weaker is_namespace_byte is_run_byte namespace_run_byte t (namespace_bytes t h)

all_joined : (p : ℕ → Bool) (xs ys : List ℕ) → list_all p xs ≡ true → list_all p ys ≡ true → list_all p (xs ++ ys) ≡ true
all_joined p xs ys h k = list_all-append p xs ys ∙ and_also (list_all p xs) (list_all p ys) h k

-- a run that begins with a letter or `_`
pub record IsRunText (t : List ℕ) : Type 0 where
  pub first : ℕ
  pub more : List ℕ
  pub is : t ≡ first ∷ more
  pub begins : begins_run first ≡ true
  pub all : list_all is_run_byte t ≡ true

pub identifier_text : (t : List ℕ) → IsIdentifier t → IsRunText t
identifier_text [] h = absurd (let e : false ≡ true = h in cc)
identifier_text (c ∷ cs) h = record { first = c; more = cs; is = refl; begins = begun_identifier c cs h; all = identifier_run (c ∷ cs) h }

-- a run, and then what is a run
longer_text : (s t : List ℕ) → IsRunText s → list_all is_run_byte t ≡ true → IsRunText (s ++ t)
longer_text s t h k = record {
  first = h.first;
  more = h.more ++ t;
  is = ap (λ x. x ++ t) h.is;
  begins = h.begins;
  all = all_joined is_run_byte s t h.all k;
}

namespace_text : (t : List ℕ) → IsNamespace t → IsRunText t
namespace_text t h = by_first (namespace_first t h)
  where
    by_parts : (f : FirstIdentifier t) → IsRunText f.first → IsRunText t
    by_parts f r = record {
      first = r.first;
      more = r.more ++ f.rest;
      is = f.parts ∙ ap (λ x. x ++ f.rest) r.is;
      begins = r.begins;
      all = namespace_run t h;
    }

    by_first : FirstIdentifier t → IsRunText t
    by_first f = by_parts f (identifier_text f.first f.is_first)

-- a word: a run, and perhaps a `$` and an identifier
pub record WordShape (w : List ℕ) : Type 0 where
  pub run : List ℕ
  pub member : Option (List ℕ)
  pub is : w ≡ run ++ member_text member
  pub of_run : IsRunText run
  pub of_member : ForSome member IsIdentifier

pub identifier_shape : (w : List ℕ) → IsIdentifier w → WordShape w
identifier_shape w h = record {
  run = w;
  member = None;
  is = sym (append-nil w);
  of_run = identifier_text w h;
  of_member = λ x e. absurd
      cc;
}

pub id_shape : (w : List ℕ) → IsIdText w → WordShape w
id_shape w (id, t) = record {
  run = id.namespace ++ 35 ∷ id.name;
  member = id.member;
  is = t.spelled ∙ sym (append_assoc id.namespace (35 ∷ id.name) (member_text id.member));
  of_run = longer_text id.namespace (35 ∷ id.name) (namespace_text id.namespace t.is_id.namespace) (identifier_run id.name t.is_id.name);
  of_member = t.is_id.member;
}

pub word_shape : (w : List ℕ) → IsIdentifier w ⊎ IsIdText w → WordShape w
word_shape w (inl h) = identifier_shape w h
word_shape w (inr h) = id_shape w h

-- an id is no identifier
all_behind : (p : ℕ → Bool) (xs ys : List ℕ) → list_all p (xs ++ ys) ≡ true → list_all p ys ≡ true
all_behind p xs ys h = (both (list_all p xs) (list_all p ys) (sym (list_all-append p xs ys) ∙ h)).1

pub id_or_identifier : (w : List ℕ) → IsIdText w → IsIdentifier w → ⊥
id_or_identifier w (id, t) h =
    let e : false ≡ true = all_behind is_identifier_byte id.namespace (35 ∷ (id.name ++ member_text id.member))
    (subst (λ x. list_all is_identifier_byte x ≡ true) t.spelled (made_of_bytes w h)) in absurd cc

-- a word ends in a run
run_ends : (before t : List ℕ) → IsRunText t → EndsInRun (before ++ t)
run_ends before t r = record {
  before = before;
  first = r.first;
  run = r.more;
  begins = r.begins;
  goes_on = AllPass-from_list_all is_run_byte r.more
      (both (is_run_byte r.first) (list_all is_run_byte r.more) (subst (λ x. list_all is_run_byte x ≡ true) r.is r.all)).1;
  whole = ap (λ x. before ++ x) r.is;
}

shape_ends : (w : List ℕ) → WordShape w → EndsInRun w
shape_ends w s = by_member s.member s.is s.of_member
  where
    by_member : (m : Option (List ℕ)) → w ≡ s.run ++ member_text m → ForSome m IsIdentifier → EndsInRun w
    by_member None e h = subst EndsInRun (sym (e ∙ append-nil s.run)) (run_ends [] s.run s.of_run)
    by_member (Some m) e h =
        subst EndsInRun (sym (e ∙ sym (append_assoc s.run (36 ∷ []) m))) (run_ends (s.run ++ 36 ∷ []) m (identifier_text m (h m refl)))

pub run_stops : (r : List ℕ) → (GoesOnWithRun r → ⊥) → EndsRun is_run_byte r
run_stops [] h = tt
run_stops (c ∷ r) h = elim (bool_cases (is_run_byte c)) [ inl e ↦ absurd (h e) | inr e ↦ e ]

-- a word that stands in a text
pub record WordThen (w s r : List ℕ) : Type 0 where
  pub shape : WordShape w
  pub spelled : s ≡ w ++ r
  pub ends : EndsRun is_run_byte r

pub word_then : (w s r : List ℕ) → TokenThen (word w) s r → WordThen w s r
word_then w s r t =
    let shape = word_shape w t.is_token.1 in
    record {
      shape = shape;
      spelled = t.spelled ∙ ap (λ x. x ++ r) t.is_token.0;
      ends = run_stops r (t.may_end (subst EndsInRun (sym t.is_token.0) (shape_ends w shape)));
    }

-- a `$` goes on behind the shorter word, and then a letter or `_`
pub record DollarBehind (r q : List ℕ) : Type 0 where
  pub first : ℕ
  pub more : List ℕ
  pub is : r ≡ 36 ∷ first ∷ more
  pub begins : begins_run first ≡ true
  pub shorter : length q < length r

pub data TwoWords (v w r q : List ℕ) : Type 0 where
  same_word : v ≡ w → r ≡ q → TwoWords v w r q
  first_cut : DollarBehind r q → TwoWords v w r q
  second_cut : DollarBehind q r → TwoWords v w r q

dollar_behind : (m r q : List ℕ) → IsIdentifier m → r ≡ 36 ∷ (m ++ q) → DollarBehind r q
dollar_behind m r q h e = by_text (identifier_text m h)
  where
    by_text : IsRunText m → DollarBehind r q
    by_text t = record {
      first = t.first;
      more = t.more ++ q;
      is = e ∙ ap (λ x. 36 ∷ (x ++ q)) t.is;
      begins = t.begins;
      shorter = let l : length r ≡ length (36 ∷ (m ++ q)) = ap length e in let k = length-append m q in omega arith;
    }

pub member_run_ends : (m : Option (List ℕ)) (r : List ℕ) → EndsRun is_run_byte r → EndsRun is_run_byte (member_text m ++ r)
member_run_ends None r h = h
member_run_ends (Some m) r h = refl

by_members : (a b : List ℕ) (m n : Option (List ℕ)) (v w r q : List ℕ) → v ≡ a ++ member_text m → w ≡ b ++ member_text n → a ≡ b
    → ForSome m IsIdentifier
    → ForSome n IsIdentifier
    → EndsRun is_run_byte r
    → EndsRun is_run_byte q
    → member_text m ++ r ≡ member_text n ++ q
    → TwoWords v w r q
by_members a b None None v w r q ev ew e hm hn hr hq same =
    same_word (ev ∙ ap (λ x. x ++ []) e ∙ sym ew) same
by_members a b None (Some n) v w r q ev ew e hm hn hr hq same = first_cut (dollar_behind n r q (hn n refl) same)
by_members a b (Some m) None v w r q ev ew e hm hn hr hq same = second_cut (dollar_behind m q r (hm m refl) (sym same))
by_members a b (Some m) (Some n) v w r q ev ew e hm hn hr hq same =
    let k = one_cut is_run_byte m n r q (identifier_run m (hm m refl)) (identifier_run n (hn n refl)) hr hq (tails 36 36 (m ++ r) (n ++
    q) same) in
    same_word (ev ∙ ap (λ x. x ++ 36 ∷ m) e ∙ ap (λ x. b ++ 36 ∷ x) k.0 ∙ sym ew) k.1

pub two_words : (v w s r q : List ℕ) → WordThen v s r → WordThen w s q → TwoWords v w r q
two_words v w s r q a b = by_cut (one_cut is_run_byte a.shape.run b.shape.run (member_text a.shape.member ++ r) (member_text
    b.shape.member ++ q)
    a.shape.of_run.all b.shape.of_run.all (member_run_ends a.shape.member r a.ends) (member_run_ends b.shape.member q b.ends) whole)
  where
    whole : a.shape.run ++ (member_text a.shape.member ++ r) ≡ b.shape.run ++ (member_text b.shape.member ++ q)
    whole = sym (append_assoc a.shape.run (member_text a.shape.member) r) ∙ ap (λ x. x ++ r) (sym a.shape.is) ∙ sym a.spelled ∙ b.spelled
        ∙ ap (λ x. x ++ q) b.shape.is
        ∙ append_assoc b.shape.run (member_text b.shape.member) q

    by_cut : (a.shape.run ≡ b.shape.run) × (member_text a.shape.member ++ r ≡ member_text b.shape.member ++ q) → TwoWords v w r q
    by_cut (e, f) = by_members a.shape.run b.shape.run a.shape.member b.shape.member v w r q a.shape.is b.shape.is e a.shape.of_member
        b.shape.of_member a.ends b.ends f

-- the first byte of a word
pub word_head : (w r : List ℕ) (c : ℕ) (s : List ℕ) → WordShape w → c ∷ s ≡ w ++ r → begins_run c ≡ true
word_head w r c s h e =
    let f : c ∷ s ≡ h.of_run.first ∷ ((h.of_run.more ++ member_text h.member) ++ r) =
    e ∙ ap (λ x. x ++ r) h.is ∙ ap (λ x. (x ++ member_text h.member) ++ r) h.of_run.is in
    subst (λ x. begins_run x ≡ true) (sym (heads c h.of_run.first s ((h.of_run.more ++ member_text h.member) ++ r) f)) h.of_run.begins
