-- The tokens of what is written: marks, words and numbers, each with what may stand behind it.
use Rattle.std.proofs.Common.{◌≡◌, ◌≤◌, ◌<◌, ◌⊎◌, ℕ, suc, ◌+◌, inl, inr, Bool, true, false, cond, not, List, [], ◌∷◌, ◌++◌, length, take}
use Rattle.std.proofs.Common.{refl, sym, ap, subst, ◌∙◌, append-nil, arith}
use Rattle.std.specs.Prelude.{◌==◌, ◌||◌, codes, Option, Some, None}
use Rattle.std.specs.Option.{ForSome}
use Rattle.std.specs.Char.{is_ascii_digit, is_ascii_alphabetic}
use Rattle.std.specs.List.{list_all, prefix_len}
use Rattle.std.proofs.Math.Seq.{take-append_seam, take-append-add}
use Rattle.std.proofs.lemmas.Bool.{cond-true, cond-false}
use Rattle.std.proofs.lemmas.Bool.Decides.{nat_tests}
use Rattle.std.proofs.lemmas.List.{length-append}
use Rattle.std.proofs.lemmas.List.Folds.{list_all-append}
use Rattle.sm_ids.specs.Identifier.{is_identifier_byte, is_behind_underscore, IsIdentifier, IsNamespace}
use Rattle.sm_ids.specs.IdText.{IsIdText, member_text}
use Rattle.sm_ids.proofs.Cutting.{both, and_also, list_all_weaker, pick}
use Rattle.sm_ids.proofs.Identifiers.{made_of_bytes}
use Rattle.sm_ids.proofs.TextCuts.{all_run}
use Rattle.sm_ids.proofs.Namespaces.{is_namespace_byte, namespace_bytes, namespace_first}
use Rattle.sm_tree.specs.Numbers.{IsDigit, AreDigits, IsMinus, IsInt, IsDigits, IsFraction, IsSign, IsExponent, IsNumber}
use Rattle.sm_tree.specs.steps.NumberBytes.{IsNumberStart}
use Rattle.sm_tree.proofs.Numbers.{number_starts}
use Rattle.sm_lex.specs.declared.byte.First.TheVariants.{Word as a_word, Number as a_number, Mark as a_mark}
use Rattle.sm_lex.specs.declared.token.TokenKind.TheVariants.{Word, Number, Mark}
use Rattle.sm_lex.specs.Bytes.{first_of, FirstIs, is_idl_white, begins_word, is_word_byte, begins_number, opens_with}
use Rattle.sm_lex.specs.Tokens.{Lexeme, BeginsNumber, LongestNumber}
use Rattle.sm_idl.specs.Productions.{Tokens, Production, one, ◌>>=◌}
use Rattle.sm_idl.specs.Words.{IsMark, IsWord, mark, mark_where, the_word}
use Rattle.sm_idl.proofs.TextTokens.{Goes, Spells, goes_one, goes_both}

-- no word, number or string goes on with this byte
abbrev pub ends_value : ℕ → Bool
ends_value c = not (is_word_byte c || ((c == 43) || ((c == 45) || (c == 34))))

abbrev pub Closed : List ℕ → Type 0
Closed [] = Unit {0}
Closed (c ∷ s) = ends_value c ≡ true

neither : (a b : Bool) → not (a || b) ≡ true → (a ≡ false) × (not b ≡ true)
neither true b h = absurd cc
neither false b h = (refl, h)

not_true : (b : Bool) → not b ≡ true → b ≡ false
not_true true h = absurd cc
not_true false h = refl

no_word : (c : ℕ) → ends_value c ≡ true → is_word_byte c ≡ false
no_word c h = (neither (is_word_byte c) _ h).0

pub no_quote : (c : ℕ) → ends_value c ≡ true → (c == 34) ≡ false
no_quote c h = not_true (c == 34) (neither (c == 45) (c == 34) (neither (c == 43) _ (neither (is_word_byte c) _ h).1).1).1

closed_word : (s : List ℕ) → Closed s → prefix_len is_word_byte s ≡ 0
closed_word [] h = refl
closed_word (c ∷ s) h = cond-false (is_word_byte c) _ _ (no_word c h)

-- marks
pub goes_marked : {Y : Type 0} (c : ℕ) (q : Unit → Production Y) {y : Y} {Q : Tokens → Type 0} {s : List ℕ} → first_of c ≡ a_mark
    → opens_with (c ∷ s) (codes ":=") ≡ false → Goes (Spells (q tt) y Q) s → Goes (Spells (mark (c ∷ []) >>= q) y Q) (c ∷ s)
goes_marked c q {s = s} is alone h =
    goes_both (mark (c ∷ [])) q tt
    (goes_one (λ t _. IsMark (c ∷ []) t) tt Mark (c ∷ []) (omega arith) (λ start. (is, sym (ap (λ b. cond b 2 1) alone)))
    (λ t kind text. (kind, text)) h)

-- one, where this holds
pub goes_marked_where : {Y : Type 0} (c : ℕ) (Holds : Type 0) (q : Unit → Production Y) {y : Y} {Q : Tokens → Type 0} {s : List ℕ}
    → first_of c ≡ a_mark → opens_with (c ∷ s) (codes ":=") ≡ false → Holds → Goes (Spells (q tt) y Q) s
    → Goes (Spells (mark_where (c ∷ []) Holds >>= q) y Q) (c ∷ s)
goes_marked_where c Holds q {s = s} is alone holds h =
    goes_both (mark_where (c ∷ []) Holds) q tt
    (goes_one (λ t _. IsMark (c ∷ []) t × Holds) tt Mark (c ∷ []) (omega arith) (λ start. (is, sym (ap (λ b. cond b 2 1) alone)))
    (λ t kind text. ((kind, text), holds)) h)

-- words
pub record IsWordText (w : List ℕ) : Type 0 where
  pub first : ℕ
  pub more : List ℕ
  pub is : w ≡ first ∷ more
  pub begins : begins_word first ≡ true
  pub bytes : list_all is_word_byte w ≡ true

-- one that is known
pub word_text : (w : List ℕ) (c : ℕ) (s : List ℕ) → w ≡ c ∷ s → begins_word c ≡ true → list_all is_word_byte w ≡ true → IsWordText w
word_text w c s e h all = record { first = c; more = s; is = e; begins = h; bytes = all }

no_white : (c : ℕ) → begins_word c ≡ true → is_idl_white c ≡ false
no_white c h = grind (arith, nat_tests)

no_slash : (c : ℕ) → begins_word c ≡ true → (c == 47) ≡ false
no_slash c h = grind (arith, nat_tests)

word_first : (c : ℕ) → begins_word c ≡ true → first_of c ≡ a_word
word_first c h = cond-false _ _ _ (no_white c h) ∙ cond-false _ _ _ (no_slash c h) ∙ cond-true _ _ _ h

word_some : (w : List ℕ) → IsWordText w → 0 < length w
word_some w it = let long : length w ≡ suc (length it.more) = ap length it.is in omega (arith, long)

pub goes_word : {X : Type 0} (Says : Lexeme → X → Type 0) (x : X) (w : List ℕ) {s : List ℕ} {Q : Tokens → Type 0} → IsWordText w → Closed s
    → ((t : Lexeme) → IsWord w t → Says t x) → Goes Q s → Goes (Spells (one Says) x Q) (w ++ s)
goes_word Says x w {s = s} it closed says h =
    goes_one Says x Word w (word_some w it) (λ start. (
      subst (λ u. FirstIs a_word (u ++ s)) (sym it.is) (word_first it.first it.begins),
      all_run is_word_byte w s it.bytes (closed_word s closed),
    ))
    (λ t kind text. says t (kind, text)) h

pub goes_worded : {Y : Type 0} (w : List ℕ) (q : Unit → Production Y) {y : Y} {Q : Tokens → Type 0} {s : List ℕ} → IsWordText w
    → Closed s → Goes (Spells (q tt) y Q) s → Goes (Spells (the_word w >>= q) y Q) (w ++ s)
goes_worded w q it closed h = goes_both (the_word w) q tt (goes_word (λ t _. IsWord w t) tt w it closed (λ t is. is) h)

identifier_byte : (c : ℕ) → is_identifier_byte c ≡ true → is_word_byte c ≡ true
identifier_byte c h = grind (arith, nat_tests)

namespace_byte : (c : ℕ) → is_namespace_byte c ≡ true → is_word_byte c ≡ true
namespace_byte c h = grind (arith, nat_tests)

underscore_begins : (c : ℕ) → (c == 95) ≡ true → begins_word c ≡ true
underscore_begins c h = grind (arith, nat_tests)

letter_begins : (c : ℕ) → is_ascii_alphabetic c ≡ true → begins_word c ≡ true
letter_begins c h = grind (arith, nat_tests)

identifier_bytes : (w : List ℕ) → IsIdentifier w → list_all is_word_byte w ≡ true
identifier_bytes w h = list_all_weaker is_identifier_byte is_word_byte identifier_byte w (made_of_bytes w h)

pub identifier_word : (w : List ℕ) → IsIdentifier w → IsWordText w
identifier_word [] h = absurd cc
identifier_word (c ∷ w) h = record {
  first = c;
  more = w;
  is = refl;
  begins = elim (pick (c == 95) (is_behind_underscore w) _ h) [
    | inl k ↦ underscore_begins c k.0
    | inr k ↦ letter_begins c (both (is_ascii_alphabetic c) _ k.1).0
  ];
  bytes = identifier_bytes (c ∷ w) h;
}

-- a word with more bytes of words behind it
more_word : (a b : List ℕ) → IsWordText a → list_all is_word_byte b ≡ true → IsWordText (a ++ b)
more_word a b it h = record {
  first = it.first;
  more = it.more ++ b;
  is = ap (λ l. l ++ b) it.is;
  begins = it.begins;
  bytes = list_all-append is_word_byte a b ∙ and_also (list_all is_word_byte a) (list_all is_word_byte b) it.bytes h;
}

all_namespace : (w : List ℕ) → IsNamespace w → list_all is_word_byte w ≡ true
all_namespace w h = list_all_weaker is_namespace_byte is_word_byte namespace_byte w (namespace_bytes w h)

pub namespace_word : (w : List ℕ) → IsNamespace w → IsWordText w
namespace_word w h =
    let it = namespace_first w h in
    let front = identifier_word it.first it.is_first in record {
      first = front.first;
      more = front.more ++ it.rest;
      is = it.parts ∙ ap (λ l. l ++ it.rest) front.is;
      begins = front.begins;
      bytes = all_namespace w h;
    }

member_bytes : (m : Option (List ℕ)) → ForSome m IsIdentifier → list_all is_word_byte (member_text m) ≡ true
member_bytes None h = refl
member_bytes (Some m) h = identifier_bytes m (h m refl)

pub id_word : (w : List ℕ) → IsIdText w → IsWordText w
id_word w (id, spelt) =
    subst IsWordText (sym spelt.spelled)
    (more_word id.namespace (35 ∷ (id.name ++ member_text id.member)) (namespace_word id.namespace spelt.is_id.namespace)
    (list_all-append is_word_byte id.name (member_text id.member)
    ∙ and_also (list_all is_word_byte id.name) (list_all is_word_byte (member_text id.member))
    (identifier_bytes id.name spelt.is_id.name) (member_bytes id.member spelt.is_id.member)))

-- numbers
abbrev is_number_byte : ℕ → Bool
is_number_byte c = is_ascii_digit c || ((c == 43) || ((c == 45) || ((c == 46) || ((c == 69) || (c == 101)))))

digit_byte : (c : ℕ) → IsDigit c → is_number_byte c ≡ true
digit_byte c h =
    let low : 48 ≤ c = h.0 in
    let high : c ≤ 57 = h.1 in
    grind (arith, nat_tests)

closed_number : (c : ℕ) → ends_value c ≡ true → is_number_byte c ≡ false
closed_number c h = grind (arith, nat_tests)

all_joined : (a b : List ℕ) → list_all is_number_byte a ≡ true → list_all is_number_byte b ≡ true
    → list_all is_number_byte (a ++ b) ≡ true
all_joined a b h k = list_all-append is_number_byte a b ∙ and_also (list_all is_number_byte a) (list_all is_number_byte b) h k

one_number_byte : (c : ℕ) (s : List ℕ) → is_number_byte c ≡ true → list_all is_number_byte s ≡ true
    → list_all is_number_byte (c ∷ s) ≡ true
one_number_byte c s h k = and_also (is_number_byte c) (list_all is_number_byte s) h k

digits_bytes : (ds : List ℕ) → AreDigits ds → list_all is_number_byte ds ≡ true
digits_bytes [] h = refl
digits_bytes (d ∷ ds) h = one_number_byte d ds (digit_byte d h.0) (digits_bytes ds h.1)

some_digits_bytes : (ds : List ℕ) → IsDigits ds → list_all is_number_byte ds ≡ true
some_digits_bytes ds (c, cs, e, h, k) =
    subst (λ t. list_all is_number_byte t ≡ true) (sym e) (one_number_byte c cs (digit_byte c h) (digits_bytes cs k))

minus_bytes : (t : List ℕ) → IsMinus t → list_all is_number_byte t ≡ true
minus_bytes t (inl e) = subst (λ u. list_all is_number_byte u ≡ true) (sym e) refl
minus_bytes t (inr e) = subst (λ u. list_all is_number_byte u ≡ true) (sym e) refl

int_bytes : (t : List ℕ) → IsInt t → list_all is_number_byte t ≡ true
int_bytes t (inl e) = subst (λ u. list_all is_number_byte u ≡ true) (sym e) refl
int_bytes t (inr (c, ds, e, low, high, digits)) =
    subst (λ u. list_all is_number_byte u ≡ true) (sym e) (one_number_byte c ds (digit_byte c (omega arith, high)) (digits_bytes ds digits))

fraction_bytes : (t : List ℕ) → IsFraction t → list_all is_number_byte t ≡ true
fraction_bytes t (inl e) = subst (λ u. list_all is_number_byte u ≡ true) (sym e) refl
fraction_bytes t (inr (ds, e, digits)) = subst (λ u. list_all is_number_byte u ≡ true) (sym e) (some_digits_bytes ds digits)

sign_bytes : (t : List ℕ) → IsSign t → list_all is_number_byte t ≡ true
sign_bytes t (inl e) = subst (λ u. list_all is_number_byte u ≡ true) (sym e) refl
sign_bytes t (inr (inl e)) = subst (λ u. list_all is_number_byte u ≡ true) (sym e) refl
sign_bytes t (inr (inr e)) = subst (λ u. list_all is_number_byte u ≡ true) (sym e) refl

letter_byte : (e : ℕ) → (e ≡ 101) ⊎ (e ≡ 69) → is_number_byte e ≡ true
letter_byte e (inl is) = subst (λ c. is_number_byte c ≡ true) (sym is) refl
letter_byte e (inr is) = subst (λ c. is_number_byte c ≡ true) (sym is) refl

exponent_bytes : (t : List ℕ) → IsExponent t → list_all is_number_byte t ≡ true
exponent_bytes t (inl e) = subst (λ u. list_all is_number_byte u ≡ true) (sym e) refl
exponent_bytes t (inr (c, sign, ds, e, letter, is_sign, digits)) =
    subst (λ u. list_all is_number_byte u ≡ true) (sym e)
    (one_number_byte c (sign ++ ds) (letter_byte c letter) (all_joined sign ds (sign_bytes sign is_sign) (some_digits_bytes ds digits)))

number_bytes : (t : List ℕ) → IsNumber t → list_all is_number_byte t ≡ true
number_bytes t n =
    subst (λ u. list_all is_number_byte u ≡ true) (sym n.parts)
    (all_joined n.minus _ (minus_bytes n.minus n.is_minus)
    (all_joined n.whole _ (int_bytes n.whole n.is_int)
    (all_joined n.fraction n.exponent (fraction_bytes n.fraction n.is_fraction) (exponent_bytes n.exponent n.is_exponent))))

pub no_number_more : (t : List ℕ) (c : ℕ) → ends_value c ≡ true → BeginsNumber (t ++ c ∷ []) → ⊥
no_number_more t c closed (more, n) =
    let all = number_bytes ((t ++ c ∷ []) ++ more) n in
    let front = (both (list_all is_number_byte (t ++ c ∷ [])) (list_all is_number_byte more)
    (sym (list_all-append is_number_byte (t ++ c ∷ []) more) ∙ all)).0 in
    let last = (both (list_all is_number_byte t) (list_all is_number_byte (c ∷ []))
    (sym (list_all-append is_number_byte t (c ∷ [])) ∙ front)).1 in
    let here : is_number_byte c ≡ true = (both (is_number_byte c) true last).0 in
    let wrong : true ≡ false = sym here ∙ closed_number c closed in absurd cc

longest : (t s : List ℕ) → IsNumber t → Closed s → LongestNumber (t ++ s) (length t)
longest t s n closed = record {
  within = omega (arith, length-append t s);
  begins = ([], subst IsNumber (sym (append-nil (take (length t) (t ++ s)) ∙ take-append_seam t s)) n);
  stops = goes_on s closed;
}
  where
    goes_on : (s : List ℕ) → Closed s → length t < length (t ++ s) → BeginsNumber (take (length t + 1) (t ++ s)) → ⊥
    goes_on [] closed lt more = absurd (omega (arith, length-append t []))
    goes_on (c ∷ s) closed lt more = no_number_more t c closed (subst BeginsNumber (take-append-add t (c ∷ s) 1) more)

number_first : (c : ℕ) → IsNumberStart c → first_of c ≡ a_number
number_first c (inr e) = subst (λ d. first_of d ≡ a_number) (sym e) refl
number_first c (inl h) =
    let low : 48 ≤ c = h.0 in
    let high : c ≤ 57 = h.1 in
    let white : is_idl_white c ≡ false = grind (arith, nat_tests) in
    let slash : (c == 47) ≡ false = grind (arith, nat_tests) in
    let letter : begins_word c ≡ false = grind (arith, nat_tests) in
    let number : begins_number c ≡ true = grind (arith, nat_tests) in
    cond-false _ _ _ white ∙ cond-false _ _ _ slash ∙ cond-false _ _ _ letter ∙ cond-true _ _ _ number

pub goes_number : {X : Type 0} (Says : Lexeme → X → Type 0) (x : X) (t : List ℕ) {s : List ℕ} {Q : Tokens → Type 0} → IsNumber t
    → Closed s → ((u : Lexeme) → u.kind ≡ Number → u.text ≡ t → Says u x) → Goes Q s → Goes (Spells (one Says) x Q) (t ++ s)
goes_number Says x t {s = s} n closed says h =
    let first = number_starts t n in
    let long : length t ≡ suc (length first.1) = ap length first.2 in
    goes_one Says x Number t (omega (arith, long)) (λ start. (
      subst (λ u. FirstIs a_number (u ++ s)) (sym first.2) (number_first first.0 first.3),
      longest t s n closed,
      subst IsNumber (sym (take-append_seam t s)) n,
    ))
    says h
