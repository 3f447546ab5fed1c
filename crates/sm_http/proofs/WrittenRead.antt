-- A written message is read as itself.
use Rattle.std.proofs.Common.{◌≡◌, ℕ, ◌<◌, ◌≤◌, true, List, [], ◌∷◌, ◌++◌, length, map, refl, sym, ap, ◌∙◌, subst, arith, append_assoc}
use Rattle.std.proofs.Common.{suc, zero, Bool, ◌&&◌, ◌||◌}
use Rattle.std.specs.Prelude.{All, ◌==◌, nat_lt, decimal}
use Rattle.std.proofs.lemmas.Bool.{eqb-true, le-ltb}
use Rattle.std.proofs.lemmas.Bool.Decides.{Decides-below_and}
use Rattle.std.specs.Char.{is_ascii_digit}
use Rattle.std.specs.Fmt.{digits}
use Rattle.std.specs.List.{list_all}
use Rattle.std.specs.Str.Parse.{digits_value}
use Rattle.std.proofs.lemmas.List.{length-append}
use Rattle.std.proofs.lemmas.List.Elements.{All-head, All-tail, All-cons, All-nil}
use Rattle.httparse.specs.Grammar.{trim_ows, is_value_byte, IsField}
use Rattle.sm_http.specs.declared.message.Field.{Field}
use Rattle.sm_http.specs.declared.message.Start.{Start}
use Rattle.sm_http.specs.declared.message.Start.TheVariants.{Request, Response}
use Rattle.sm_http.specs.declared.message.MessageSide.{MessageSide}
use Rattle.sm_http.specs.declared.message.MessageSide.TheVariants.{Request as of_requests, Response as of_responses}
use Rattle.sm_http.specs.declared.message.BodyLeft.TheVariants.{Known}
use Rattle.sm_http.specs.Bodies.{BodyFramed, body}
use Rattle.sm_http.specs.Laws.{WrittenIsRead}
use Rattle.sm_http.proofs.Numbers.{and_left, and_right}
use Rattle.sm_http.specs.Heads.{HeadText, ReadsHead, field_of}
use Rattle.sm_http.specs.Written.{request_head_of, response_head_of, line_of, phrase, written_from, written_head, IsWritableField}
use Rattle.sm_http.specs.Written.{IsWritableStart}

-- a written field is read as itself
field_again : (field : Field) → IsWritableField field → field_of (line_of field) ≡ field
unfolding trim_ows
field_again field good = ap (λ v. record { name = field.name; value = v }) good.trimmed

line_good : (field : Field) → IsWritableField field → IsField (line_of field)
line_good field good = record {
  name = good.name;
  raw = All-cons (λ b. is_value_byte b ≡ true) 32 field.value refl good.value;
}

pub fields_again : (fields : List Field) → All IsWritableField fields → map field_of (map line_of fields) ≡ fields
fields_again [] all = refl
fields_again (f ∷ fs) all =
    ap (λ g. g ∷ map field_of (map line_of fs)) (field_again f (All-head IsWritableField f fs all))
    ∙ ap (λ gs. f ∷ gs) (fields_again fs (All-tail IsWritableField f fs all))

pub lines_good : (fields : List Field) → All IsWritableField fields → All IsField (map line_of fields)
lines_good [] all = All-nil IsField
lines_good (f ∷ fs) all =
    All-cons IsField (line_of f) (map line_of fs) (line_good f (All-head IsWritableField f fs all))
    (lines_good fs (All-tail IsWritableField f fs all))

-- ---- a status line

abbrev good_digits : ℕ → Bool
good_digits n = length (decimal n) == 3 && (list_all is_ascii_digit (decimal n) &&
    (digits_value 10 (decimal n) == n && list_all is_value_byte (phrase n)))

abbrev good_status : ℕ → Bool
good_status n = nat_lt n 100 || good_digits n

abbrev good_below : ℕ → Bool
good_below zero = true
good_below (suc n) = good_status n && good_below n

-- each status is three digits, and its phrase may stand in a line
all_good : (n : ℕ) → n < 1000 → good_status n ≡ true
unfolding digits
all_good n h = (Decides-below_and good_status (λ k. good_status k ≡ true) good_below (λ k. (λ x. x, λ x. x)) refl (λ _. refl) 1000).0
    refl n h

good : (n : ℕ) → 100 ≤ n → n < 1000 → good_digits n ≡ true
good n low high = ap (λ t. t || good_digits n) (sym (le-ltb n 100 low)) ∙ all_good n high

from_all : (p : ℕ → Bool) (xs : List ℕ) → list_all p xs ≡ true → All (λ x. p x ≡ true) xs
from_all p [] e = All-nil (λ x. p x ≡ true)
from_all p (x ∷ xs) e =
    All-cons (λ y. p y ≡ true) x xs (and_left (p x) (list_all p xs) e) (from_all p xs (and_right (p x) (list_all p xs) e))

-- ---- the head

said_text : Start → List Field → HeadText
said_text start fields = record { head = record { start = start; fields = fields }; minor = 1 }

head_again : (side : MessageSide) (start : Start) (fields : List Field) (rest : List ℕ) → IsWritableStart side start
    → All IsWritableField fields → ReadsHead side (written_from start fields ++ rest) (said_text start fields) rest
unfolding said_text
head_again of_requests (Request method target) fields rest good_start good_fields = (
  request_head_of method target fields,
  (
    record {
      method = good_start.0;
      target = (good_start.1, good_start.2);
      target_text = good_start.3;
      minor = omega arith;
      fields = lines_good fields good_fields;
    },
    refl,
  ),
  ap (λ fs. said_text (Request method target) fs) (sym (fields_again fields good_fields)),
)
head_again of_requests (Response status) fields rest good_start good_fields = absurd good_start
head_again of_responses (Request method target) fields rest good_start good_fields = absurd good_start
head_again of_responses (Response status) fields rest good_start good_fields =
    let all = good status good_start.0 good_start.1 in
    let three = and_left (length (decimal status) == 3) (list_all is_ascii_digit (decimal status)
    && (digits_value 10 (decimal status) == status && list_all is_value_byte (phrase status))) all in
    let behind = and_right (length (decimal status) == 3) (list_all is_ascii_digit (decimal status)
    && (digits_value 10 (decimal status) == status && list_all is_value_byte (phrase status))) all in
    let all_digits = and_left (list_all is_ascii_digit (decimal status))
    (digits_value 10 (decimal status) == status && list_all is_value_byte (phrase status)) behind in
    let last = and_right (list_all is_ascii_digit (decimal status))
    (digits_value 10 (decimal status) == status && list_all is_value_byte (phrase status)) behind in
    let value = and_left (digits_value 10 (decimal status) == status) (list_all is_value_byte (phrase status)) last in
    let reason = and_right (digits_value 10 (decimal status) == status) (list_all is_value_byte (phrase status)) last in (
      response_head_of status fields,
      (
        record {
          minor = omega arith;
          digits = (eqb-true (length (decimal status)) 3 three, from_all is_ascii_digit (decimal status) all_digits);
          reason = from_all is_value_byte (phrase status) reason;
          fields = lines_good fields good_fields;
        },
        refl,
      ),
      ap (λ n. said_text (Response n) fields) (sym (eqb-true (digits_value 10 (decimal status)) status value))
          ∙ ap (λ fs. said_text (Response (digits_value 10 (decimal status))) fs) (sym (fields_again fields good_fields)),
    )

-- ---- the message

body_again : (content rest : List ℕ) → BodyFramed (Known (length content)) (content ++ rest) (body content rest)
body_again content rest = ((content, (refl, refl), refl), λ past. past)

pub written_is_read : (side : MessageSide) → WrittenIsRead side
unfolding said_text
written_is_read side said rest good_message =
    let bytes = append_assoc (written_head said.head) said.body rest in (
      said.body ++ rest,
      (
        record { head = said.head; minor = 1 },
        record {
          reads = subst (λ bs. ReadsHead side bs (record { head = said.head; minor = 1 }) (said.body ++ rest)) (sym bytes)
              (head_again side said.head.start said.head.fields (said.body ++ rest) good_message.start good_message.fields);
          within = let whole = ap length bytes in
              let parts = length-append (written_head said.head) (said.body ++ rest) in
              let short = good_message.short in omega arith;
        },
        good_message.taken,
        refl,
      ),
      subst (λ left. BodyFramed left (said.body ++ rest) (body said.body rest)) (sym good_message.body) (body_again said.body rest),
    )
