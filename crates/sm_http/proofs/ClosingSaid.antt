-- What a message with `connection: close` says, and what is written to answer `HEAD`.
use Rattle.std.proofs.Common.{◌≡◌, ℕ, List, [], ◌∷◌, Bool, true, false, ◌||◌, refl, ap, ◌∙◌, append-nil}
use Rattle.std.specs.Prelude.{if◌then◌else◌, codes}
use Rattle.std.specs.Str.{str_eq_ignore_ascii_case}
use Rattle.httparse.specs.Grammar.{trim_ows, is_token_byte}
use Rattle.sm_http.specs.declared.message.Field.{Field}
use Rattle.sm_http.specs.declared.message.Head.{Head}
use Rattle.sm_http.specs.declared.message.Message.{Message}
use Rattle.sm_http.specs.FieldValues.{values_named}
use Rattle.sm_http.specs.FieldLists.{lists_token, has_token}
use Rattle.sm_http.specs.Connections.{close_field, is_length_field, fields_with_close}
use Rattle.sm_http.specs.Written.{written, written_head}
use Rattle.sm_http.specs.Laws.{SaysItCloses, KeepsOtherFields, AnswersHeadAlone}

-- ---- it says so

abbrev ends_so : List (List ℕ) → Bool
ends_so values = has_token (codes "close") values

abbrev fields_end_so : List Field → Bool
fields_end_so fs = ends_so (values_named (codes "connection") fs)

or_true : (b : Bool) → (b || true) ≡ true
or_true true = refl
or_true false = refl

close_listed : lists_token (codes "close") (codes "close") ≡ true
unfolding trim_ows is_token_byte
close_listed = refl

first_closes : (fs : List Field) → fields_end_so (close_field ∷ fs) ≡ true
first_closes fs = ap (λ b. b || fields_end_so fs) close_listed

behind_first : (f : Field) (fs : List Field) (named : Bool) → str_eq_ignore_ascii_case f.name (codes "connection") ≡ named
    → fields_end_so fs ≡ true → fields_end_so (f ∷ fs) ≡ true
behind_first f fs true e closes =
    let values = values_named (codes "connection") fs in
    ap (λ t. ends_so (if t then f.value ∷ values else values)) e
    ∙ ap (λ b. lists_token (codes "close") f.value || b) closes ∙ or_true (lists_token (codes "close") f.value)
behind_first f fs false e closes =
    let values = values_named (codes "connection") fs in
    ap (λ t. ends_so (if t then f.value ∷ values else values)) e ∙ closes

one_closes : (f : Field) (is : Bool) → fields_end_so (if is then close_field ∷ f ∷ [] else f ∷ close_field ∷ []) ≡ true
one_closes f true = first_closes (f ∷ [])
one_closes f false = behind_first f (close_field ∷ []) (str_eq_ignore_ascii_case f.name (codes "connection")) refl (first_closes [])

fields_close : (fs : List Field) → fields_end_so (fields_with_close fs) ≡ true
fields_close [] = first_closes []
fields_close (f ∷ []) = one_closes f (is_length_field f)
fields_close (f ∷ g ∷ fs) =
    behind_first f (fields_with_close (g ∷ fs)) (str_eq_ignore_ascii_case f.name (codes "connection")) refl (fields_close (g ∷ fs))

pub says_it_closes : (said : Message) → SaysItCloses said
says_it_closes said = fields_close said.head.fields

-- ---- fields of other names stay

module _ (name : List ℕ) (other : str_eq_ignore_ascii_case (codes "connection") name ≡ false) where
  passed_over : (fs : List Field) → values_named name (close_field ∷ fs) ≡ values_named name fs
  passed_over fs = ap (λ t. if t then codes "close" ∷ values_named name fs else values_named name fs) other

  behind : (f : Field) (fs gs : List Field) → values_named name fs ≡ values_named name gs
      → values_named name (f ∷ fs) ≡ values_named name (f ∷ gs)
  behind f fs gs e = ap (λ values. if str_eq_ignore_ascii_case f.name name then f.value ∷ values else values) e

  one_stays : (f : Field) (is : Bool)
      → values_named name (if is then close_field ∷ f ∷ [] else f ∷ close_field ∷ []) ≡ values_named name (f ∷ [])
  one_stays f true = passed_over (f ∷ [])
  one_stays f false = behind f (close_field ∷ []) [] (passed_over [])

  fields_stay : (fs : List Field) → values_named name (fields_with_close fs) ≡ values_named name fs
  fields_stay [] = passed_over []
  fields_stay (f ∷ []) = one_stays f (is_length_field f)
  fields_stay (f ∷ g ∷ fs) = behind f (fields_with_close (g ∷ fs)) (g ∷ fs) (fields_stay (g ∷ fs))

pub keeps_other_fields : (said : Message) → KeepsOtherFields said
keeps_other_fields said = λ name other. fields_stay name other said.head.fields

-- ---- `HEAD`

pub answers_head_alone : (asked : Head) → AnswersHeadAlone asked
answers_head_alone asked = λ answer asks.
    ap (λ t. written (if t then record { head = answer.head; body = [] } else answer)) asks ∙ append-nil (written_head answer.head)
