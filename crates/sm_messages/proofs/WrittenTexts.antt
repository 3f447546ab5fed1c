-- Written heads by their parts, as they are put one after the other.
use Rattle.std.proofs.Common.{◌≡◌, ℕ, List, [], ◌∷◌, ◌++◌, refl, sym, ap, ◌∙◌, append_assoc}
use Rattle.std.proofs.lemmas.List.{append-nil}
use Rattle.sm_http.specs.Written.{written_from, written_head}
use Rattle.sm_http.specs.declared.message.Field.{Field}
use Rattle.sm_http.specs.declared.message.Head.{Head}
use Rattle.sm_http.specs.declared.message.Start.{Start}
use Rattle.sm_http.specs.steps.Printing.{field_text, fields_text, start_text}
use Rattle.sm_http.proofs.Printed.{written_parts}

pub head_parts : (h : Head) → written_head h ≡ start_text h.start ++ (fields_text h.fields ++ 13 ∷ 10 ∷ [])
head_parts h = sym (append-nil (written_head h)) ∙ written_parts (record { head = h; body = [] })

pub parts_of : (start : Start) (fields : List Field)
    → start_text start ++ (fields_text fields ++ 13 ∷ 10 ∷ []) ≡ written_from start fields
parts_of start fields = sym (head_parts (record { start = start; fields = fields }))

-- the lines of two lists of fields, and what is behind them
fields_end : (fs gs : List Field) (rest : List ℕ) → fields_text (fs ++ gs) ++ rest ≡ fields_text fs ++ (fields_text gs ++ rest)
fields_end [] gs rest = refl
fields_end (f ∷ fs) gs rest =
    append_assoc (field_text f) (fields_text (fs ++ gs)) rest ∙ ap (λ t. field_text f ++ t) (fields_end fs gs rest)
    ∙ sym (append_assoc (field_text f) (fields_text fs) (fields_text gs ++ rest))

one_end : (f : Field) (rest : List ℕ) → fields_text (f ∷ []) ++ rest ≡ field_text f ++ rest
one_end f rest = append_assoc (field_text f) [] rest

pub one_line : (f : Field) → fields_text (f ∷ []) ≡ field_text f
one_line f = append-nil (field_text f)

-- a first field, then three lists
pub first_put : (start : List ℕ) (first : Field) (type more last : List Field) (rest : List ℕ)
    → ((((start ++ field_text first) ++ fields_text type) ++ fields_text more) ++ fields_text last) ++ rest
    ≡ start ++ (fields_text (first ∷ (type ++ (more ++ last))) ++ rest)
first_put start first type more last rest =
    let here = field_text first in
    let left =
    append_assoc (((start ++ here) ++ fields_text type) ++ fields_text more) (fields_text last) rest
    ∙ append_assoc ((start ++ here) ++ fields_text type) (fields_text more) (fields_text last ++ rest)
    ∙ append_assoc (start ++ here) (fields_text type) (fields_text more ++ (fields_text last ++ rest))
    ∙ append_assoc start here (fields_text type ++ (fields_text more ++ (fields_text last ++ rest)))
    in
    let right =
    append_assoc here (fields_text (type ++ (more ++ last))) rest
    ∙ ap (λ t. here ++ t) (fields_end type (more ++ last) rest ∙ ap (λ t. fields_text type ++ t) (fields_end more last rest))
    in
    left ∙ ap (λ t. start ++ t) (sym right)

-- three lists
pub three_put : (start : List ℕ) (type more last : List Field) (rest : List ℕ)
    → (((start ++ fields_text type) ++ fields_text more) ++ fields_text last) ++ rest
    ≡ start ++ (fields_text (type ++ (more ++ last)) ++ rest)
three_put start type more last rest =
    append_assoc ((start ++ fields_text type) ++ fields_text more) (fields_text last) rest
    ∙ append_assoc (start ++ fields_text type) (fields_text more) (fields_text last ++ rest)
    ∙ append_assoc start (fields_text type) (fields_text more ++ (fields_text last ++ rest))
    ∙ ap (λ t. start ++ t)
    (sym (fields_end type (more ++ last) rest ∙ ap (λ t. fields_text type ++ t) (fields_end more last rest)))

-- a head put part by part into an empty vector
pub request_put : (e s f t m l x start end : List ℕ) (first last : Field) (type more : List Field) → e ≡ [] → s ≡ e ++ start
    → f ≡ s ++ field_text first → t ≡ f ++ fields_text type → m ≡ t ++ fields_text more → l ≡ m ++ field_text last → x ≡ l ++ end
    → x ≡ start ++ (fields_text (first ∷ ((type ++ more) ++ last ∷ [])) ++ end)
request_put e s f t m l x start end first last type more he hs hf ht hm hl hx =
    let all = ((start ++ field_text first) ++ fields_text type) ++ fields_text more in
    let three = hm ∙ ap (λ z. z ++ fields_text more) (ht ∙ ap (λ z. z ++ fields_text type) (hf ∙ ap (λ z. z ++ field_text first)
    (hs ∙ ap (λ z. z ++ start) he))) in
    let four = hl ∙ ap (λ z. z ++ field_text last) three ∙ ap (λ y. all ++ y) (sym (one_line last)) in
    hx ∙ ap (λ z. z ++ end) four ∙ first_put start first type more (last ∷ []) end
    ∙ ap (λ fs. start ++ (fields_text (first ∷ fs) ++ end)) (sym (append_assoc type more (last ∷ [])))

pub response_put : (e s t m l x start end : List ℕ) (type more last : List Field) → e ≡ [] → s ≡ e ++ start → t ≡ s ++ fields_text type
    → m ≡ t ++ fields_text more → l ≡ m ++ fields_text last → x ≡ l ++ end
    → x ≡ start ++ (fields_text ((type ++ more) ++ last) ++ end)
response_put e s t m l x start end type more last he hs ht hm hl hx =
    let three = hm ∙ ap (λ z. z ++ fields_text more) (ht ∙ ap (λ z. z ++ fields_text type) (hs ∙ ap (λ z. z ++ start) he)) in
    hx ∙ ap (λ z. z ++ end) (hl ∙ ap (λ z. z ++ fields_text last) three) ∙ three_put start type more last end
    ∙ ap (λ fs. start ++ (fields_text fs ++ end)) (sym (append_assoc type more last))
