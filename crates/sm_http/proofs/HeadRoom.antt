-- A head of 16,384 bytes has no more than 5,500 fields.
use Rattle.std.proofs.Common.{ℕ, ◌*◌, ◌≤◌, List, [], ◌∷◌, ◌++◌, ◌≡◌, ◌<◌, length, sym, ap, subst, arith}
use Rattle.std.specs.Prelude.{All}
use Rattle.std.proofs.lemmas.List.{length-append}
use Rattle.std.proofs.lemmas.List.Elements.{All-head, All-tail}
use Rattle.std.specs.List.{flat_map}
use Rattle.httparse.specs.Grammar.{Field, IsField, print_field, LineEnd, crlf, lf, print_end, print_blank, print_version, print_section}
use Rattle.httparse.specs.Grammar.{print_reason, RequestHead, print_request, ResponseHead, print_response}
use Rattle.httparse.proofs.GrammarLemmas.{print_request-append, print_response-append}
use Rattle.sm_http.specs.declared.message.MessageSide.{MessageSide}
use Rattle.sm_http.specs.declared.message.MessageSide.TheVariants.{Request as of_requests, Response as of_responses}
use Rattle.sm_http.specs.Limits.{head_limit}
use Rattle.sm_http.specs.steps.Finding.{HeadExceeds}

behind : (a b : List ℕ) (n : ℕ) → n ≤ length b → n ≤ length (a ++ b)
behind a b n le = let sum = length-append a b in omega arith

before : (a b : List ℕ) (n : ℕ) → n ≤ length a → n ≤ length (a ++ b)
before a b n le = let sum = length-append a b in omega arith

end_some : (end : LineEnd) → 1 ≤ length (print_end end)
end_some crlf = omega arith
end_some lf = omega arith

field_some : (f : Field) → IsField f → 3 ≤ length (print_field f)
field_some f field =
    let whole = length-append (f.name ++ 58 ∷ f.raw) (print_end f.end) in
    let front = length-append f.name (58 ∷ f.raw) in
    let name = field.name.0 in
    let end = end_some f.end in
    omega arith

fields_some : (fs : List Field) → All IsField fs → 3 * length fs ≤ length (flat_map print_field fs)
fields_some [] all = omega arith
fields_some (f ∷ fs) all =
    let first = field_some f (All-head IsField f fs all) in
    let rest = fields_some fs (All-tail IsField f fs all) in
    let whole = length-append (print_field f) (flat_map print_field fs) in
    omega arith

section_some : (fs : List Field) (last : LineEnd) (rest : List ℕ) → All IsField fs → 3 * length fs ≤ length (print_section fs last ++ rest)
section_some fs last rest all =
    before (print_section fs last) rest (3 * length fs) (before (flat_map print_field fs) (print_end last) (3 * length fs)
    (fields_some fs all))

request_some : (h : RequestHead) (rest : List ℕ) → All IsField h.fields → 3 * length h.fields ≤ length (print_request h ++ rest)
request_some h rest all =
    let n = 3 * length h.fields in
    let tail = print_end h.line_end ++ (print_section h.fields h.last ++ rest) in
    let in_end = behind (print_end h.line_end) (print_section h.fields h.last ++ rest) n (section_some h.fields h.last rest all) in
    let in_version = behind (print_version h.minor) tail n in_end in
    let in_target = behind h.target (32 ∷ (print_version h.minor ++ tail)) n (let more = in_version in omega arith) in
    let in_method = behind h.method (32 ∷ (h.target ++ 32 ∷ (print_version h.minor ++ tail))) n (let more = in_target in omega arith) in
    let in_blank = behind (print_blank h.blank) _ n in_method in
    subst (λ bs. n ≤ length bs) (sym (print_request-append h rest)) in_blank

response_some : (h : ResponseHead) (rest : List ℕ) → All IsField h.fields → 3 * length h.fields ≤ length (print_response h ++ rest)
response_some h rest all =
    let n = 3 * length h.fields in
    let tail = print_end h.line_end ++ (print_section h.fields h.last ++ rest) in
    let in_end = behind (print_end h.line_end) (print_section h.fields h.last ++ rest) n (section_some h.fields h.last rest all) in
    let in_reason = behind (print_reason h.reason) tail n in_end in
    let in_code = behind h.digits (print_reason h.reason ++ tail) n in_reason in
    let in_version = behind (print_version h.minor) (32 ∷ (h.digits ++ (print_reason h.reason ++ tail))) n
    (let more = in_code in omega arith) in
    let in_blank = behind (print_blank h.blank) _ n in_version in
    subst (λ bs. n ≤ length bs) (sym (print_response-append h rest)) in_blank

-- a head of more fields than the limit of a head has room for
too_many : (bytes front rest text : List ℕ) (count : ℕ) → length bytes ≤ head_limit → bytes ≡ front ++ rest
    → 3 * count ≤ length (text ++ [])
    → front ++ print_end lf ≡ text ++ [] → 5500 < count → ⊥
too_many bytes front rest text count short cut long is many =
    let same = ap length is in
    let whole = ap length cut in
    let parts = length-append front rest in
    let line = length-append front (print_end lf) in
    omega arith

pub never_exceeds : (side : MessageSide) (bytes : List ℕ) → length bytes ≤ head_limit → HeadExceeds side 5500 bytes → ⊥
never_exceeds of_requests bytes short x =
    too_many bytes x.0 x.1 (print_request x.3) (length x.3.fields) short x.2 (request_some x.3 [] x.4.0.fields) x.4.1 x.5
never_exceeds of_responses bytes short x =
    too_many bytes x.0 x.1 (print_response x.3) (length x.3.fields) short x.2 (response_some x.3 [] x.4.0.fields) x.4.1 x.5
