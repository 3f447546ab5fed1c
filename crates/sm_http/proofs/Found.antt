-- What httparse's slices say of a head, as a head of this crate.
use Rattle.std.proofs.Common.{◌≡◌, ℕ, ◌+◌, ◌≤◌, List, ◌++◌, length, map, drop, sym, ap, ◌∙◌, arith, Option, Some}
use Rattle.std.proofs.lemmas.List.{length-append}
use Rattle.std.proofs.lemmas.Simd.{map-map}
use Rattle.httparse.specs.declared.borrowed.Header.{Header}
use Rattle.httparse.specs.Borrowed.{header_parts, AreFields}
use Rattle.httparse.specs.Grammar.{RequestHead, ResponseHead, status_code}
use Rattle.httparse.specs.Grammar.{Field as FieldLine}
use Rattle.httparse.specs.Spans.{name_and_value}
use Rattle.sm_http.specs.declared.message.Field.{Field}
use Rattle.sm_http.specs.declared.message.Start.{Start}
use Rattle.sm_http.specs.declared.message.Start.TheVariants.{Request, Response}
use Rattle.sm_http.specs.Heads.{HeadText, field_of, request_text, response_text}
use Rattle.sm_http.specs.steps.Finding.{header_field}

abbrev field_from : List ℕ × List ℕ → Field
field_from parts = record { name = parts.0; value = parts.1 }

abbrev text_from : Start → List Field → ℕ → HeadText
text_from start fields minor = record { head = record { start = start; fields = fields }; minor = minor }

same_fields : (hs : List Header) (fs : List FieldLine) → AreFields hs fs → map header_field hs ≡ map field_of fs
same_fields hs fs e = sym (map-map field_from header_parts hs) ∙ ap (map field_from) e ∙ map-map field_from name_and_value fs

pub found_request : (h : RequestHead) (m t : List ℕ) (minor : ℕ) (fs : List Field) (hs : List Header)
    → ◌≡◌ {A = Option (List ℕ)} (Some m) (Some h.method) → ◌≡◌ {A = Option (List ℕ)} (Some t) (Some h.target)
    → ◌≡◌ {A = Option ℕ} (Some minor) (Some h.minor)
    → fs ≡ map header_field hs → AreFields hs h.fields → text_from (Request m t) fs minor ≡ request_text h
found_request h m t minor fs hs em et ev ef parts =
    let method : m ≡ h.method = cc in
    let target : t ≡ h.target = cc in
    let version : minor ≡ h.minor = cc in
    ap (λ x. text_from (Request x t) fs minor) method ∙ ap (λ x. text_from (Request h.method x) fs minor) target
    ∙ ap (λ x. text_from (Request h.method h.target) x minor) (ef ∙ same_fields hs h.fields parts)
    ∙ ap (λ x. text_from (Request h.method h.target) (map field_of h.fields) x) version

pub found_response : (h : ResponseHead) (status minor : ℕ) (fs : List Field) (hs : List Header)
    → ◌≡◌ {A = Option ℕ} (Some status) (Some (status_code h)) → ◌≡◌ {A = Option ℕ} (Some minor) (Some h.minor)
    → fs ≡ map header_field hs → AreFields hs h.fields → text_from (Response status) fs minor ≡ response_text h
found_response h status minor fs hs es ev ef parts =
    let code : status ≡ status_code h = cc in
    let version : minor ≡ h.minor = cc in
    ap (λ x. text_from (Response x) fs minor) code
    ∙ ap (λ x. text_from (Response (status_code h)) x minor) (ef ∙ same_fields hs h.fields parts)
    ∙ ap (λ x. text_from (Response (status_code h)) (map field_of h.fields) x) version

-- a printed part and the rest behind its length
pub part_fits : (bytes part : List ℕ) (len : ℕ) → bytes ≡ part ++ drop len bytes → len ≡ length part → len ≤ length bytes
part_fits bytes part len e is =
    let whole : length bytes ≡ length part + length (drop len bytes) = ap length e ∙ length-append part (drop len bytes) in
    omega arith
