-- The written text is its parts, one after the other.
use Rattle.std.proofs.Common.{◌≡◌, ℕ, List, [], ◌∷◌, ◌++◌, map, refl, sym, ap, ◌∙◌, append_assoc, Some}
use Rattle.std.specs.Prelude.{codes, decimal}
use Rattle.std.specs.List.{flat_map}
use Rattle.httparse.specs.Ascii.{crlf_bytes}
use Rattle.httparse.specs.Grammar.{crlf, print_field}
use Rattle.httparse.proofs.GrammarLemmas.{print_request-append, print_response-append}
use Rattle.sm_http.specs.declared.message.Field.{Field}
use Rattle.sm_http.specs.declared.message.Message.{Message}
use Rattle.sm_http.specs.declared.message.Start.{Start}
use Rattle.sm_http.specs.declared.message.Start.TheVariants.{Request, Response}
use Rattle.sm_http.specs.Written.{line_of, phrase, written_from, written}
use Rattle.sm_http.specs.steps.Printing.{field_text, fields_text, start_text, message_text}

field_printed : (f : Field) → print_field (line_of f) ≡ field_text f
field_printed f = append_assoc f.name (58 ∷ 32 ∷ f.value) crlf_bytes

fields_printed : (fs : List Field) → flat_map print_field (map line_of fs) ≡ fields_text fs
fields_printed [] = refl
fields_printed (f ∷ fs) =
    ap (λ t. t ++ flat_map print_field (map line_of fs)) (field_printed f) ∙ ap (λ t. field_text f ++ t) (fields_printed fs)

section_printed : (fs : List Field) (rest : List ℕ) → (flat_map print_field (map line_of fs) ++ crlf_bytes) ++ rest ≡ fields_text fs
    ++ 13 ∷ 10 ∷ rest
section_printed fs rest =
    append_assoc (flat_map print_field (map line_of fs)) crlf_bytes rest ∙ ap (λ t. t ++ 13 ∷ 10 ∷ rest) (fields_printed fs)

from_parts : (start : Start) (fs : List Field) (rest : List ℕ)
    → written_from start fs ++ rest ≡ start_text start ++ (fields_text fs ++ 13 ∷ 10 ∷ rest)
from_parts (Request method target) fs rest =
    let behind = fields_text fs ++ 13 ∷ 10 ∷ rest in
    let version = codes " HTTP/1.1" ++ 13 ∷ 10 ∷ [] in
    print_request-append (record {
      blank = [];
      method = method;
      target = target;
      minor = 1;
      line_end = crlf;
      fields = map line_of fs;
      last = crlf;
    }) rest
    ∙ ap (λ t. method ++ 32 ∷ (target ++ (version ++ t))) (section_printed fs rest)
    ∙ sym (append_assoc method (32 ∷ (target ++ version)) behind ∙ ap (λ t. method ++ 32 ∷ t) (append_assoc target version behind))
from_parts (Response status) fs rest =
    let behind = fields_text fs ++ 13 ∷ 10 ∷ rest in
    let digits = decimal status in
    let words = phrase status in
    print_response-append (record {
      blank = [];
      minor = 1;
      digits = digits;
      reason = Some words;
      line_end = crlf;
      fields = map line_of fs;
      last = crlf;
    }) rest
    ∙ ap (λ t. codes "HTTP/1.1 " ++ (digits ++ 32 ∷ (words ++ 13 ∷ 10 ∷ t))) (section_printed fs rest)
    ∙ sym (ap (λ t. codes "HTTP/1.1 " ++ t) (append_assoc digits (32 ∷ (words ++ 13 ∷ 10 ∷ [])) behind
    ∙ ap (λ t. digits ++ 32 ∷ t) (append_assoc words (13 ∷ 10 ∷ []) behind)))

pub written_parts : (m : Message) → written m ≡ message_text m
written_parts m = from_parts m.head.start m.head.fields m.body
