use Rattle.std.proofs.Common.{◌≡◌, ◌++◌, [], ◌∷◌, ap, rules, sym, ◌∙◌}
use Rattle.std.specs.Prelude.{codes}
use Rattle.sm_http.specs.declared.message.Start.TheVariants.{Request}
use Rattle.sm_http.specs.steps.Printing.{field_text, fields_text, start_text}
use Rattle.sm_messages.specs.Heads.{is_empty}
use Rattle.sm_messages.specs.WrittenHeads.{field_of, fields_given, length_field, type_fields}
use Rattle.sm_messages.proofs.WrittenTexts.{parts_of, request_put}
use Rattle.sm_messages.proofs.messages.request_head.Goals as goal

pub returns : goal.returns
returns c =
    let host = c.args.host.now in
    let type = c.args.content_type.now in
    let more = fields_given c.args.more.now in
    let body = c.args.body.now in
    let same : c.as_bytes.result.now ≡ c.args.host.now = search rules in
    let first = c.in_ok-put_field.ensures ∙ ap (λ b. c.put_request_start.new.head.items ++ field_text (field_of (codes "host") b)) same in
    let second = c.in_ok-put_type.ensures
    ∙ ap (λ e. c.put_field.new.head.items ++ fields_text (type_fields e type)) c.is_empty.ensures in
    let fields = field_of (codes "host") host ∷ ((type_fields (is_empty body) type ++ more) ++ length_field body ∷ []) in
    let start = Request c.args.method.now c.args.target.now in
    let put : c.extend_from_slice.new.self.items ≡ start_text start ++ (fields_text fields ++ 13 ∷ 10 ∷ []) =
    request_put c.in_ok-head.head.items c.put_request_start.new.head.items c.put_field.new.head.items c.put_type.new.head.items
    c.put_given.new.head.items c.put_length.new.head.items c.extend_from_slice.new.self.items
    (start_text (Request c.args.method.now c.args.target.now)) (13 ∷ 10 ∷ []) (field_of (codes "host") host) (length_field body)
    (type_fields (is_empty body) type) more c.in_ok-head.ensures.items c.in_ok-put_request_start.ensures first second
    c.in_ok-put_given.ensures c.in_ok-put_length.ensures c.in_ok-extend_from_slice.ensures.items
    in
    put ∙ parts_of start fields
