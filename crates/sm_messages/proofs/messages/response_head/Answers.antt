use Rattle.std.proofs.Common.{◌≡◌, ◌++◌, [], ◌∷◌, ap, sym, ◌∙◌}
use Rattle.sm_http.specs.declared.message.Start.TheVariants.{Response}
use Rattle.sm_http.specs.steps.Printing.{fields_text, start_text}
use Rattle.sm_messages.specs.Heads.{is_empty}
use Rattle.sm_messages.specs.WrittenHeads.{fields_given, length_fields, type_fields}
use Rattle.sm_messages.proofs.WrittenTexts.{parts_of, response_put}
use Rattle.sm_messages.proofs.messages.response_head.Goals as goal

pub returns : goal.returns
returns c =
    let type = c.args.content_type.now in
    let more = fields_given c.args.more.now in
    let body = c.args.body.now in
    let second = c.in_ok-put_type.ensures
    ∙ ap (λ e. c.put_response_start.new.head.items ++ fields_text (type_fields e type)) c.is_empty.ensures in
    let fields = (type_fields (is_empty body) type ++ more) ++ length_fields c.args.status body in
    let start = Response c.args.status in
    let put : c.extend_from_slice.new.self.items ≡ start_text start ++ (fields_text fields ++ 13 ∷ 10 ∷ []) =
    response_put c.in_ok-head.head.items c.put_response_start.new.head.items c.put_type.new.head.items c.put_given.new.head.items
    c.put_lengths.new.head.items c.extend_from_slice.new.self.items (start_text (Response c.args.status)) (13 ∷ 10 ∷ [])
    (type_fields (is_empty body) type) more (length_fields c.args.status body) c.in_ok-head.ensures.items
    c.in_ok-put_response_start.ensures second c.in_ok-put_given.ensures c.in_ok-put_lengths.ensures
    c.in_ok-extend_from_slice.ensures.items
    in
    put ∙ parts_of start fields
