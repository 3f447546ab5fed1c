use Rattle.std.proofs.Common.{◌≡◌, ◌++◌, ap, rules, sym, ◌∙◌}
use Rattle.std.specs.Prelude.{codes}
use Rattle.sm_bodies.proofs.BodiesFed.{on_ok}
use Rattle.sm_http.specs.steps.Printing.{field_text, fields_text}
use Rattle.sm_messages.specs.WrittenHeads.{field_of, type_fields}
use Rattle.sm_messages.proofs.WrittenTexts.{one_line}
use Rattle.sm_messages.proofs.messages.put_type.Goals as goal

pub returns-in-false : goal.returns-in-false
returns-in-false c =
    let old = c.args.head.now.items in
    let type = c.args.content_type.now in
    let name = codes "content-type" in
    let same : c.as_bytes.result.now ≡ c.args.content_type.now = search rules in
    on_ok c.put_field.result c.put_field.ensures (λ put. put ∙ ap (λ b. old ++ field_text (field_of name b)) same
    ∙ ap (λ t. old ++ t) (sym (one_line (field_of name type)) ∙ ap (λ e. fields_text (type_fields e type)) (sym c.in-false.is)))
