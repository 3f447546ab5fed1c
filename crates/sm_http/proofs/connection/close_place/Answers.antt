use Rattle.std.proofs.Common.{sym, ◌∙◌}
use Rattle.sm_http.proofs.ClosePlaced.{place_of_length, place_of_other}
use Rattle.sm_http.proofs.connection.close_place.Goals as goal

pub returns-then-is_length_field-clause-place : goal.returns-then-is_length_field-clause-place
returns-then-is_length_field-clause-place c =
    place_of_length c.args.fields.now c.last-item.result c.in-len1-up.len_at_least c.last-item.is
    (sym c.is_length_field.ensures ∙ c.if-is_length_field.true)

pub returns-else-is_length_field-clause-place : goal.returns-else-is_length_field-clause-place
returns-else-is_length_field-clause-place c =
    place_of_other c.args.fields.now c.last-item.result c.in-len1-up.len_at_least c.last-item.is
    (sym c.is_length_field.ensures ∙ c.if-is_length_field.false)
