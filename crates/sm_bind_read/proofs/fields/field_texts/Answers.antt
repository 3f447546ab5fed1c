use Rattle.std.proofs.Common.{◌+◌, ◌∷◌, [], ◌++◌, ap, drop, sym, ◌∙◌}
use Rattle.sm_http.specs.FieldValues.{values_named}
use Rattle.sm_parts.specs.HeaderLists.{filled}
use Rattle.sm_bind_read.proofs.MembersJoined.{next_is}
use Rattle.sm_bind_read.proofs.PartsPut.{named_on, put_on}
use Rattle.sm_bind_read.proofs.fields.field_texts.Goals as goal

pub loop-field-preserved : goal.loop-field-preserved
loop-field-preserved c =
    let fields = c.args.fields.now in
    let name = c.args.name.now in
    let one = c.field-item.result in
    let rest = drop (c.loop-field.field-index + 1) fields in
    let parts = next_is fields c.loop-field.field-index one c.loop-field-test.true c.field-item.is in
    put_on c.loop-field.texts.items c.put_named.new.texts.items (filled (values_named name (one ∷ []))) (filled (values_named name rest))
    (filled (values_named name (one ∷ rest))) (filled (values_named name fields)) c.in_ok-put_named.ensures (named_on name one rest)
    (ap (λ fs. c.loop-field.texts.items ++ filled (values_named name fs)) (sym parts) ∙ c.loop-field.invariant)
