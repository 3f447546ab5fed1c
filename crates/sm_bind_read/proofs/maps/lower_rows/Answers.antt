use Rattle.std.proofs.Common.{◌+◌, ◌∷◌, [], ◌++◌, ap, drop, sym, ◌∙◌}
use Rattle.sm_bind.specs.BoundView.{bound_of}
use Rattle.sm_bind_read.specs.Parts.{prefixed_texts}
use Rattle.sm_bind_read.proofs.MapRows.{one_prefixed}
use Rattle.sm_bind_read.proofs.MembersJoined.{next_is}
use Rattle.sm_bind_read.proofs.PartsPut.{put_on}
use Rattle.sm_bind_read.proofs.maps.lower_rows.Goals as goal

pub loop-field-preserved : goal.loop-field-preserved
loop-field-preserved c =
    let fields = c.args.fields.now in
    let b = bound_of c.args.place.now in
    let lower = c.args.prefix.now in
    let one = c.field-item.result in
    let rest = drop (c.loop-field.field-index + 1) fields in
    let parts = next_is fields c.loop-field.field-index one c.loop-field-test.true c.field-item.is in
    put_on c.loop-field.rows.items c.put_prefixed.new.rows.items (prefixed_texts b lower (one ∷ [])) (prefixed_texts b lower rest)
    (prefixed_texts b lower (one ∷ rest)) (prefixed_texts b lower fields) c.in_ok-put_prefixed.ensures (one_prefixed b lower one rest)
    (ap (λ fs. c.loop-field.rows.items ++ prefixed_texts b lower fs) (sym parts) ∙ c.loop-field.invariant)
