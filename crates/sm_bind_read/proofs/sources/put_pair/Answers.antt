use Rattle.std.proofs.Common.{◌≡◌, ◌++◌, subst, ◌∙◌}
use Rattle.std.proofs.lemmas.Str.{is_utf8-from_IsUtf8}
use Rattle.std.specs.Prelude.{OnOk}
use Rattle.std.specs.Str.{IsUtf8, is_utf8}
use Rattle.sm_codec.proofs.PlainLeaves.{not_utf8}
use Rattle.sm_bind_read.proofs.PartsPut.{row_left, row_put}
use Rattle.sm_bind_read.proofs.sources.put_pair.Goals as goal

pub returns-in-Ok : goal.returns-in-Ok
returns-in-Ok c =
    let pair = c.args.pair.now in
    let text = is_utf8-from_IsUtf8 pair.0 (subst IsUtf8 c.as_slice.ensures c.in-Ok.ensures.cases.1) in
    subst (λ ts. OnOk c.put_row.result (c.put_row.new.rows.items ≡ c.args.rows.now.items ++ ts))
    (row_put (is_utf8 pair.0) pair c.in-Ok.key.now c.as_slice-in-Ok.result.now text (c.in-Ok.ensures.cases.0 ∙ c.as_slice.ensures)
    c.as_slice-in-Ok.ensures) c.put_row.ensures

pub returns-in-Err : goal.returns-in-Err
returns-in-Err c =
    let pair = c.args.pair.now in
    row_left (is_utf8 pair.0) pair c.args.rows.now.items
    (not_utf8 pair.0 (subst (λ u. IsUtf8 u → ⊥) c.as_slice.ensures c.in-Err.ensures.cases.0))
