use Rattle.std.proofs.Common.{◌≡◌, ◌++◌, false, sym, ap, subst, ◌∙◌}
use Rattle.std.proofs.lemmas.Str.{is_utf8-from_IsUtf8}
use Rattle.std.specs.Prelude.{OnOk}
use Rattle.std.specs.Str.{IsUtf8, is_utf8}
use Rattle.sm_codec.proofs.PlainLeaves.{not_utf8}
use Rattle.sm_bind_read.specs.steps.Sources.{is_free}
use Rattle.sm_bind_read.specs.steps.Taken.{has_text}
use Rattle.sm_bind_read.proofs.PartsPut.{both_hold, first_fails, row_left, row_put}
use Rattle.sm_bind_read.proofs.maps.put_free.Goals as goal

pub returns-else-contains : goal.returns-else-contains
returns-else-contains c =
    let pair = c.args.pair.now in
    let taken = has_text c.args.taken.now in
    let same = c.in-Ok.ensures.cases.0 ∙ c.as_slice.ensures in
    let text = is_utf8-from_IsUtf8 pair.0 (subst IsUtf8 c.as_slice.ensures c.in-Ok.ensures.cases.1) in
    let free : taken pair.0 ≡ false = ap taken (sym same) ∙ sym c.contains.ensures ∙ c.if-contains.false in
    subst (λ ts. OnOk c.put_row.result (c.put_row.new.rows.items ≡ c.args.rows.now.items ++ ts))
    (row_put (is_free taken pair) pair c.in-Ok.key.now c.as_slice-in-Ok.result.now (both_hold (is_utf8 pair.0) (taken pair.0) text free) same
    c.as_slice-in-Ok.ensures) c.put_row.ensures

pub returns-in-Err : goal.returns-in-Err
returns-in-Err c =
    let pair = c.args.pair.now in
    let taken = has_text c.args.taken.now in
    row_left (is_free taken pair) pair c.args.rows.now.items
    (first_fails (is_utf8 pair.0) (taken pair.0)
    (not_utf8 pair.0 (subst (λ u. IsUtf8 u → ⊥) c.as_slice.ensures c.in-Err.ensures.cases.0)))
