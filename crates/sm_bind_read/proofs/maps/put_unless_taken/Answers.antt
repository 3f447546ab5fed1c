use Rattle.std.proofs.Common.{◌≡◌, ◌∷◌, [], ◌++◌, sym, ap, subst, ◌∙◌}
use Rattle.std.proofs.lemmas.List.{append-nil}
use Rattle.std.specs.Prelude.{OnOk}
use Rattle.httparse.specs.Grammar.{trim_ows}
use Rattle.std.specs.Str.{str_to_ascii_lowercase}
use Rattle.sm_bind.specs.BoundView.{bound_of}
use Rattle.sm_bind.specs.Roles.{is_taken_name}
use Rattle.sm_bind_read.proofs.MapRows.{kept_empty, kept_some, kept_taken}
use Rattle.sm_bind_read.proofs.PartsPut.{empty_from, some_from}
use Rattle.sm_bind_read.proofs.maps.put_unless_taken.Goals as goal

pub returns-then-is_empty : goal.returns-then-is_empty
returns-then-is_empty c =
    let b = bound_of c.args.place.now in
    let f = c.args.field.now in
    let rows = c.args.rows.now.items in
    let text = c.trim-text.ensures ∙ ap trim_ows c.as_slice.ensures in
    sym (ap (λ ts. rows ++ ts) (kept_empty (is_taken_name b (str_to_ascii_lowercase f.name)) c.args.key.now (trim_ows f.value)
    (sym text ∙ empty_from c.trim-text.result.now (sym c.is_empty.ensures ∙ c.if-is_empty.true)))
    ∙ append-nil rows)

pub returns-then-is_taken_field : goal.returns-then-is_taken_field
returns-then-is_taken_field c =
    let b = bound_of c.args.place.now in
    let f = c.args.field.now in
    let rows = c.args.rows.now.items in
    let taken = ap (λ n. is_taken_name b (str_to_ascii_lowercase n)) (sym c.as_str.ensures.bytes) ∙ sym c.is_taken_field.ensures
    ∙ c.if-is_taken_field.true in
    sym (ap (λ ts. rows ++ ts) (kept_taken (is_taken_name b (str_to_ascii_lowercase f.name)) c.args.key.now (trim_ows f.value) taken)
    ∙ append-nil rows)

pub returns : goal.returns
returns c =
    let b = bound_of c.args.place.now in
    let f = c.args.field.now in
    let text = c.trim-text.ensures ∙ ap trim_ows c.as_slice.ensures in
    let taken = ap (λ n. is_taken_name b (str_to_ascii_lowercase n)) (sym c.as_str.ensures.bytes) ∙ sym c.is_taken_field.ensures
    ∙ c.if-is_taken_field.false in
    let some = some_from c.trim-text.result.now (sym c.is_empty.ensures ∙ c.if-is_empty.false) in
    subst (λ ts. OnOk c.put_row.result (c.put_row.new.rows.items ≡ c.args.rows.now.items ++ ts))
    (ap (λ u. (c.args.key.now, u) ∷ []) text
    ∙ sym (kept_some (is_taken_name b (str_to_ascii_lowercase f.name)) c.args.key.now (trim_ows f.value) taken (λ e. some (text ∙ e))))
    c.put_row.ensures
