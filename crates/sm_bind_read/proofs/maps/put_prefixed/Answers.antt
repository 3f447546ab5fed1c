use Rattle.std.proofs.Common.{◌≡◌, ◌++◌, sym, ap, subst, ◌∙◌}
use Rattle.std.proofs.lemmas.List.{append-nil}
use Rattle.std.specs.Prelude.{OnOk}
use Rattle.sm_bind.specs.BoundView.{bound_of}
use Rattle.std.specs.Str.{str_to_ascii_lowercase}
use Rattle.sm_bind_read.proofs.MapRows.{not_prefixed, prefixed_is}
use Rattle.sm_bind_read.proofs.maps.put_prefixed.Goals as goal

pub returns-in-Some : goal.returns-in-Some
returns-in-Some c =
    let f = c.args.field.now in
    let begins = sym (c.in_ok-lower.ensures ∙ ap str_to_ascii_lowercase c.as_str.ensures.bytes) ∙ sym c.as_str-2.ensures.bytes ∙ c.in-Some.ensures in
    subst (λ ts. OnOk c.put_unless_taken.result (c.put_unless_taken.new.rows.items ≡ c.args.rows.now.items ++ ts))
    (sym (prefixed_is (bound_of c.args.place.now) c.args.prefix.now f c.in-Some.key.now begins)) c.put_unless_taken.ensures

pub returns : goal.returns
returns c =
    let f = c.args.field.now in
    let rows = c.args.rows.now.items in
    let same = c.as_str-2.ensures.bytes ∙ c.in_ok-lower.ensures ∙ ap str_to_ascii_lowercase c.as_str.ensures.bytes in
    sym (ap (λ ts. rows ++ ts) (not_prefixed (bound_of c.args.place.now) c.args.prefix.now f (λ rest h. c.in-None.ensures rest (same ∙ h)))
    ∙ append-nil rows)
