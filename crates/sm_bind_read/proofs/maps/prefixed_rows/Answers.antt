use Rattle.std.proofs.Common.{◌≡◌, IfOk, subst, ◌∙◌}
use Rattle.sm_bind.specs.BoundView.{bound_of}
use Rattle.sm_bind_read.specs.Parts.{prefixed_texts}
use Rattle.sm_bind_read.proofs.maps.prefixed_rows.Goals as goal

pub returns : goal.returns
returns c =
    subst (λ w. IfOk c.lower_rows.result (λ rows. rows.items ≡ prefixed_texts (bound_of c.args.place.now) w c.args.fields.now))
    (c.as_str.ensures.bytes ∙ c.in_ok-lower.ensures) c.lower_rows.ensures
