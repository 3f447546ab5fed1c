use Rattle.std.proofs.Common.{sym, ◌∙◌}
use Rattle.sm_model.proofs.Worklist.{apart}
use Rattle.sm_transform.proofs.knowing.is_key_field.Goals as goal

pub returns-then-is_rename : goal.returns-then-is_rename
returns-then-is_rename c =
    let form = c.is_rename.ensures.0 c.if-is_rename.true in
    (λ h. (sym c.of.ensures ∙ form, c.has_key_in.ensures.0 h), λ h. c.has_key_in.ensures.1 h.1)

pub returns-else-is_rename : goal.returns-else-is_rename
returns-else-is_rename c =
    (λ h. absurd (apart h), λ h. absurd (apart (sym c.if-is_rename.false ∙ c.is_rename.ensures.1 (c.of.ensures ∙ h.0))))
