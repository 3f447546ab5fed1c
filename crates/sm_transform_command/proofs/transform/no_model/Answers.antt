use Rattle.std.proofs.Common.{Err, subst}
use Rattle.sm_transformed.specs.Transformed.{TransformsTo}
use Rattle.sm_model_commands.specs.asked.Lines.{event_lines}
use Rattle.sm_model_commands.specs.asked.declared.lines.Shown.TheVariants.{Errors}
use Rattle.sm_transform_command.specs.Transform.{namespace_line}
use Rattle.sm_transform_command.proofs.Transforms.{namespace_told, rejected_told}
use Rattle.sm_transform_command.proofs.transform.no_model.Goals as goal

pub returns-in-Namespace : goal.returns-in-Namespace
returns-in-Namespace c = λ g change h.
    namespace_told g change c.refused.result (subst (λ r. TransformsTo g change (Err r)) c.in-Namespace.is h)
    (c.refused.ensures namespace_line c.namespace_line.ensures)

pub returns-in-Rejected : goal.returns-in-Rejected
returns-in-Rejected c = λ g change h.
    rejected_told g change c.in-Rejected.events c.refused-in-Rejected.result
    (subst (λ r. TransformsTo g change (Err r)) c.in-Rejected.is h)
    (c.refused-in-Rejected.ensures (event_lines Errors c.in-Rejected.events) (rw c.as_slice.ensures at c.event_lines.ensures))
