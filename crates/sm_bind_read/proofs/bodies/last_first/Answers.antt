use Rattle.std.proofs.Common.{reverse, sym, ap, ◌∙◌}
use Rattle.sm_shapes.specs.ValueView.{val_of}
use Rattle.sm_bind_read.specs.steps.Bodies.{fields_in}
use Rattle.sm_bind_read.proofs.StructureFields.{fields_told}
use Rattle.sm_bind_read.proofs.bodies.last_first.Goals as goal

pub returns-in-Structure : goal.returns-in-Structure
returns-in-Structure c =
    c.turned.ensures ∙ ap reverse (c.into_inner.ensures ∙ sym (fields_told c.in-Structure.fields))
    ∙ ap (λ v. reverse (fields_in (val_of v))) (sym c.in-Structure.is)
