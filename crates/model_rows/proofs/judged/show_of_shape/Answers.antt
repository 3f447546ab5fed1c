use Rattle.model_rows.proofs.judged.show_of_shape.Goals as goal

pub show_of_sound-requires : goal.show_of_sound-requires
show_of_sound-requires c = rw c.in-Ok-true.field-0-test at c.in-Ok-true.ensures
