use Rattle.sm_asked_shape.proofs.ShapeComes.{some_over_shape}
use Rattle.sm_schema_command.specs.Schema.{SchemaSays}
use Rattle.sm_schema_command.proofs.OneSchema.{schema_answered}
use Rattle.sm_schema_command.proofs.laws.some_answer.Goals as goal

pub returns : goal.returns
returns c = λ model shape json_names described.
    some_over_shape model (λ t a. SchemaSays t model shape json_names described a)
    (λ t folder files there none. schema_answered c.some_schema.ensures c.some_noted_schema.ensures c.some_table.ensures
    c.some_load.ensures.files c.sound_models.ensures.shapes t folder files model shape json_names described there none)
