use Rattle.sm_asked_shape.proofs.asked.ToldAll.{all_told}
use Rattle.sm_asked_shape.proofs.ShapeComes.{one_over_shape}
use Rattle.sm_schema_command.specs.Schema.{SchemaSays}
use Rattle.sm_schema_command.proofs.OneSchema.{schema_same}
use Rattle.sm_schema_command.proofs.laws.one_answer.Goals as goal

pub returns : goal.returns
returns c = λ model shape json_names described.
    one_over_shape model (λ t a. SchemaSays t model shape json_names described a)
    (λ t folder input a b all h i. schema_same c.one_schema.ensures c.one_noted_schema.ensures t (all_told t folder input all) model shape json_names
    described a b h i)
