-- The constraints of the code as data.
use Rattle.sm_shapes.specs.TableData.{ConstraintData}
use Rattle.sm_shapes.specs.declared.constraints.Constraints.{Constraints}

abbrev pub constraint_data : Constraints → ConstraintData
constraint_data c = record { min = c.min; max = c.max; pattern = c.pattern; texts = c.texts; numbers = c.numbers }
