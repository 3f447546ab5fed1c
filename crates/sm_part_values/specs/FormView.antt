-- What a form of the code stands for.
use Rattle.sm_part_values.specs.PartTexts.{TextForm, in_field, in_target}
use Rattle.sm_part_values.specs.declared.form.PartForm.{PartForm}
use Rattle.sm_part_values.specs.declared.form.PartForm.TheVariants.{Target, Field}

abbrev pub form_of : PartForm → TextForm
form_of Target = in_target
form_of Field = in_field
