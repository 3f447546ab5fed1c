use Rattle.std.proofs.Common.{◌≡◌, drop}
use Rattle.sm_model.specs.FieldsView.{fields_view}
use Rattle.sm_model.specs.Properties.{form_named, property_forms}
use Rattle.sm_model.proofs.property.PropertyForm.of.Given as goal

abbrev pub invariant-loop-field : goal.invariant-loop-field
invariant-loop-field l =
    form_named l.name (fields_view (drop l.field-index l.fields)) ≡ form_named l.name (property_forms l.fn.kind)
