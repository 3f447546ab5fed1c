use Rattle.std.proofs.Common.{refl}
use Rattle.std.specs.Str.{chars}
use Rattle.schema_suite.proofs.laws.suite_is_met.Goals as goal

pub returns-clause-additional_properties_groups : goal.returns-clause-additional_properties_groups
returns-clause-additional_properties_groups c = refl

pub returns-clause-boolean_schema_groups : goal.returns-clause-boolean_schema_groups
returns-clause-boolean_schema_groups c = refl

pub returns-clause-default_groups : goal.returns-clause-default_groups
unfolding chars
returns-clause-default_groups c = refl

pub returns-clause-enum_groups : goal.returns-clause-enum_groups
returns-clause-enum_groups c = refl

pub returns-clause-items_groups : goal.returns-clause-items_groups
returns-clause-items_groups c = refl

pub returns-clause-max_items_groups : goal.returns-clause-max_items_groups
returns-clause-max_items_groups c = refl

pub returns-clause-max_length_groups : goal.returns-clause-max_length_groups
unfolding chars
returns-clause-max_length_groups c = refl

pub returns-clause-max_properties_groups : goal.returns-clause-max_properties_groups
returns-clause-max_properties_groups c = refl

pub returns-clause-maximum_groups : goal.returns-clause-maximum_groups
returns-clause-maximum_groups c = refl

pub returns-clause-min_items_groups : goal.returns-clause-min_items_groups
returns-clause-min_items_groups c = refl

pub returns-clause-min_length_groups : goal.returns-clause-min_length_groups
unfolding chars
returns-clause-min_length_groups c = refl

pub returns-clause-min_properties_groups : goal.returns-clause-min_properties_groups
returns-clause-min_properties_groups c = refl

pub returns-clause-minimum_groups : goal.returns-clause-minimum_groups
returns-clause-minimum_groups c = refl

pub returns-clause-one_of_groups : goal.returns-clause-one_of_groups
unfolding chars
returns-clause-one_of_groups c = refl

pub returns-clause-pattern_groups : goal.returns-clause-pattern_groups
returns-clause-pattern_groups c = refl

pub returns-clause-properties_groups : goal.returns-clause-properties_groups
returns-clause-properties_groups c = refl

pub returns-clause-property_names_groups : goal.returns-clause-property_names_groups
unfolding chars
returns-clause-property_names_groups c = refl

pub returns-clause-ref_groups : goal.returns-clause-ref_groups
returns-clause-ref_groups c = refl

pub returns-clause-required_groups : goal.returns-clause-required_groups
returns-clause-required_groups c = refl

pub returns-clause-type_groups : goal.returns-clause-type_groups
returns-clause-type_groups c = refl

pub returns-clause-unique_items_groups : goal.returns-clause-unique_items_groups
returns-clause-unique_items_groups c = refl
