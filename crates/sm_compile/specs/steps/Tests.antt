-- Whether a shape is in order, as tests.
use Rattle.std.specs.Prelude.{◌&&◌, ℕ, ℤ, Bool, true, false, List, [], ◌∷◌, Option, Some, None}
use Rattle.std.specs.List.{list_all}
use Rattle.sm_model.specs.Graphs.{GraphMaps}
use Rattle.sm_model.specs.declared.kind.Kind.{Kind}
use Rattle.sm_model.specs.declared.kind.Kind.TheVariants.{Enum, IntEnum, Map}
use Rattle.sm_compile.specs.Kinds.{is_text_kind, may_target}
use Rattle.sm_compile.specs.Sound.{enum_texts, enum_numbers, trait_of}
use Rattle.sm_compile.specs.TraitIds.{required_id, sparse_id, unique_items_id, length_id, range_id, pattern_id, timestamp_format_id}
use Rattle.sm_compile.specs.TraitIds.{json_name_id, enum_value_id}
use Rattle.sm_compile.specs.TraitNodes.{TraitsSeen, number_of, text_of, where_there, is_object, is_text, are_whole_bounds, are_lengths}
use Rattle.sm_compile.specs.TraitNodes.{are_ordered, fits_word, is_range, is_timestamp_format, is_enum_value}
use Rattle.sm_compile.specs.steps.Looked.{target_kind, targets_unit}
use Rattle.sm_compile.specs.steps.Naming.{all_differ, all_numbers_differ}

-- the values of traits
abbrev pub are_annotations : TraitsSeen → Bool
are_annotations seen =
    where_there is_object (seen required_id) && (where_there is_object (seen sparse_id) && where_there is_object (seen unique_items_id))

abbrev pub is_length : TraitsSeen → Bool
is_length seen =
    where_there are_whole_bounds (seen length_id)
    && (where_there are_lengths (seen length_id) && where_there are_ordered (seen length_id))

abbrev pub is_range_seen : Kind → TraitsSeen → Bool
is_range_seen kind seen = where_there (is_range kind) (seen range_id) && where_there are_ordered (seen range_id)

abbrev pub are_texts : TraitsSeen → Bool
are_texts seen =
    where_there is_text (seen pattern_id)
    && (where_there is_timestamp_format (seen timestamp_format_id) && where_there is_text (seen json_name_id))

abbrev pub are_formed : Kind → TraitsSeen → Bool
are_formed kind seen = are_annotations seen && (is_length seen && (is_range_seen kind seen && are_texts seen))

-- a member, by the type of its target
abbrev pub is_sound_target : Kind → Bool → TraitsSeen → Option Kind → Bool
is_sound_target kind unit seen None = false
is_sound_target kind unit seen (Some target) =
    may_target kind unit target && (are_formed target seen && where_there (is_enum_value kind) (seen enum_value_id))

abbrev pub is_sound_member : GraphMaps → Kind → List ℕ → Bool
is_sound_member g kind id = is_sound_target kind (targets_unit g id) (trait_of g id) (target_kind g id)

-- the key of a map is a text, where its target is there
abbrev pub is_text_where : Option Kind → Bool
is_text_where None = true
is_text_where (Some kind) = is_text_kind kind

abbrev pub has_text_key : GraphMaps → Kind → List (List ℕ) → Bool
has_text_key g Map (key ∷ members) = is_text_where (target_kind g key)
has_text_key g kind members = true

-- the value of an enum's member: a text that isn't empty, or a number of 32 bits
abbrev pub is_some_text : Option (List ℕ) → Bool
is_some_text None = false
is_some_text (Some []) = false
is_some_text (Some (c ∷ cs)) = true

abbrev pub is_some_number : Option ℤ → Bool
is_some_number None = false
is_some_number (Some z) = fits_word z

abbrev pub enum_text : GraphMaps → List ℕ → Option (List ℕ)
enum_text g id = text_of (trait_of g id enum_value_id)

abbrev pub enum_number : GraphMaps → List ℕ → Option ℤ
enum_number g id = number_of (trait_of g id enum_value_id)

abbrev pub is_some_member : List (List ℕ) → Bool
is_some_member [] = false
is_some_member (id ∷ ids) = true

abbrev pub has_enum_texts : GraphMaps → List (List ℕ) → Bool
has_enum_texts g ids =
    is_some_member ids && (list_all (λ id. is_some_text (enum_text g id)) ids && all_differ (enum_texts g ids))

abbrev pub has_enum_numbers : GraphMaps → List (List ℕ) → Bool
has_enum_numbers g ids =
    is_some_member ids && (list_all (λ id. is_some_number (enum_number g id)) ids && all_numbers_differ (enum_numbers g ids))

abbrev pub has_its_values : GraphMaps → Kind → List (List ℕ) → Bool
has_its_values g Enum ids = has_enum_texts g ids
has_its_values g IntEnum ids = has_enum_numbers g ids
has_its_values g kind ids = true

-- a shape of this type with these members, but for their names
abbrev pub has_plain_parts : GraphMaps → List ℕ → Kind → List (List ℕ) → Bool
has_plain_parts g id kind ids = are_formed kind (trait_of g id) && (list_all (is_sound_member g kind) ids && has_text_key g kind ids)

abbrev pub has_parts : GraphMaps → List ℕ → Kind → List (List ℕ) → Bool
has_parts g id kind ids = has_plain_parts g id kind ids && has_its_values g kind ids
