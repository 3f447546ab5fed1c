-- A shape is in order exactly where the tests pass and its members' names are in order.
use Rattle.std.proofs.Common.{◌≡◌, inl, inr, ℕ, suc, ℤ, Bool, true, false, ◌&&◌, List, [], ◌∷◌, length, Option, Some, None, refl, sym, ap}
use Rattle.std.proofs.Common.{◌∙◌, subst, arith}
use Rattle.std.specs.Prelude.{◌↔◌, FitsSigned, pos, negsuc}
use Rattle.std.specs.Int.{w32}
use Rattle.std.specs.List.{Contains, list_all}
use Rattle.std.specs.FinMap as fin
use Rattle.std.specs.Str.{bytes_eq}
use Rattle.std.proofs.lemmas.Bool.Decides.{nat_tests}
use Rattle.sm_tree.specs.Node.{Node, null, bool, int, number, text, bytes, tag, opaque, list, object}
use Rattle.sm_model.specs.Graphs.{Entry, shape_entry, member_entry, GraphMaps, MemberEntry}
use Rattle.sm_model.specs.PreludeShapes.{unit_id}
use Rattle.sm_model.specs.declared.kind.Kind.{Kind}
use Rattle.sm_model.specs.declared.kind.Kind.TheVariants.{Blob, Boolean, Text, Enum, Byte, Short, Integer, IntEnum, Long, Float, Double}
use Rattle.sm_model.specs.declared.kind.Kind.TheVariants.{BigInteger, BigDecimal, Timestamp, Document, List as list_kind, Map, Structure}
use Rattle.sm_model.specs.declared.kind.Kind.TheVariants.{Union, Service, Operation, Resource}
use Rattle.sm_model.proofs.LinkedEntries.{cons_cases, cons_here}
use Rattle.sm_model.proofs.Worklist.{apart}
use Rattle.sm_compile.specs.Kinds.{may_target}
use Rattle.sm_compile.specs.Sound.{AreSoundMembers, HasEnumNumbers, HasEnumTexts, HasItsValues, HasNumber, HasText, HasTextKey}
use Rattle.sm_compile.specs.Sound.{IsSoundMember, TargetsText, enum_numbers, enum_texts, trait_in, trait_of}
use Rattle.sm_compile.specs.TraitIds.{required_id, sparse_id, unique_items_id, length_id, range_id, pattern_id, timestamp_format_id}
use Rattle.sm_compile.specs.TraitIds.{json_name_id, enum_value_id}
use Rattle.sm_compile.specs.TraitNodes.{AreFormedTraits, TraitsSeen, are_lengths, are_ordered, are_whole_bounds, is_object, is_range}
use Rattle.sm_compile.specs.TraitNodes.{fits_word, is_text, is_timestamp_format, number_of, own_traits, text_of, where_there}
use Rattle.sm_compile.specs.steps.Looked.{is_unit, kind_in, kind_where, target_in, target_kind}
use Rattle.sm_compile.specs.steps.Naming.{all_differ, all_numbers_differ}
use Rattle.sm_compile.specs.steps.Tests.{are_annotations, are_formed, are_texts, enum_number, enum_text, has_enum_numbers}
use Rattle.sm_compile.specs.steps.Tests.{has_enum_texts, has_its_values, has_text_key, is_length, is_range_seen, is_some_member}
use Rattle.sm_compile.specs.steps.Tests.{is_some_number, is_some_text, is_sound_member, is_sound_target, is_text_where}
use Rattle.sm_compile.proofs.Differing.{differ_told, numbers_told}

pub first_of : (a b : Bool) → (a && b) ≡ true → a ≡ true
first_of true b h = refl
first_of false b h = h

pub second_of : (a b : Bool) → (a && b) ≡ true → b ≡ true
second_of true b h = h
second_of false b h = absurd cc

pub both_of : (a b : Bool) → a ≡ true → b ≡ true → (a && b) ≡ true
both_of a b h k = ap (λ x. x && b) h ∙ k

-- traits of their forms
pub formed_told : (kind : Kind) (seen : TraitsSeen) → (are_formed kind seen ≡ true) ↔ AreFormedTraits kind seen
formed_told kind seen = (
  λ h.
      let a = first_of (are_annotations seen) (is_length seen && (is_range_seen kind seen && are_texts seen)) h in
      let h1 = second_of (are_annotations seen) (is_length seen && (is_range_seen kind seen && are_texts seen)) h in
      let l = first_of (is_length seen) (is_range_seen kind seen && are_texts seen) h1 in
      let h2 = second_of (is_length seen) (is_range_seen kind seen && are_texts seen) h1 in
      let r = first_of (is_range_seen kind seen) (are_texts seen) h2 in
      let t = second_of (is_range_seen kind seen) (are_texts seen) h2 in
      let required = where_there is_object (seen required_id) in
      let sparse = where_there is_object (seen sparse_id) in
      let unique = where_there is_object (seen unique_items_id) in
      let bounds = where_there are_whole_bounds (seen length_id) in
      let lengths = where_there are_lengths (seen length_id) in
      let ordered = where_there are_ordered (seen length_id) in
      let range = where_there (is_range kind) (seen range_id) in
      let range_ordered = where_there are_ordered (seen range_id) in
      let pattern = where_there is_text (seen pattern_id) in
      let format = where_there is_timestamp_format (seen timestamp_format_id) in
      let json_name = where_there is_text (seen json_name_id) in
      let a2 = second_of required (sparse && unique) a in
      let l2 = second_of bounds (lengths && ordered) l in
      let t2 = second_of pattern (format && json_name) t in
      record {
        required = first_of required (sparse && unique) a;
        sparse = first_of sparse unique a2;
        unique = second_of sparse unique a2;
        length = first_of bounds (lengths && ordered) l;
        lengths = first_of lengths ordered l2;
        length_ordered = second_of lengths ordered l2;
        range = first_of range range_ordered r;
        range_ordered = second_of range range_ordered r;
        pattern = first_of pattern (format && json_name) t;
        format = first_of format json_name t2;
        json_name = second_of format json_name t2;
      },
  λ f.
      both_of (are_annotations seen) (is_length seen && (is_range_seen kind seen && are_texts seen))
      (both_of (where_there is_object (seen required_id)) _ f.required
      (both_of (where_there is_object (seen sparse_id)) _ f.sparse f.unique))
      (both_of (is_length seen) (is_range_seen kind seen && are_texts seen)
      (both_of (where_there are_whole_bounds (seen length_id)) _ f.length
      (both_of (where_there are_lengths (seen length_id)) _ f.lengths f.length_ordered))
      (both_of (is_range_seen kind seen) (are_texts seen) (both_of (where_there (is_range kind) (seen range_id)) _ f.range f.range_ordered)
      (both_of (where_there is_text (seen pattern_id)) _ f.pattern
      (both_of (where_there is_timestamp_format (seen timestamp_format_id)) _ f.format f.json_name)))),
)

-- traits of what stands under an id are those of its entry
pub formed_along : (kind : Kind) (a b : TraitsSeen) → ((name : List ℕ) → a name ≡ b name) → AreFormedTraits kind a → AreFormedTraits kind b
formed_along kind a b same f = record {
  required = subst (λ o. where_there is_object o ≡ true) (same required_id) f.required;
  sparse = subst (λ o. where_there is_object o ≡ true) (same sparse_id) f.sparse;
  unique = subst (λ o. where_there is_object o ≡ true) (same unique_items_id) f.unique;
  length = subst (λ o. where_there are_whole_bounds o ≡ true) (same length_id) f.length;
  lengths = subst (λ o. where_there are_lengths o ≡ true) (same length_id) f.lengths;
  length_ordered = subst (λ o. where_there are_ordered o ≡ true) (same length_id) f.length_ordered;
  range = subst (λ o. where_there (is_range kind) o ≡ true) (same range_id) f.range;
  range_ordered = subst (λ o. where_there are_ordered o ≡ true) (same range_id) f.range_ordered;
  pattern = subst (λ o. where_there is_text o ≡ true) (same pattern_id) f.pattern;
  format = subst (λ o. where_there is_timestamp_format o ≡ true) (same timestamp_format_id) f.format;
  json_name = subst (λ o. where_there is_text o ≡ true) (same json_name_id) f.json_name;
}

module _ (g : GraphMaps) where
  -- a member
  member_from : (kind : Kind) (id : List ℕ) → is_sound_member g kind id ≡ true → IsSoundMember g kind id
  member_from kind id h = by (fin.get g.shapes id) refl
    where
      at_target : (m : MemberEntry) → fin.get g.shapes id ≡ Some (member_entry m) → (o : Option Entry) → fin.get g.shapes m.target ≡ o
          → is_sound_target kind (bytes_eq m.target unit_id) (own_traits m.traits) (kind_in o) ≡ true → IsSoundMember g kind id
      at_target m has None found h = absurd (apart h)
      at_target m has (Some (member_entry n)) found h = absurd (apart h)
      at_target m has (Some (shape_entry t)) found h =
          let rest = second_of (may_target kind (bytes_eq m.target unit_id) t.kind) _ h in
          record {
            m = m;
            there = has;
            target = t;
            found = found;
            may_target = first_of (may_target kind (bytes_eq m.target unit_id) t.kind) _ h;
            traits = (formed_told t.kind (own_traits m.traits)).0 (first_of (are_formed t.kind (own_traits m.traits)) _ rest);
            value = second_of (are_formed t.kind (own_traits m.traits)) _ rest;
          }

      by : (o : Option Entry) → fin.get g.shapes id ≡ o → IsSoundMember g kind id
      by None has = absurd (apart (subst (λ (o : Option Entry). is_sound_target kind (is_unit (target_in o)) (λ name. trait_in name o)
          (kind_where g (target_in o)) ≡ true) has h))
      by (Some (shape_entry s)) has = absurd (apart (subst (λ (o : Option Entry). is_sound_target kind (is_unit (target_in o))
          (λ name. trait_in name o) (kind_where g (target_in o)) ≡ true) has h))
      by (Some (member_entry m)) has =
          at_target m has (fin.get g.shapes m.target) refl
          (subst (λ (o : Option Entry). is_sound_target kind (is_unit (target_in o)) (λ name. trait_in name o)
          (kind_where g (target_in o)) ≡ true) has h)

  member_back : (kind : Kind) (id : List ℕ) → IsSoundMember g kind id → is_sound_member g kind id ≡ true
  member_back kind id s =
      subst (λ (o : Option Entry). is_sound_target kind (is_unit (target_in o)) (λ name. trait_in name o) (kind_where g (target_in o))
      ≡ true)
      (sym s.there)
      (subst (λ (o : Option Entry). is_sound_target kind (bytes_eq s.m.target unit_id) (own_traits s.m.traits) (kind_in o) ≡ true)
      (sym s.found)
      (both_of _ _ s.may_target (both_of _ _ ((formed_told s.target.kind (own_traits s.m.traits)).1 s.traits) s.value)))

  pub members_told : (kind : Kind) (ids : List (List ℕ)) → (list_all (is_sound_member g kind) ids ≡ true) ↔ AreSoundMembers g kind ids
  members_told kind [] = (λ h. tt, λ h. refl)
  members_told kind (id ∷ ids) =
      let rest = members_told kind ids in (
        λ h. (
          member_from kind id (first_of (is_sound_member g kind id) (list_all (is_sound_member g kind) ids) h),
          rest.0 (second_of (is_sound_member g kind id) (list_all (is_sound_member g kind) ids) h),
        ),
        λ h. both_of (is_sound_member g kind id) (list_all (is_sound_member g kind) ids) (member_back kind id h.0) (rest.1 h.1),
      )

  -- the key of a map
  key_told : (key : List ℕ) → (is_text_where (target_kind g key) ≡ true) ↔ TargetsText g key
  key_told key = (
    λ h m s has found. subst (λ (o : Option Kind). is_text_where o ≡ true)
        (ap (λ (o : Option Entry). kind_where g (target_in o)) has ∙ ap kind_in found) h,
    λ h. by (fin.get g.shapes key) refl h,
  )
    where
      at_target : (m : MemberEntry) → fin.get g.shapes key ≡ Some (member_entry m) → (o : Option Entry) → fin.get g.shapes m.target ≡ o
          → TargetsText g key → is_text_where (kind_in o) ≡ true
      at_target m has None found h = refl
      at_target m has (Some (member_entry n)) found h = refl
      at_target m has (Some (shape_entry t)) found h = h m t has found

      by : (o : Option Entry) → fin.get g.shapes key ≡ o → TargetsText g key → is_text_where (target_kind g key) ≡ true
      by None has h = ap (λ (o : Option Entry). is_text_where (kind_where g (target_in o))) has
      by (Some (shape_entry s)) has h = ap (λ (o : Option Entry). is_text_where (kind_where g (target_in o))) has
      by (Some (member_entry m)) has h =
          ap (λ (o : Option Entry). is_text_where (kind_where g (target_in o))) has ∙ at_target m has (fin.get g.shapes m.target) refl h

  pub text_key_told : (kind : Kind) (ids : List (List ℕ)) → (has_text_key g kind ids ≡ true) ↔ HasTextKey g kind ids
  text_key_told Map [] = (λ h. tt, λ h. refl)
  text_key_told Map (key ∷ ids) = key_told key
  text_key_told Blob ids = (λ h. tt, λ h. refl)
  text_key_told Boolean ids = (λ h. tt, λ h. refl)
  text_key_told Text ids = (λ h. tt, λ h. refl)
  text_key_told Enum ids = (λ h. tt, λ h. refl)
  text_key_told Byte ids = (λ h. tt, λ h. refl)
  text_key_told Short ids = (λ h. tt, λ h. refl)
  text_key_told Integer ids = (λ h. tt, λ h. refl)
  text_key_told IntEnum ids = (λ h. tt, λ h. refl)
  text_key_told Long ids = (λ h. tt, λ h. refl)
  text_key_told Float ids = (λ h. tt, λ h. refl)
  text_key_told Double ids = (λ h. tt, λ h. refl)
  text_key_told BigInteger ids = (λ h. tt, λ h. refl)
  text_key_told BigDecimal ids = (λ h. tt, λ h. refl)
  text_key_told Timestamp ids = (λ h. tt, λ h. refl)
  text_key_told Document ids = (λ h. tt, λ h. refl)
  text_key_told list_kind ids = (λ h. tt, λ h. refl)
  text_key_told Structure ids = (λ h. tt, λ h. refl)
  text_key_told Union ids = (λ h. tt, λ h. refl)
  text_key_told Service ids = (λ h. tt, λ h. refl)
  text_key_told Operation ids = (λ h. tt, λ h. refl)
  text_key_told Resource ids = (λ h. tt, λ h. refl)

  -- the values of enums
  text_told : (id : List ℕ) → (is_some_text (enum_text g id) ≡ true) ↔ HasText g id
  text_told id = (
    λ h. by (trait_of g id enum_value_id) refl h,
    λ h. ap (λ o. is_some_text (text_of o)) h.1 ∙ filled h.0 h.2,
  )
    where
      filled : (t : List ℕ) → (t ≡ [] → ⊥) → is_some_text (Some t) ≡ true
      filled [] h = absurd (h refl)
      filled (c ∷ cs) h = refl

      some : (t : List ℕ) → is_some_text (Some t) ≡ true → t ≡ [] → ⊥
      some [] h e = apart h
      some (c ∷ cs) h e = omega (arith, ap length e)

      by : (o : Option Node) → trait_of g id enum_value_id ≡ o → is_some_text (text_of o) ≡ true → HasText g id
      by None is h = absurd (apart h)
      by (Some (text t)) is h = (t, is, some t h)
      by (Some null) is h = absurd (apart h)
      by (Some (bool b)) is h = absurd (apart h)
      by (Some (int z)) is h = absurd (apart h)
      by (Some (number t)) is h = absurd (apart h)
      by (Some (bytes t)) is h = absurd (apart h)
      by (Some (tag k n)) is h = absurd (apart h)
      by (Some (opaque b)) is h = absurd (apart h)
      by (Some (list ns)) is h = absurd (apart h)
      by (Some (object ms)) is h = absurd (apart h)

  pub fits_from : (z : ℤ) → fits_word z ≡ true → FitsSigned w32 z
  fits_from (pos n) h = record { sfits = grind (arith, nat_tests) }
  fits_from (negsuc n) h = record { sfits = grind (arith, nat_tests) }

  pub fits_back : (z : ℤ) → FitsSigned w32 z → fits_word z ≡ true
  fits_back (pos n) h = let f = h.sfits in grind (arith, nat_tests)
  fits_back (negsuc n) h = let f = h.sfits in grind (arith, nat_tests)

  number_told : (id : List ℕ) → (is_some_number (enum_number g id) ≡ true) ↔ HasNumber g id
  number_told id = (
    λ h. by (trait_of g id enum_value_id) refl h,
    λ h. ap (λ o. is_some_number (number_of o)) h.1 ∙ fits_back h.0 h.2,
  )
    where
      by : (o : Option Node) → trait_of g id enum_value_id ≡ o → is_some_number (number_of o) ≡ true → HasNumber g id
      by None is h = absurd (apart h)
      by (Some (int z)) is h = (z, is, fits_from z h)
      by (Some null) is h = absurd (apart h)
      by (Some (bool b)) is h = absurd (apart h)
      by (Some (text t)) is h = absurd (apart h)
      by (Some (number t)) is h = absurd (apart h)
      by (Some (bytes t)) is h = absurd (apart h)
      by (Some (tag k n)) is h = absurd (apart h)
      by (Some (opaque b)) is h = absurd (apart h)
      by (Some (list ns)) is h = absurd (apart h)
      by (Some (object ms)) is h = absurd (apart h)

  -- what a test tells of each tells of all
  pub each_told : (test : List ℕ → Bool) (P : List ℕ → Type 0) → ((id : List ℕ) → (test id ≡ true) ↔ P id) → (ids : List (List ℕ))
      → (list_all test ids ≡ true) ↔ ((id : List ℕ) → Contains ids id → P id)
  each_told test P told [] = (λ h id among. absurd (omega (arith, among.1)), λ h. refl)
  each_told test P told (i ∷ ids) =
      let rest = each_told test P told ids in (
        λ h id among. elim (cons_cases i ids id among) [
          | inl is ↦ subst P is ((told i).0 (first_of (test i) (list_all test ids) h))
          | inr later ↦ rest.0 (second_of (test i) (list_all test ids) h) id later
        ],
        λ h. both_of (test i) (list_all test ids) ((told i).1 (h i (cons_here i ids)))
            (rest.1 (λ id among. h id (suc among.0, omega (arith, among.1), among.2))),
      )

  some_told : (ids : List (List ℕ)) → (is_some_member ids ≡ true) ↔ (ids ≡ [] → ⊥)
  some_told [] = (λ h e. apart h, λ h. absurd (h refl))
  some_told (id ∷ ids) = (λ h e. omega (arith, ap length e), λ h. refl)

  texts_told : (ids : List (List ℕ)) → (has_enum_texts g ids ≡ true) ↔ HasEnumTexts g ids
  texts_told ids = (
    λ h.
        let rest = second_of (is_some_member ids) _ h in
        record {
          some = (some_told ids).0 (first_of (is_some_member ids) _ h);
          each = (each_told (λ i. is_some_text (enum_text g i)) (HasText g) text_told ids).0
              (first_of (list_all (λ i. is_some_text (enum_text g i)) ids) (all_differ (enum_texts g ids)) rest);
          differ = (differ_told (enum_texts g ids)).0
              (second_of (list_all (λ i. is_some_text (enum_text g i)) ids) (all_differ (enum_texts g ids)) rest);
        },
    λ v. both_of (is_some_member ids) (list_all (λ i. is_some_text (enum_text g i)) ids && all_differ (enum_texts g ids))
        ((some_told ids).1 v.some)
        (both_of (list_all (λ i. is_some_text (enum_text g i)) ids) (all_differ (enum_texts g ids))
        ((each_told (λ i. is_some_text (enum_text g i)) (HasText g) text_told ids).1 v.each) ((differ_told (enum_texts g ids)).1 v.differ)),
  )

  numbers_all_told : (ids : List (List ℕ)) → (has_enum_numbers g ids ≡ true) ↔ HasEnumNumbers g ids
  numbers_all_told ids = (
    λ h.
        let rest = second_of (is_some_member ids) _ h in
        record {
          some = (some_told ids).0 (first_of (is_some_member ids) _ h);
          each = (each_told (λ i. is_some_number (enum_number g i)) (HasNumber g) number_told ids).0
              (first_of (list_all (λ i. is_some_number (enum_number g i)) ids) (all_numbers_differ (enum_numbers g ids)) rest);
          differ = (numbers_told (enum_numbers g ids)).0
              (second_of (list_all (λ i. is_some_number (enum_number g i)) ids) (all_numbers_differ (enum_numbers g ids)) rest);
        },
    λ v. both_of (is_some_member ids) (list_all (λ i. is_some_number (enum_number g i)) ids && all_numbers_differ (enum_numbers g ids))
        ((some_told ids).1 v.some)
        (both_of (list_all (λ i. is_some_number (enum_number g i)) ids) (all_numbers_differ (enum_numbers g ids))
        ((each_told (λ i. is_some_number (enum_number g i)) (HasNumber g) number_told ids).1 v.each)
        ((numbers_told (enum_numbers g ids)).1 v.differ)),
  )

  pub values_told : (kind : Kind) (ids : List (List ℕ)) → (has_its_values g kind ids ≡ true) ↔ HasItsValues g kind ids
  values_told Enum ids = texts_told ids
  values_told IntEnum ids = numbers_all_told ids
  values_told Map ids = (λ h. tt, λ h. refl)
  values_told Blob ids = (λ h. tt, λ h. refl)
  values_told Boolean ids = (λ h. tt, λ h. refl)
  values_told Text ids = (λ h. tt, λ h. refl)
  values_told Byte ids = (λ h. tt, λ h. refl)
  values_told Short ids = (λ h. tt, λ h. refl)
  values_told Integer ids = (λ h. tt, λ h. refl)
  values_told Long ids = (λ h. tt, λ h. refl)
  values_told Float ids = (λ h. tt, λ h. refl)
  values_told Double ids = (λ h. tt, λ h. refl)
  values_told BigInteger ids = (λ h. tt, λ h. refl)
  values_told BigDecimal ids = (λ h. tt, λ h. refl)
  values_told Timestamp ids = (λ h. tt, λ h. refl)
  values_told Document ids = (λ h. tt, λ h. refl)
  values_told list_kind ids = (λ h. tt, λ h. refl)
  values_told Structure ids = (λ h. tt, λ h. refl)
  values_told Union ids = (λ h. tt, λ h. refl)
  values_told Service ids = (λ h. tt, λ h. refl)
  values_told Operation ids = (λ h. tt, λ h. refl)
  values_told Resource ids = (λ h. tt, λ h. refl)
