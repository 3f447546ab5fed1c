-- A list or a map of texts that stands for a member.
use Rattle.std.proofs.Common.{◌≡◌, ℕ, Bool, true, false, List, [], ◌∷◌, map, refl, ap}
use Rattle.std.specs.declared.cmp.Ordering.{Ordering}
use Rattle.std.specs.declared.cmp.Ordering.TheVariants.{Less, Equal, Greater}
use Rattle.std.specs.Cmp.Lexicographic.{slice_cmp}
use Rattle.std.specs.Ordering.{match_ordering, nat_cmp}
use Rattle.sm_shapes.specs.Places.{member_place}
use Rattle.sm_codec.specs.Codec.{Codec}
use Rattle.sm_codec.specs.Named.{in_byte_order, named, names_of, put_name}
use Rattle.sm_codec.specs.Readings.{Absence, Child, list_reading, map_reading, member_reading, present_reading}
use Rattle.sm_part_values.specs.PartTexts.{TextForm, entry_child, field_cut, fields_by, in_field, keyed_by, list_child}
use Rattle.sm_part_values.specs.PartTexts.{map_or_none, text_child}
use Rattle.std.specs.List.{join_with_byte}
use Rattle.sm_bytes.specs.Ascii.{comma}
use Rattle.sm_parts.specs.HeaderLists.{entries_of}

module _ (absent : Absence) (k : ℕ) (c : Codec) where
  -- a map
  put_some : (w : List ℕ) (ws : List (List ℕ)) → put_name w ws ≡ [] → ⊥
  put_some w [] h = absurd cc
  put_some w (v ∷ ws) h = by (slice_cmp nat_cmp w v) h
    where
      by : (r : Ordering) → match_ordering r (w ∷ v ∷ ws) (v ∷ ws) (v ∷ put_name w ws) ≡ [] → ⊥
      by Less h = absurd cc
      by Equal h = absurd cc
      by Greater h = absurd cc

  map_some : {A B : Type 0} (g : A → B) (xs : List A) → (xs ≡ [] → ⊥) → map g xs ≡ [] → ⊥
  map_some g [] some h = some refl
  map_some g (x ∷ xs) some h = absurd cc

  pub keyed_some : (lists : Bool) (f : TextForm) (row : List ℕ × List ℕ) (rows : List (List ℕ × List ℕ))
      → keyed_by lists f c (row ∷ rows) ≡ [] → ⊥
  keyed_some true f row rows h =
      map_some (λ key. (key, list_child c (map (text_child f c) (named key (row ∷ rows))))) (in_byte_order (names_of (row ∷ rows)))
      (put_some row.0 (in_byte_order (names_of rows))) h
  keyed_some false f row rows h = absurd cc

  stands_by : (ps : List (List ℕ × Child)) → (ps ≡ [] → ⊥)
      → present_reading (map_reading c (member_place k) ps) ≡ member_reading absent k (map_or_none c ps)
  stands_by [] some = absurd (some refl)
  stands_by (p ∷ ps) some = refl

  pub map_stands : (lists : Bool) (f : TextForm) (rows : List (List ℕ × List ℕ)) → (rows ≡ [] → ⊥)
      → present_reading (map_reading c (member_place k) (keyed_by lists f c rows)) ≡ member_reading absent k (map_or_none c (keyed_by lists f c rows))
  map_stands lists f [] some = absurd (some refl)
  map_stands lists f (row ∷ rows) some = stands_by (keyed_by lists f c (row ∷ rows)) (keyed_some lists f row rows)

  pub no_map : (lists : Bool) (f : TextForm) (rows : List (List ℕ × List ℕ)) → rows ≡ [] → map_or_none c (keyed_by lists f c rows) ≡ []
  no_map true f rows e = ap (λ rs. map_or_none c (keyed_by true f c rs)) e
  no_map false f rows e = ap (λ rs. map_or_none c (keyed_by false f c rs)) e

  -- fields that are one list
  pub fields_stand : (us : List (List ℕ)) → (us ≡ [] → ⊥)
      → present_reading (list_reading c (member_place k) (map (entry_child in_field c) (entries_of (field_cut c (member_place k))
      (join_with_byte comma us)))) ≡ member_reading absent k (fields_by true c k us)
  fields_stand [] some = absurd (some refl)
  fields_stand (u ∷ us) some = refl
