-- Two values are the same exactly where they are equal, so no value of a list stands twice exactly where all are unlike.
use Rattle.std.proofs.Common.{◌≡◌, ℕ, Bool, true, false, ◌&&◌, ◌||◌, List, [], ◌∷◌, refl, sym, ap, ◌∙◌, subst}
use Rattle.std.specs.Prelude.{◌==◌}
use Rattle.std.specs.Str.{bytes_eq}
use Rattle.std.specs.List.{list_any}
use Rattle.std.proofs.lemmas.Bool.Decides.{Decides-eqb, Decides-int_eq}
use Rattle.std.proofs.lemmas.Slice.Eq.{bytes_eq-Decides}
use Rattle.sm_shapes.specs.Values.{Val, Vals, EntryVals, FieldVals, null_val, bool_val, int_val, text_val, blob_val, time_val, list_val}
use Rattle.sm_shapes.specs.Values.{map_val, structure_val, union_val, no_vals, val, no_entries, entry, no_fields, field, same_val}
use Rattle.sm_shapes.specs.Values.{same_vals, same_entries, same_fields}
use Rattle.sm_shapes.specs.Broken.{has_twice}
use Rattle.sm_shapes.specs.Fitting.{NoneIsLike, AllUnlike}

first_holds : (a b : Bool) → (a && b) ≡ true → a ≡ true
first_holds true b h = refl
first_holds false b h = h

second_holds : (a b : Bool) → (a && b) ≡ true → b ≡ true
second_holds true b h = h
second_holds false b h = absurd cc

both_hold : (a b : Bool) → a ≡ true → b ≡ true → (a && b) ≡ true
both_hold a b h g = ap (λ c. c && b) h ∙ g

same_union : (j k : ℕ) (v w : Val) → j ≡ k → v ≡ w → union_val j v ≡ union_val k w
same_union j k v w a b = cc

same_val_more : (v w : Val) (vs ws : Vals) → v ≡ w → vs ≡ ws → val v vs ≡ val w ws
same_val_more v w vs ws a b = cc

same_entry_more : (j k : List ℕ) (v w : Val) (es ds : EntryVals) → j ≡ k → v ≡ w → es ≡ ds → entry j v es ≡ entry k w ds
same_entry_more j k v w es ds a b c = cc

same_field_more : (j k : ℕ) (v w : Val) (fs gs : FieldVals) → j ≡ k → v ≡ w → fs ≡ gs → field j v fs ≡ field k w gs
same_field_more j k v w fs gs a b c = cc

mutual
  -- what is told to be the same is equal
  pub same_is : (v w : Val) → same_val v w ≡ true → v ≡ w
  same_is null_val null_val h = refl
  same_is (bool_val true) (bool_val true) h = refl
  same_is (bool_val true) (bool_val false) h = absurd cc
  same_is (bool_val false) (bool_val true) h = absurd cc
  same_is (bool_val false) (bool_val false) h = refl
  same_is (int_val y) (int_val z) h = ap int_val ((Decides-int_eq y z).0 h)
  same_is (text_val t) (text_val u) h = ap text_val ((bytes_eq-Decides t u).0 h)
  same_is (blob_val t) (blob_val u) h = ap blob_val ((bytes_eq-Decides t u).0 h)
  same_is (time_val y) (time_val z) h = ap time_val ((Decides-int_eq y z).0 h)
  same_is (list_val vs) (list_val ws) h = ap list_val (vals_are vs ws h)
  same_is (map_val es) (map_val ds) h = ap map_val (entries_are es ds h)
  same_is (structure_val fs) (structure_val gs) h = ap structure_val (fields_are fs gs h)
  same_is (union_val j v) (union_val k w) h =
      same_union j k v w ((Decides-eqb j k).0 (first_holds (j == k) (same_val v w) h))
      (same_is v w (second_holds (j == k) (same_val v w) h))
  same_is v w h = absurd cc

  vals_are : (vs ws : Vals) → same_vals vs ws ≡ true → vs ≡ ws
  vals_are no_vals no_vals h = refl
  vals_are (val v vs) (val w ws) h =
      same_val_more v w vs ws (same_is v w (first_holds (same_val v w) (same_vals vs ws) h))
      (vals_are vs ws (second_holds (same_val v w) (same_vals vs ws) h))
  vals_are vs ws h = absurd cc

  entries_are : (es ds : EntryVals) → same_entries es ds ≡ true → es ≡ ds
  entries_are no_entries no_entries h = refl
  entries_are (entry j v es) (entry k w ds) h =
      let rest = second_holds (bytes_eq j k) (same_val v w && same_entries es ds) h in
      same_entry_more j k v w es ds ((bytes_eq-Decides j k).0 (first_holds (bytes_eq j k) (same_val v w && same_entries es ds) h))
      (same_is v w (first_holds (same_val v w) (same_entries es ds) rest))
      (entries_are es ds (second_holds (same_val v w) (same_entries es ds) rest))
  entries_are es ds h = absurd cc

  fields_are : (fs gs : FieldVals) → same_fields fs gs ≡ true → fs ≡ gs
  fields_are no_fields no_fields h = refl
  fields_are (field j v fs) (field k w gs) h =
      let rest = second_holds (j == k) (same_val v w && same_fields fs gs) h in
      same_field_more j k v w fs gs ((Decides-eqb j k).0 (first_holds (j == k) (same_val v w && same_fields fs gs) h))
      (same_is v w (first_holds (same_val v w) (same_fields fs gs) rest))
      (fields_are fs gs (second_holds (same_val v w) (same_fields fs gs) rest))
  fields_are fs gs h = absurd cc

mutual
  -- a value is the same as itself
  pub same_itself : (v : Val) → same_val v v ≡ true
  same_itself null_val = refl
  same_itself (bool_val true) = refl
  same_itself (bool_val false) = refl
  same_itself (int_val z) = (Decides-int_eq z z).1 refl
  same_itself (text_val u) = (bytes_eq-Decides u u).1 refl
  same_itself (blob_val u) = (bytes_eq-Decides u u).1 refl
  same_itself (time_val z) = (Decides-int_eq z z).1 refl
  same_itself (list_val vs) = list_itself vs
  same_itself (map_val es) = map_itself es
  same_itself (structure_val fs) = structure_itself fs
  same_itself (union_val k v) = both_hold (k == k) (same_val v v) ((Decides-eqb k k).1 refl) (same_itself v)

  list_itself : (vs : Vals) → same_vals vs vs ≡ true
  list_itself no_vals = refl
  list_itself (val v vs) = both_hold (same_val v v) (same_vals vs vs) (same_itself v) (list_itself vs)

  map_itself : (es : EntryVals) → same_entries es es ≡ true
  map_itself no_entries = refl
  map_itself (entry key v es) =
      both_hold (bytes_eq key key) (same_val v v && same_entries es es) ((bytes_eq-Decides key key).1 refl)
      (both_hold (same_val v v) (same_entries es es) (same_itself v) (map_itself es))

  structure_itself : (fs : FieldVals) → same_fields fs fs ≡ true
  structure_itself no_fields = refl
  structure_itself (field k v fs) =
      both_hold (k == k) (same_val v v && same_fields fs fs) ((Decides-eqb k k).1 refl)
      (both_hold (same_val v v) (same_fields fs fs) (same_itself v) (structure_itself fs))

not_either : (a b : Bool) → (a || b) ≡ false → (a ≡ false) × (b ≡ false)
not_either true b h = absurd cc
not_either false b h = (refl, h)

neither : (a b : Bool) → a ≡ false → b ≡ false → (a || b) ≡ false
neither a b h g = ap (λ c. c || b) h ∙ g

not_both : (b : Bool) → b ≡ true → b ≡ false → ⊥
not_both true h g = cc
not_both false h g = cc

not_true : (b : Bool) → (b ≡ true → ⊥) → b ≡ false
not_true true h = absurd (h refl)
not_true false h = refl

none_alike : (v : Val) (ws : List Val) → list_any (λ w. same_val v w) ws ≡ false → NoneIsLike v ws
none_alike v [] h = tt
none_alike v (w ∷ ws) h =
    let parts = not_either (same_val v w) (list_any (λ w. same_val v w) ws) h in
    (λ e. not_both (same_val v w) (subst (λ u. same_val v u ≡ true) (sym e) (same_itself v)) parts.0, none_alike v ws parts.1)

none_same : (v : Val) (ws : List Val) → NoneIsLike v ws → list_any (λ w. same_val v w) ws ≡ false
none_same v [] h = refl
none_same v (w ∷ ws) h =
    neither (same_val v w) (list_any (λ w. same_val v w) ws) (not_true (same_val v w) (λ e. h.0 (sym (same_is v w e))))
    (none_same v ws h.1)

-- no value stands twice: all are unlike, and back
pub unlike_where : (vs : List Val) → has_twice vs ≡ false → AllUnlike vs
unlike_where [] h = tt
unlike_where (v ∷ vs) h =
    let parts = not_either (list_any (λ w. same_val v w) vs) (has_twice vs) h in
    (none_alike v vs parts.0, unlike_where vs parts.1)

pub where_unlike : (vs : List Val) → AllUnlike vs → has_twice vs ≡ false
where_unlike [] h = refl
where_unlike (v ∷ vs) h = neither (list_any (λ w. same_val v w) vs) (has_twice vs) (none_same v vs h.0) (where_unlike vs h.1)
