-- What fits by some test of patterns fits by the one that every text passes.
use Rattle.std.proofs.Common.{◌≡◌, ℕ, Bool, List, [], ◌∷◌, ◌++◌, length, refl, ap, ◌∙◌}
use Rattle.std.specs.Prelude.{Option, Some, None}
use Rattle.std.specs.Str.{chars}
use Rattle.sm_shapes.specs.Values.{Val, Vals, EntryVals, FieldVals, null_val, bool_val, int_val, text_val, blob_val, time_val, list_val}
use Rattle.sm_shapes.specs.Values.{map_val, structure_val, union_val, no_vals, val, no_entries, entry, no_fields, field}
use Rattle.sm_shapes.specs.TableData.{TableData}
use Rattle.sm_shapes.specs.Places.{Place, member_place, kind_of, members_of_place, constraints_of, sparse_of, entry_place, key_place}
use Rattle.sm_shapes.specs.Places.{value_place}
use Rattle.sm_shapes.specs.Broken.{length_broken, pattern_broken, text_broken}
use Rattle.sm_shapes.specs.Fitting.{Test, any_text, finder, Fits, FitEntries, FitPairs, FitFields, FitsOrNull, MeetsConstraints}
use Rattle.sm_shapes.specs.declared.fault.FaultKind.{FaultKind}

none_joined : (xs ys : List FaultKind) → xs ++ ys ≡ [] → (xs ≡ []) × (ys ≡ [])
none_joined [] ys h = (refl, h)
none_joined (x ∷ xs) ys h = absurd cc

any_passes : (t : TableData) (o : Option ℕ) (u : List ℕ) → pattern_broken (finder t any_text) o u ≡ []
any_passes t None u = refl
any_passes t (Some n) u = refl

meets_any : (t : TableData) (test : Test) (p : Place) (v : Val) → MeetsConstraints t test p v → MeetsConstraints t any_text p v
meets_any t test p null_val h = h
meets_any t test p (bool_val b) h = h
meets_any t test p (int_val z) h = h
meets_any t test p (text_val u) h =
    let c = constraints_of t p in
    let long = length_broken c (length (chars u)) in
    let bad = text_broken (kind_of t p) c.texts u in
    let first = none_joined (long ++ pattern_broken (finder t test) c.pattern u) bad h in
    let second = none_joined long (pattern_broken (finder t test) c.pattern u) first.0 in
    ap (λ x. (x ++ pattern_broken (finder t any_text) c.pattern u) ++ bad) second.0 ∙ ap (λ x. x ++ bad) (any_passes t c.pattern u)
    ∙ first.1
meets_any t test p (blob_val u) h = h
meets_any t test p (time_val ms) h = h
meets_any t test p (list_val vs) h = h
meets_any t test p (map_val es) h = h
meets_any t test p (structure_val fs) h = h
meets_any t test p (union_val k v) h = h

or_null : (sparse : Bool) (X Y : Type 0) (v : Val) → (X → Y) → FitsOrNull sparse X v → FitsOrNull sparse Y v
or_null sparse X Y null_val f h = h
or_null sparse X Y (bool_val b) f h = f h
or_null sparse X Y (int_val z) f h = f h
or_null sparse X Y (text_val u) f h = f h
or_null sparse X Y (blob_val u) f h = f h
or_null sparse X Y (time_val ms) f h = f h
or_null sparse X Y (list_val vs) f h = f h
or_null sparse X Y (map_val es) f h = f h
or_null sparse X Y (structure_val fs) f h = f h
or_null sparse X Y (union_val k v) f h = f h

mutual
  pub fits_any : (t : TableData) (test : Test) (p : Place) (v : Val) → Fits t test p v → Fits t any_text p v
  fits_any t test p null_val h = h
  fits_any t test p (bool_val b) h = (h.0, meets_any t test p (bool_val b) h.1)
  fits_any t test p (int_val z) h = (h.0, meets_any t test p (int_val z) h.1)
  fits_any t test p (text_val u) h = (h.0, meets_any t test p (text_val u) h.1)
  fits_any t test p (blob_val u) h = (h.0, meets_any t test p (blob_val u) h.1)
  fits_any t test p (time_val ms) h = (h.0, meets_any t test p (time_val ms) h.1)
  fits_any t test p (list_val vs) h = (h.0, meets_any t test p (list_val vs) h.1, h.2, entries_any t test p vs h.3)
  fits_any t test p (map_val es) h = (h.0, meets_any t test p (map_val es) h.1, h.2, pairs_any t test p es h.3)
  fits_any t test p (structure_val fs) h = (h.0, fields_any t test (members_of_place t p) fs h.1)
  fits_any t test p (union_val k v) h = (h.0, h.1, fits_any t test (member_place k) v h.2)

  entries_any : (t : TableData) (test : Test) (p : Place) (vs : Vals) → FitEntries t test p vs → FitEntries t any_text p vs
  entries_any t test p no_vals h = tt
  entries_any t test p (val v vs) h = (
    or_null (sparse_of t p) (Fits t test (entry_place t p) v) (Fits t any_text (entry_place t p) v) v
        (fits_any t test (entry_place t p) v) h.0,
    entries_any t test p vs h.1,
  )

  pairs_any : (t : TableData) (test : Test) (p : Place) (es : EntryVals) → FitPairs t test p es → FitPairs t any_text p es
  pairs_any t test p no_entries h = tt
  pairs_any t test p (entry key v es) h = (
    h.0,
    meets_any t test (key_place t p) (text_val key) h.1,
    or_null (sparse_of t p) (Fits t test (value_place t p) v) (Fits t any_text (value_place t p) v) v
        (fits_any t test (value_place t p) v) h.2,
    pairs_any t test p es h.3,
  )

  fields_any : (t : TableData) (test : Test) (ks : List ℕ) (fs : FieldVals) → FitFields t test ks fs → FitFields t any_text ks fs
  fields_any t test ks no_fields h = h
  fields_any t test ks (field k v fs) h =
      (h.0, h.1, h.2, h.3, fits_any t test (member_place k) v h.4, fields_any t test h.1 fs h.5)
