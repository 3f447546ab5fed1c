-- What is carried has its texts.
use Rattle.std.proofs.Common.{◌≡◌, ℕ, suc, Bool, true, false, ◌&&◌, cond, List, [], ◌∷◌, ◌++◌, refl, sym, ap, ◌∙◌, subst}
use Rattle.std.specs.Prelude.{Option, Some, None}
use Rattle.std.specs.List.{list_all}
use Rattle.sm_time.specs.declared.format.Format.{Format}
use Rattle.sm_time.proofs.StampForms.{and_first}
use Rattle.sm_tree.specs.declared.path.Step.{Step}
use Rattle.sm_tree.specs.declared.path.Step.TheVariants.{Index}
use Rattle.sm_shapes.specs.Fitting.{Test, Fits, FitPairs, FitsOrNull}
use Rattle.sm_shapes.specs.Places.{Place, entry_place, sparse_of, value_place}
use Rattle.sm_shapes.specs.TableData.{TableData}
use Rattle.sm_shapes.specs.Values.{EntryVals, Val, blob_val, bool_val, entry, int_val, list_val, map_val, no_entries, null_val}
use Rattle.sm_shapes.specs.Values.{structure_val, text_val, time_val, union_val}
use Rattle.sm_codec.specs.Written.{paths_under}
use Rattle.sm_codec.proofs.NoFaults.{none_behind, none_first}
use Rattle.sm_codec.proofs.WrittenValues.{none_of_paths}
use Rattle.sm_part_texts.specs.CarriedTexts.{entries_failing, has_text_at, have_texts, have_texts_by, here_unless, is_carried, list_failing}
use Rattle.sm_part_texts.specs.CarriedTexts.{uncarried_by, uncarried_texts, usual_in, value_passes}
use Rattle.sm_part_texts.specs.PlaceTexts.{EachStandsAt, StandsAt, listed}
use Rattle.sm_part_texts.specs.declared.carried.TextTest.{TextTest}

pub passed_here : (b : Bool) → here_unless b ≡ [] → b ≡ true
passed_here true h = refl
passed_here false h = absurd cc

-- a value that is carried has a text
pub text_had : (test : TextTest) (t : TableData) (p : Place) (v : Val) → here_unless (is_carried test t p v) ≡ []
    → has_text_at (usual_in test) t p v ≡ true
text_had test t p v h =
    and_first (has_text_at (usual_in test) t p v) (value_passes test v) (passed_here (is_carried test t p v) h)

entries_had : (test : TextTest) (t : TableData) (q : Place) (i : ℕ) (vs : List Val) → entries_failing (is_carried test t q) i vs ≡ []
    → list_all (has_text_at (usual_in test) t q) vs ≡ true
entries_had test t q i [] h = refl
entries_had test t q i (v ∷ vs) h =
    let here = here_unless (is_carried test t q v) in
    let rest = entries_failing (is_carried test t q) (suc i) vs in
    ap (λ b. b && list_all (has_text_at (usual_in test) t q) vs)
    (text_had test t q v (none_of_paths (Index i) here (none_first (paths_under (Index i) here) rest h)))
    ∙ entries_had test t q (suc i) vs (none_behind (paths_under (Index i) here) rest h)

list_had : (test : TextTest) (t : TableData) (q : Place) (vs : List Val) → list_failing (is_carried test t q) vs ≡ []
    → list_all (has_text_at (usual_in test) t q) vs ≡ true
list_had test t q [] h = absurd cc
list_had test t q (v ∷ vs) h = entries_had test t q 0 (v ∷ vs) h

had_by : (alone inside : TextTest) (usual : Format) (t : TableData) (p : Place) (v : Val) (o : Option (List Val)) → usual_in alone ≡ usual
    → usual_in inside ≡ usual → uncarried_by alone inside t p v o ≡ [] → have_texts_by usual t p v o ≡ true
had_by alone inside usual t p v None here within h = subst (λ f. has_text_at f t p v ≡ true) here (text_had alone t p v h)
had_by alone inside usual t p v (Some vs) here within h =
    subst (λ f. list_all (has_text_at f t (entry_place t p)) vs ≡ true) within (list_had inside t (entry_place t p) vs h)

-- and so has each entry of a list
pub texts_had : (alone inside : TextTest) (usual : Format) (t : TableData) (p : Place) (v : Val) → usual_in alone ≡ usual
    → usual_in inside ≡ usual → uncarried_texts alone inside t p v ≡ [] → have_texts usual t p v ≡ true
texts_had alone inside usual t p v here within h = had_by alone inside usual t p v (listed v) here within h

-- a value that fits stands at its place
pub stands_fit : (t : TableData) (test : Test) (p : Place) (v : Val) → Fits t test p v → StandsAt t p v
stands_fit t test p null_val h = tt
stands_fit t test p (bool_val b) h = tt
stands_fit t test p (int_val z) h = tt
stands_fit t test p (text_val u) h = tt
stands_fit t test p (blob_val u) h = tt
stands_fit t test p (time_val ms) h = tt
stands_fit t test p (list_val vs) h = h.0
stands_fit t test p (map_val es) h = tt
stands_fit t test p (structure_val fs) h = tt
stands_fit t test p (union_val k v) h = tt

where_fits : (t : TableData) (test : Test) (q : Place) (sparse : Bool) (v : Val) → FitsOrNull sparse (Fits t test q v) v → StandsAt t q v
where_fits t test q sparse null_val h = tt
where_fits t test q sparse (bool_val b) h = tt
where_fits t test q sparse (int_val z) h = tt
where_fits t test q sparse (text_val u) h = tt
where_fits t test q sparse (blob_val u) h = tt
where_fits t test q sparse (time_val ms) h = tt
where_fits t test q sparse (list_val vs) h = h.0
where_fits t test q sparse (map_val es) h = tt
where_fits t test q sparse (structure_val fs) h = tt
where_fits t test q sparse (union_val k v) h = tt

-- and so do the values of a map
pub each_stands : (t : TableData) (test : Test) (p : Place) (es : EntryVals) → FitPairs t test p es → EachStandsAt t (value_place t p) es
each_stands t test p no_entries h = tt
each_stands t test p (entry key v es) h =
    (where_fits t test (value_place t p) (sparse_of t p) v h.2, each_stands t test p es h.3)
