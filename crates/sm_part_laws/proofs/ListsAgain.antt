-- Lists of texts: where each text comes to an entry of a list that fits its place, all together come to the list.
use Rattle.std.proofs.Common.{◌≡◌, ℕ, suc, Bool, true, false, ◌&&◌, cond, List, [], ◌∷◌, ◌++◌, map, length, refl, ap, ◌∙◌}
use Rattle.std.specs.Prelude.{Ok}
use Rattle.sm_tree.specs.declared.path.Step.TheVariants.{Index}
use Rattle.sm_time.specs.declared.format.Format.{Format}
use Rattle.sm_shapes.specs.Broken.{has_twice}
use Rattle.sm_shapes.specs.Fitting.{AllUnlike, Fits, FitsOrNull, Test}
use Rattle.sm_shapes.specs.Places.{Place, entry_place, unique_of}
use Rattle.sm_shapes.specs.TableData.{TableData}
use Rattle.sm_shapes.specs.Values.{Val, Vals, each_val, list_val, null_val, vals_of}
use Rattle.sm_shapes.specs.declared.fault.FaultKind.TheVariants.{Unique}
use Rattle.sm_shapes.proofs.SameVals.{where_unlike}
use Rattle.sm_codec.specs.Codec.{Codec}
use Rattle.sm_codec.specs.FaultLists.{faults_in, here, settled, under, values_in}
use Rattle.sm_codec.specs.Readings.{entries_faults, entries_values, list_reading, one_here}
use Rattle.sm_codec.specs.Written.{paths_under}
use Rattle.sm_codec.proofs.Entries.{vals_again}
use Rattle.sm_codec.proofs.NoFaults.{none_behind, none_first, ok_reading}
use Rattle.sm_codec.proofs.WrittenValues.{none_of_paths}
use Rattle.sm_part_values.specs.PartTexts.{TextForm, text_child, text_reading}
use Rattle.sm_part_values.proofs.EntriesJoined.{list_closed}
use Rattle.sm_part_texts.specs.CarriedTexts.{entries_failing, has_text_at, here_unless}
use Rattle.sm_part_texts.specs.PlaceTexts.{simple_at}
use Rattle.sm_part_texts.proofs.TextsHad.{passed_here}
use Rattle.sm_part_laws.proofs.LeavesAgain.{null_untold}

-- each text comes to its value
abbrev pub AreRead : TextForm → Codec → Place → List Val → List (List ℕ) → Type 0
AreRead f c q [] [] = Unit {0}
AreRead f c q [] (u ∷ us) = ⊥
AreRead f c q (v ∷ vs) [] = ⊥
AreRead f c q (v ∷ vs) (u ∷ us) = (text_reading f c q u ≡ Ok v) × AreRead f c q vs us

module _ (f : TextForm) (c : Codec) (p : Place) where
  no_faults : (i : ℕ) (vs : List Val) (us : List (List ℕ)) → AreRead f c (entry_place c.table p) vs us
      → entries_faults c p i (map (text_child f c) us) ≡ []
  no_faults i [] [] h = refl
  no_faults i [] (u ∷ us) h = absurd h
  no_faults i (v ∷ vs) [] h = absurd h
  no_faults i (v ∷ vs) (u ∷ us) h =
      ap (λ r. under (Index i) (faults_in r) ++ entries_faults c p (suc i) (map (text_child f c) us)) h.0 ∙ no_faults (suc i) vs us h.1

  all_values : (vs : List Val) (us : List (List ℕ)) → AreRead f c (entry_place c.table p) vs us
      → entries_values c p (map (text_child f c) us) ≡ vs
  all_values [] [] h = refl
  all_values [] (u ∷ us) h = absurd h
  all_values (v ∷ vs) [] h = absurd h
  all_values (v ∷ vs) (u ∷ us) h =
      ap (λ r. values_in r ++ entries_values c p (map (text_child f c) us)) h.0 ∙ ap (λ ws. v ∷ ws) (all_values vs us h.1)

  as_many : (vs : List Val) (us : List (List ℕ)) → AreRead f c (entry_place c.table p) vs us
      → length (map (text_child f c) us) ≡ length vs
  as_many [] [] h = refl
  as_many [] (u ∷ us) h = absurd h
  as_many (v ∷ vs) [] h = absurd h
  as_many (v ∷ vs) (u ∷ us) h = ap suc (as_many vs us h.1)

  none_twice : (unique : Bool) (vs : List Val) → (unique ≡ true → AllUnlike vs) → cond (unique && has_twice vs) (one_here Unique) [] ≡ []
  none_twice true vs h = ap (λ b. cond b (one_here Unique) []) (where_unlike vs (h refl))
  none_twice false vs h = refl

  pub list_again : (vs : Vals) (us : List (List ℕ)) → Fits c.table c.test p (list_val vs)
      → AreRead f c (entry_place c.table p) (each_val vs) us → list_reading c p (map (text_child f c) us) ≡ Ok (list_val vs)
  list_again vs us fits h =
      let ws = each_val vs in
      list_closed c p (map (text_child f c) us) ws (no_faults 0 ws us h) (all_values ws us h) (as_many ws us h)
      ∙ ap (λ kinds. settled (here kinds ++ cond (unique_of c.table p && has_twice ws) (one_here Unique) []) (list_val (vals_of ws))) fits.1
      ∙ ap (λ fs. settled fs (list_val (vals_of ws))) (none_twice (unique_of c.table p) ws fits.2)
      ∙ ap (λ xs. ok_reading (list_val xs)) (vals_again vs)

-- an entry that has a text isn't null, so it fits
pub entry_fits : (usual : Format) (t : TableData) (test : Test) (q : Place) (sparse : Bool) (v : Val)
    → FitsOrNull sparse (Fits t test q v) v → has_text_at usual t q v ≡ true → Fits t test q v
entry_fits usual t test q sparse null_val h has = absurd (null_untold (simple_at usual t q) has)
entry_fits usual t test q sparse v h has = h

-- entries of which none fails a test pass it
pub entries_pass : (test : Val → Bool) (i : ℕ) (v : Val) (vs : List Val) → entries_failing test i (v ∷ vs) ≡ []
    → (test v ≡ true) × (entries_failing test (suc i) vs ≡ [])
entries_pass test i v vs h =
    let first = paths_under (Index i) (here_unless (test v)) in
    let rest = entries_failing test (suc i) vs in
    (passed_here (test v) (none_of_paths (Index i) (here_unless (test v)) (none_first first rest h)), none_behind first rest h)
