-- In the files of namespaces each of their shapes is stated once, and where there is a file all metadata.
use Rattle.std.proofs.Common.{◌≡◌, inl, inr, ℕ, true, false, List, [], ◌∷◌, ◌++◌, Some, refl, sym, ap, subst, ◌∙◌}
use Rattle.std.proofs.Common.{bytes_eq}
use Rattle.std.specs.Prelude.{◌&&◌, not}
use Rattle.std.specs.FinMap as fin
use Rattle.std.proofs.lemmas.Bool.{cases_Bool}
use Rattle.std.proofs.lemmas.Slice.Eq.{bytes_eq-Decides}
use Rattle.sm_tree.specs.Node.{Node}
use Rattle.sm_model.specs.Formed.{DifferInNames, StandsAmong}
use Rattle.sm_model.specs.Graphs.{GraphMaps, ShapeEntry, shape_entry}
use Rattle.sm_model.specs.PreludeShapes.{is_prelude_id}
use Rattle.sm_model.specs.Said.{Said}
use Rattle.sm_merge.specs.Meaning.{Defined}
use Rattle.sm_merge.specs.Stated.{ShapeStated, all_said}
use Rattle.sm_merge.proofs.RestatedFiles.{metadata_there, none_in_file, one_in_file, stated_under, stated_values, under_joined}
use Rattle.sm_idl.specs.Written.{is_written}
use Rattle.sm_ids.specs.TextParts.{namespace_part}
use Rattle.sm_idl.specs.WrittenFile.{namespace_file}
use Rattle.sm_again.specs.WrittenMerges.{written_files}
use Rattle.sm_again.proofs.NamespaceStates.{file_is, said_for}

module _ (defined : Defined) (id : List ℕ) (g : GraphMaps) where
  abbrev Under : List Said → List ShapeStated
  Under ss = stated_under defined id ss

  abbrev file : List ℕ → List Said
  file namespace = (namespace_file g namespace).said

  other_file : (namespace : List ℕ) → (namespace_part id ≡ namespace → ⊥) → Under (file namespace) ≡ []
  other_file namespace other = elim (cases_Bool (bytes_eq (namespace_part id) namespace)) [
    | inl same ↦ absurd (other ((bytes_eq-Decides (namespace_part id) namespace).0 same))
    | inr apart ↦
        ap Under (file_is g namespace)
        ∙ none_in_file defined id (is_written namespace) (said_for g namespace) (λ k t. refl) g
        (ap (λ b. b && not (is_prelude_id id)) apart)
  ]

  other_files : (ns : List (List ℕ)) → (StandsAmong (namespace_part id) ns → ⊥) → Under (all_said (written_files g ns)) ≡ []
  other_files [] none = refl
  other_files (n ∷ ns) none =
      under_joined defined id (file n) (all_said (written_files g ns))
      ∙ ap (λ ts. ts ++ Under (all_said (written_files g ns))) (other_file n (λ same. none (inl same)))
      ∙ other_files ns (λ later. none (inr later))

  pub one_stated : (ns : List (List ℕ)) → DifferInNames ns → StandsAmong (namespace_part id) ns → (s : ShapeEntry)
      → fin.get g.shapes id ≡ Some (shape_entry s) → is_prelude_id id ≡ false
      → (t : ShapeStated) × (Under (all_said (written_files g ns)) ≡ t ∷ [])
  one_stated [] d among s found own = absurd among
  one_stated (n ∷ ns) d (inl same) s found own =
      let written : is_written n id ≡ true =
      ap (λ b. b && not (is_prelude_id id)) ((bytes_eq-Decides (namespace_part id) n).1 same) ∙ ap not own in
      let one = one_in_file defined id (is_written n) (said_for g n) (λ k t. refl) g s found written own in
      let rest = other_files ns (λ among. d.0 (subst (λ j. StandsAmong j ns) same among)) in (
        one.0,
        under_joined defined id (file n) (all_said (written_files g ns))
            ∙ ap (λ ts. ts ++ Under (all_said (written_files g ns))) (ap Under (file_is g n) ∙ one.1)
            ∙ ap (λ ts. one.0 ∷ ts) rest,
      )
  one_stated (n ∷ ns) d (inr later) s found own =
      let rest = one_stated ns d.1 later s found own in (
        rest.0,
        under_joined defined id (file n) (all_said (written_files g ns))
            ∙ ap (λ ts. ts ++ Under (all_said (written_files g ns))) (other_file n (λ same. d.0 (subst (λ j. StandsAmong j ns) same later)))
            ∙ rest.1,
      )

pub metadata_in_files : (defined : Defined) (key : List ℕ) (n : Node) (g : GraphMaps) (ns : List (List ℕ)) → fin.get g.metadata key ≡ Some n
    → (ns ≡ [] → ⊥) → stated_values defined key n (all_said (written_files g ns)) ≡ [] → ⊥
metadata_in_files defined key n g [] found some none = some refl
metadata_in_files defined key n g (m ∷ ns) found some none =
    metadata_there defined key n (is_written m) (said_for g m) g (all_said (written_files g ns)) found
    (ap (λ ss. stated_values defined key n (ss ++ all_said (written_files g ns))) (sym (file_is g m)) ∙ none)
