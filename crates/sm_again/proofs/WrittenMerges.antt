-- The files that are written for namespaces of a merged graph come to their part of it, and those of all namespaces to the graph.
use Rattle.std.proofs.Common.{◌≡◌, inl, inr, ℕ, Bool, true, false, List, [], ◌∷◌, Some, refl, sym, ap, subst, ◌∙◌, bytes_eq}
use Rattle.std.specs.Prelude.{◌||◌, ◌&&◌, cond, not}
use Rattle.std.specs.List.{list_any}
use Rattle.std.specs.FinMap as fin
use Rattle.std.proofs.lemmas.Slice.Eq.{bytes_eq-Decides}
use Rattle.sm_model.specs.Formed.{DifferInNames, StandsAmong}
use Rattle.sm_model.specs.Graphs.{Entry, GraphMaps, member_entry, shape_entry}
use Rattle.sm_model.specs.GraphView.{maps_of}
use Rattle.sm_model.specs.PreludeShapes.{is_prelude_id}
use Rattle.sm_model.specs.Said.{Said}
use Rattle.sm_model.specs.Used.{shape_part}
use Rattle.sm_merge.specs.Merged.{IsGraphOf}
use Rattle.sm_merge.specs.Stated.{AreFormedFiles, all_said, defined_among, stated_by}
use Rattle.sm_ids.proofs.TextCuts.{of_member, of_shape}
use Rattle.sm_merge.proofs.GraphSound.{stands_sound}
use Rattle.sm_merge.proofs.PreludeGiven.{stands_by_test}
use Rattle.sm_ids.specs.TextParts.{namespace_part}
use Rattle.sm_merge.specs.Restated.{StatesPart, is_kept}
use Rattle.sm_again.specs.WrittenMerges.{AreAllNamespaces, EnumsTargetUnit, HasRoom, WrittenAgain, WrittenMerges, is_of, written_files}
use Rattle.sm_again.proofs.NamespaceOnce.{metadata_in_files, one_stated}
use Rattle.sm_again.proofs.NamespaceStates.{IsWhole, namespaces_state}
use Rattle.sm_merge.proofs.RegularGraphs.{IsRegularEntry, merged_regular}
use Rattle.sm_merge.proofs.RestatedEvents.{IsPartOf, part_again, stated_again_law}
use Rattle.sm_merge.proofs.Restating.{kept_by_shape, or_left, prelude_shape}

any_stands : (k : List ℕ) (ks : List (List ℕ)) → list_any (bytes_eq k) ks ≡ true → StandsAmong k ks
any_stands k [] h = absurd (subst (λ c. cond c ⊥ (Unit {0})) h tt)
any_stands k (j ∷ ks) h = by_test (λ later. any_stands k ks later) (bytes_eq k j) refl h
  where
    by_test : (list_any (bytes_eq k) ks ≡ true → StandsAmong k ks) → (b : Bool) → bytes_eq k j ≡ b
        → (b || list_any (bytes_eq k) ks) ≡ true → StandsAmong k (j ∷ ks)
    by_test rest true same h = inl ((bytes_eq-Decides k j).0 same)
    by_test rest false apart h = inr (rest h)

both : (b c : Bool) → (b && not c) ≡ true → (b ≡ true) × (c ≡ false)
both true true h = absurd (subst (λ c. cond c ⊥ (Unit {0})) h tt)
both true false h = (refl, refl)
both false c h = absurd (subst (λ c. cond c ⊥ (Unit {0})) h tt)

module _ (g : GraphMaps) (whole : IsWhole g) (namespaces : List (List ℕ)) (d : DifferInNames namespaces) (room : HasRoom g namespaces) where
  pub files_state_part : StatesPart (is_of namespaces) g (stated_by (written_files g namespaces))
  files_state_part =
      let defined = defined_among (all_said (written_files g namespaces)) in record {
        each = namespaces_state g whole defined (is_of namespaces) namespaces (λ namespace among id is.
            let parts = both (bytes_eq (namespace_part id) namespace) (is_prelude_id id) is in (
              parts.1,
              stands_by_test (namespace_part id) namespaces
                  (subst (λ n. StandsAmong n namespaces) (sym ((bytes_eq-Decides (namespace_part id) namespace).0 parts.0)) among),
            ));
        shapes = λ id s found own kept. one_stated defined id g namespaces d (any_stands (namespace_part id) namespaces kept) s found own;
        metadata = λ key n found none. metadata_in_files defined key n g namespaces found (room key n found) none;
      }

merged_whole : (files : List (List Said)) (g : GraphMaps) → AreFormedFiles files → IsGraphOf (stated_by files) g → EnumsTargetUnit g
    → IsWhole g
merged_whole files g formed is enums = record {
  regular = merged_regular files formed g is;
  sound = λ id e found. stands_sound files formed id e ((is.shapes id e).0 found);
  enums = enums;
}

pub written_again : WrittenAgain
written_again files g namespaces formed is enums d room =
    stated_again_law files g (is_of namespaces) (stated_by (written_files g namespaces)) formed is
    (files_state_part g (merged_whole files g formed is enums) namespaces d room)

-- all namespaces keep all of a graph
module _ (g : GraphMaps) (whole : IsWhole g) (namespaces : List (List ℕ)) (all : AreAllNamespaces g namespaces) where
  all_kept : (id : List ℕ) (e : Entry) → fin.get g.shapes id ≡ Some e → is_kept (is_of namespaces) id ≡ true
  all_kept id e found = elim (whole.regular.entries id e found) [
    | inl of ↦ or_left (is_prelude_id (shape_part id)) (is_of namespaces (shape_part id)) (prelude_shape id e of)
    | inr r ↦ by_entry e found r
  ]
    where
      by_entry : (e : Entry) → fin.get g.shapes id ≡ Some e → IsRegularEntry g id e → is_kept (is_of namespaces) id ≡ true
      by_entry (shape_entry s) found r =
          kept_by_shape (is_of namespaces) id id (of_shape id r.is) (stands_by_test (namespace_part id) namespaces (all.all id s found r.own))
      by_entry (member_entry m) found r =
          kept_by_shape (is_of namespaces) id r.shape (ap shape_part r.under ∙ of_member r.shape r.is.is r.name)
          (stands_by_test (namespace_part r.shape) namespaces (all.all r.shape r.s r.there r.is.own))

  whole_part : IsPartOf (is_of namespaces) g g
  whole_part = record {
    shapes = λ id e. (λ found. (found, all_kept id e found), λ there. there.0);
    metadata = λ key n. (λ found. found, λ found. found);
  }

pub written_merges : WrittenMerges
written_merges files graph namespaces formed merged enums all room =
    let g = maps_of graph in
    let whole = merged_whole files g formed merged.0 enums in
    let comes = part_again g g (is_of namespaces) (stated_by (written_files g namespaces)) whole.regular
    (files_state_part g whole namespaces all.differ room) (whole_part g whole namespaces all) in
    (comes.graph, merged.1, comes.nothing_wrong)
