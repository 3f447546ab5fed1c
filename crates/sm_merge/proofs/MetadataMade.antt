-- What a table of values tells: metadata of a graph, and that values of traits are nodes.
use Rattle.std.proofs.Common.{◌≡◌, inl, inr, ℕ, List, [], ◌∷◌, Option, Some, None, refl, sym, ap, subst}
use Rattle.std.specs.Prelude.{MatchOption}
use Rattle.std.specs.List.{flat_map}
use Rattle.std.specs.FinMap as fin
use Rattle.sm_tree.specs.Node.{Node}
use Rattle.sm_tree.specs.Same.{IsNode}
use Rattle.sm_tree.specs.View.{node_of}
use Rattle.sm_model.specs.Formed.{DifferInNames}
use Rattle.sm_model.specs.Given.{AreNodes, IsNodeMap, are_under}
use Rattle.sm_model.specs.Graphs.{text_cmp}
use Rattle.sm_model.proofs.Rises.{differ_from_rise}
use Rattle.sm_merge.specs.Places.{metadata_by, metadata_values, trait_values}
use Rattle.sm_merge.specs.Stated.{Stated}
use Rattle.sm_merge.specs.Values.{IsValueOf}
use Rattle.sm_merge.specs.steps.Folding.{IsFolded}
use Rattle.sm_merge.specs.steps.Made.{metadata_pairs}
use Rattle.sm_merge.specs.steps.Tables.{AreTraitsOf, AreValuesOf, folded_at, named_view, names_in}
use Rattle.sm_merge.specs.declared.table.NamedValue.{NamedValue}
use Rattle.sm_merge.specs.declared.table.PlaceRow.{PlaceRow}
use Rattle.sm_merge.specs.declared.value.Folded.{Folded}
use Rattle.sm_merge.proofs.EffectiveSound.{GivesNodes}
use Rattle.sm_merge.proofs.EntriesFound.{Has, found_has, has_found, has_made, made_has}
use Rattle.sm_merge.proofs.OneValue.{one_value}
use Rattle.sm_merge.proofs.WholeGraph.{IsMetadataOf}

-- values that are told are nodes
told_node : (vs : List Node) (o : Option Folded) → MatchOption o (vs ≡ []) (IsFolded vs) → (n : Node) → IsValueOf vs n → IsNode n
told_node vs None none n value = absurd (subst (λ l. IsValueOf l n) none value)
told_node vs (Some f) h n value = subst IsNode (one_value vs (node_of f.value) n h.value value) h.running.is_node

pub gives_nodes : (ss : List Stated) (rows : List PlaceRow) → AreTraitsOf ss rows → GivesNodes ss
gives_nodes ss rows h place name n value = told_node (trait_values ss place name) (folded_at place name rows) (h.each place name) n value

-- pairs of values
named_same : (vs : List NamedValue) → names_in vs ≡ are_under (metadata_pairs vs)
named_same [] = refl
named_same (v ∷ vs) = ap (λ names. v.name ∷ names) (named_same vs)

record HasFolded (k : List ℕ) (n : Node) (vs : List NamedValue) : Type 0 where
  f : Folded
  there : Has k f (named_view vs)
  is : n ≡ node_of f.value

folded_there : (vs : List NamedValue) (k : List ℕ) (n : Node) → Has k n (metadata_pairs vs) → HasFolded k n vs
folded_there [] k n h = absurd h
folded_there (v ∷ vs) k n (inl (same, is)) = record { f = v.folded; there = inl (same, refl); is = is }
folded_there (v ∷ vs) k n (inr h) =
    let later = folded_there vs k n h in record { f = later.f; there = inr later.there; is = later.is }

pair_there : (vs : List NamedValue) (k : List ℕ) (f : Folded) → Has k f (named_view vs) → Has k (node_of f.value) (metadata_pairs vs)
pair_there [] k f h = absurd h
pair_there (v ∷ vs) k f (inl (same, is)) = inl (same, ap (λ g. node_of g.value) is)
pair_there (v ∷ vs) k f (inr h) = inr (pair_there vs k f h)

module _ (ss : List Stated) (vs : List NamedValue) (h : AreValuesOf (flat_map metadata_by ss) vs) where
  differ : DifferInNames (are_under (metadata_pairs vs))
  differ = subst DifferInNames (named_same vs) (differ_from_rise (names_in vs) h.rise)

  told : (k : List ℕ) (f : Folded) → Has k f (named_view vs) → IsFolded (metadata_values ss k) f
  told k f there =
      subst (λ o. MatchOption o (metadata_values ss k ≡ []) (IsFolded (metadata_values ss k)))
      (has_found k f (named_view vs) (differ_from_rise (names_in vs) h.rise) there) (h.each k)

  each_node : (ws : List NamedValue) → ((k : List ℕ) (f : Folded) → Has k f (named_view ws) → IsFolded (metadata_values ss k) f)
      → AreNodes (metadata_pairs ws)
  each_node [] all = tt
  each_node (w ∷ ws) all =
      ((all w.name w.folded (inl (refl, refl))).running.is_node, each_node ws (λ k f there. all k f (inr there)))

  pub metadata_given : IsNodeMap (metadata_pairs vs)
  metadata_given = record { differ = differ; nodes = each_node vs told }

  by_found : (k : List ℕ) (n : Node) (o : Option Folded) → fin.find text_cmp k (named_view vs) ≡ o
      → MatchOption o (metadata_values ss k ≡ []) (IsFolded (metadata_values ss k)) → IsValueOf (metadata_values ss k) n
      → Has k n (metadata_pairs vs)
  by_found k n None is none value = absurd (subst (λ l. IsValueOf l n) none value)
  by_found k n (Some f) is folded value =
      subst (λ m. Has k m (metadata_pairs vs)) (one_value (metadata_values ss k) (node_of f.value) n folded.value value)
      (pair_there vs k f (found_has k f (named_view vs) is))

  pub metadata_is : IsMetadataOf ss (metadata_pairs vs)
  metadata_is k n = (
    λ got.
        let there = folded_there vs k n (made_has (metadata_pairs vs) k n got) in
        subst (IsValueOf (metadata_values ss k)) (sym there.is) (told k there.f there.there).value,
    λ value. has_made (metadata_pairs vs) k n differ (by_found k n (fin.find text_cmp k (named_view vs)) refl (h.each k) value),
  )
