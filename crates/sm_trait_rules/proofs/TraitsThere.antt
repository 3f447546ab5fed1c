-- The traits of what stands under an id are those of its entry.
use Rattle.std.proofs.Common.{◌≡◌, ℕ, List, Some, sym, ap, ◌∙◌, subst}
use Rattle.std.specs.FinMap as fin
use Rattle.std.specs.List.{Contains}
use Rattle.sm_tree.specs.View.{members_view}
use Rattle.sm_tree.specs.declared.tree.Tree.{Tree}
use Rattle.sm_model.specs.Graphs.{Entry, GraphMaps, traits_in}
use Rattle.sm_compile.specs.Sound.{trait_in}
use Rattle.sm_compile.proofs.TabledShapes.{mapped_to}
use Rattle.sm_trait_rules.proofs.JudgedTraits.{pair_seen}
use Rattle.sm_passes.proofs.TraitEntries.{entry_found}
use Rattle.sm_trait_rules.specs.steps.StandingTraits.{AreTraitsAt}

module _ (g : GraphMaps) (id : List ℕ) (x : Entry) (has : fin.get g.shapes id ≡ Some x) (ts : List (List ℕ × Tree))
    (are : fin.entries (traits_in x) ≡ members_view ts) where
  pub traits_there : AreTraitsAt g id ts
  traits_there t among =
      ap (trait_in t.0) has
      ∙ entry_found (traits_in x) (pair_seen t)
      (subst (λ ps. Contains ps (pair_seen t)) (sym are) (mapped_to pair_seen ts t among))
