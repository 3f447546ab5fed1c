use Rattle.std.proofs.Common.{sym, subst}
use Rattle.sm_model.specs.Given.{AreNodes}
use Rattle.sm_merge.specs.Stated.{stated_by}
use Rattle.sm_merge.specs.Files.{files_view}
use Rattle.sm_merge.specs.steps.Placed.{ArePartsOf}
use Rattle.sm_merge.specs.steps.ShapeTables.{AreSoundBares}
use Rattle.sm_merge.specs.steps.Tables.{ArePlacedNodes, ArePlacesOf, AreValuesOf}
use Rattle.sm_merge.proofs.NodesMeant.{values_are_nodes}
use Rattle.sm_merge.proofs.ShapesFound.{table_told}
use Rattle.sm_merge.proofs.TraitsTold.{bares_are_sound, metadata_are_nodes, traits_are_nodes, traits_told}
use Rattle.sm_merge.proofs.tables.tables_of.Goals as goal

pub place_rows-requires : goal.place_rows-requires
place_rows-requires c =
    let ss = stated_by (files_view c.args.files.now) in
    let told : ArePartsOf ss c.in_ok-parts.parts = subst
    (λ s. ArePartsOf s c.in_ok-parts.parts) c.in_ok-stated.ensures c.in_ok-parts.ensures in
    subst ArePlacedNodes (sym told.traits) (traits_are_nodes ss (values_are_nodes (files_view c.args.files.now) c.requires))

pub named_values-requires : goal.named_values-requires
named_values-requires c =
    let ss = stated_by (files_view c.args.files.now) in
    let told : ArePartsOf ss c.in_ok-parts.parts = subst
    (λ s. ArePartsOf s c.in_ok-parts.parts) c.in_ok-stated.ensures c.in_ok-parts.ensures in
    subst AreNodes (sym told.metadata) (metadata_are_nodes ss (values_are_nodes (files_view c.args.files.now) c.requires))

pub shape_table-requires : goal.shape_table-requires
shape_table-requires c =
    let ss = stated_by (files_view c.args.files.now) in
    let told : ArePartsOf ss c.in_ok-parts.parts = subst
    (λ s. ArePartsOf s c.in_ok-parts.parts) c.in_ok-stated.ensures c.in_ok-parts.ensures in
    subst AreSoundBares (sym told.shapes) (bares_are_sound ss (values_are_nodes (files_view c.args.files.now) c.requires))

pub returns : goal.returns
returns c =
    let ss = stated_by (files_view c.args.files.now) in
    let told : ArePartsOf ss c.in_ok-parts.parts = subst
    (λ s. ArePartsOf s c.in_ok-parts.parts) c.in_ok-stated.ensures c.in_ok-parts.ensures in
    record {
      traits = traits_told ss c.in_ok-traits.traits.items
          (subst (λ es. ArePlacesOf es c.in_ok-traits.traits.items) told.traits c.in_ok-traits.ensures);
      metadata = subst (λ ps. AreValuesOf ps c.in_ok-metadata.metadata.items) told.metadata c.in_ok-metadata.ensures;
      shapes =
          table_told c.same_to_itself.ensures ss c.in_ok-parts.parts.shapes.items c.in_ok-shapes.shapes told.shapes
          (subst AreSoundBares (sym told.shapes) (bares_are_sound ss (values_are_nodes (files_view c.args.files.now) c.requires)))
          c.in_ok-shapes.ensures;
      applied = told.applied;
    }
