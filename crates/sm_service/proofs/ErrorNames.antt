-- Rows of errors whose ids differ have names that differ, where no two of the ids have one name.
use Rattle.std.proofs.Common.{ℕ, List, [], ◌∷◌, map, sym, ap, ◌∙◌, subst}
use Rattle.sm_ids.specs.TextParts.{name_part}
use Rattle.sm_model.specs.Graphs.{GraphMaps}
use Rattle.sm_model.proofs.OneRising.{contains_behind, contains_head}
use Rattle.sm_shapes.specs.Names.{AllDiffer}
use Rattle.sm_compile.specs.Compiled.{EachSays, Numbering}
use Rattle.sm_compile.proofs.TabledShapes.{mapped_from}
use Rattle.sm_service.specs.Compiled.{SaysError}
use Rattle.sm_service.specs.ServiceData.{name_of_error}
use Rattle.sm_service.specs.declared.error.ErrorShape.{ErrorShape}
use Rattle.sm_service.specs.steps.OperationRows.{NamesTell}
use Rattle.sm_service.proofs.OperationsTold.{rows_map}
use Rattle.sm_service.proofs.ServableIds.{is_none, none_is}

parts_differ : (ids : List (List ℕ)) → AllDiffer ids → NamesTell ids → AllDiffer (map name_part ids)
parts_differ [] differ tell = tt
parts_differ (a ∷ ids) differ tell = (
  none_is (name_part a) (map name_part ids) (λ y there same.
      let r = mapped_from name_part ids y there in
      is_none a ids differ.0 r.0 r.1 (tell r.0 a (contains_behind a r.0 ids r.1) (contains_head a ids) (r.2 ∙ same))),
  parts_differ ids differ.1 (λ x y h k same. tell x y (contains_behind a x ids h) (contains_behind a y ids k) same),
)

pub names_apart : (g : GraphMaps) (n : Numbering) (ids : List (List ℕ)) (es : List ErrorShape) → EachSays (SaysError g n) ids es
    → AllDiffer ids → NamesTell ids → AllDiffer (map name_of_error es)
names_apart g n ids es says differ tell =
    subst AllDiffer (sym (rows_map (SaysError g n) name_of_error name_part (λ id e says. ap name_part says.id_is) ids es says))
    (parts_differ ids differ tell)
