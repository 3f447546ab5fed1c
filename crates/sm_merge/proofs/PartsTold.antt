-- The answer of merging, from tables, by what was found first.
use Rattle.std.proofs.Common.{◌≡◌, ℕ, suc, ◌<◌, List, [], ◌∷◌, ◌++◌, length, refl, sym, ap, subst, ◌∙◌, arith}
use Rattle.std.specs.Prelude.{Ok, Err}
use Rattle.std.specs.Global.{Vec}
use Rattle.std.specs.List.{Contains}
use Rattle.sm_model.specs.EventView.{AreErrors, events_view}
use Rattle.sm_model.specs.Given.{AreGiven}
use Rattle.sm_model.specs.Graphs.{graph_of}
use Rattle.sm_model.specs.GraphView.{maps_of}
use Rattle.sm_model.specs.PreludeShapes.{prelude_shapes}
use Rattle.sm_model.specs.declared.event.ModelEvent.{ModelEvent}
use Rattle.sm_merge.specs.Answers.{StatementsComeTo}
use Rattle.sm_merge.specs.Merged.{AreEventsOf, IsGraphOf}
use Rattle.sm_merge.specs.Stated.{Stated}
use Rattle.sm_merge.specs.declared.effective.ShapeTraits.{ShapeTraits}
use Rattle.sm_merge.specs.declared.firsts.NamedTarget.{NamedTarget}
use Rattle.sm_merge.specs.Limits.{most_in_traits}
use Rattle.sm_merge.specs.declared.limit.LimitKind.{LimitKind}
use Rattle.sm_merge.specs.declared.refusal.MergeRefusal.TheVariants.{Rejected}
use Rattle.sm_merge.specs.declared.shape_parts.ShapePart.{ShapePart}
use Rattle.sm_merge.specs.declared.tables.Tables.{Tables}
use Rattle.sm_merge.specs.steps.EffectiveTables.{AreEffectiveTables, AreMembersOf, AreSoundTraits}
use Rattle.sm_merge.specs.steps.Links.{At}
use Rattle.sm_merge.specs.steps.Made.{AreAllSound, effective_views, made_shapes, metadata_pairs, parted_shapes, shapes_size}
use Rattle.sm_merge.specs.steps.Verdicts.{AreSoundTables, PartsTell}
use Rattle.sm_merge.specs.steps.Whole.{AreEffective}
use Rattle.sm_merge.proofs.MadeCounts.{AreAsMany, as_many, built_is, effective_rows, may_build, none_told}
use Rattle.sm_merge.proofs.MetadataMade.{gives_nodes, metadata_given, metadata_is}
use Rattle.sm_merge.proofs.WholeCounts.{AreGood, ArePast}

none_among : {X : Type 0} {x : X} → Contains [] x → ⊥
none_among (k, inside, at) = omega (arith, inside)

pub good_tables : (ss : List Stated) (t : Tables) → AreSoundTables ss t → AreGood ss t.shapes.rows.items (metadata_pairs t.metadata.items)
good_tables ss t h = record {
  gives = gives_nodes ss t.traits.items h.tables.traits;
  sound = h.sound;
  shapes = h.tables.shapes.rows;
  metadata_is = metadata_is ss t.metadata.items h.tables.metadata;
}

all_sound : (ts : List ShapeTraits) → ((v : ℕ) (t : ShapeTraits) → At ts v t → AreSoundTraits t) → AreAllSound ts
all_sound [] h = tt
all_sound (t ∷ ts) h = (h 0 t refl, all_sound ts (λ v u at. h (suc v) u at))

pub sound_traits : (ss : List Stated) (t : Tables) (mss : List (Vec NamedTarget)) (ts : List ShapeTraits)
    → AreEffectiveTables ss t.shapes.rows.items mss ts → AreAllSound ts
sound_traits ss t mss ts h = all_sound ts h.sound

module _ (ss : List Stated) (t : Tables) (h : AreSoundTables ss t) (mss : List (Vec NamedTarget)) (ts : List ShapeTraits)
    (members : AreMembersOf ss t.shapes.rows.items mss) (traits : AreEffectiveTables ss t.shapes.rows.items mss ts) where
  pub many : AreAsMany t.shapes.rows.items mss ts
  many = as_many t.shapes.rows.items mss ts members.size traits.size

  pub effective : AreEffective ss t.shapes.rows.items (effective_views mss ts)
  effective = effective_rows ss t.shapes.rows.items mss ts many traits.each

  pub sound : AreAllSound ts
  sound = all_sound ts traits.sound

  module _ (none : (kind : LimitKind) → ArePast kind t.shapes.rows.items mss → ⊥)
      (small : most_in_traits < shapes_size (made_shapes t.shapes.rows.items mss ts) → ⊥) where
    pub rejected : (es : List ModelEvent) → AreEventsOf ss (events_view es) → AreErrors es → 0 < length es
        → StatementsComeTo ss (Err (Rejected es))
    rejected es events errors some = (
      λ g is. none_told ss t.shapes.rows.items (metadata_pairs t.metadata.items) (good_tables ss t h) mss ts many effective sound g is none
          small,
      events,
      errors,
      some,
    )

    pub parts_tell : (parts : Vec ShapePart)
        → parted_shapes t.shapes.rows.items parts.items ≡ made_shapes t.shapes.rows.items mss ts
        → AreEventsOf ss [] → PartsTell ss t (Ok parts)
    parts_tell parts same events =
        let rows = t.shapes.rows.items in
        let metadata = metadata_pairs t.metadata.items in
        let good = good_tables ss t h in (
          subst (λ shapes. AreGiven (shapes ++ prelude_shapes) metadata) (sym same)
              (may_build ss rows metadata good mss ts many effective sound none (metadata_given ss t.metadata.items h.tables.metadata)),
          λ g is.
              let made : maps_of g ≡ graph_of (made_shapes rows mss ts ++ prelude_shapes) metadata =
              is ∙ ap (λ shapes. graph_of (shapes ++ prelude_shapes) metadata) same in
              let graph : IsGraphOf ss (maps_of g) =
              subst (IsGraphOf ss) (sym made) (built_is ss rows metadata good mss ts many effective sound) in (
                graph,
                none_told ss rows metadata good mss ts many effective sound (maps_of g) graph none small,
                λ e wrong. none_among ((events.all e).1 wrong),
              ),
        )
