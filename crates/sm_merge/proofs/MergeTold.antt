-- The answer of merging, stage by stage: what tables tell once their members, and then their traits, are known.
use Rattle.std.proofs.Common.{◌≡◌, ℕ, ◌<◌, List, [], ◌∷◌, length, Option, None, Some, refl, sym, subst, arith}
use Rattle.std.specs.Prelude.{Ok, Err, Result}
use Rattle.std.specs.Global.{Vec}
use Rattle.sm_model.specs.EventView.{AreErrors, events_view}
use Rattle.sm_model.specs.declared.event.ModelEvent.{ModelEvent}
use Rattle.sm_model.specs.declared.graph.Graph.{Graph}
use Rattle.sm_merge.specs.Answers.{StatementsComeTo}
use Rattle.sm_merge.specs.Merged.{AreEventsOf}
use Rattle.sm_merge.specs.Stated.{Stated}
use Rattle.sm_merge.specs.declared.effective.ShapeTraits.{ShapeTraits}
use Rattle.sm_merge.specs.declared.firsts.NamedTarget.{NamedTarget}
use Rattle.sm_merge.specs.Limits.{most_shapes, most_members_in_all}
use Rattle.sm_merge.specs.declared.limit.LimitKind.{LimitKind}
use Rattle.sm_merge.specs.declared.limit.LimitKind.TheVariants.{Shapes, Members, AllMembers, Traits}
use Rattle.sm_merge.specs.declared.mixins.Contributing.{Contributing}
use Rattle.sm_merge.specs.declared.parts.BareShape.{BareShape}
use Rattle.sm_merge.specs.declared.refusal.MergeRefusal.{MergeRefusal}
use Rattle.sm_merge.specs.declared.refusal.MergeRefusal.TheVariants.{Limit, NoMemory, Rejected}
use Rattle.sm_merge.specs.declared.shape_parts.ShapePart.{ShapePart}
use Rattle.sm_merge.specs.declared.table.PlaceRow.{PlaceRow}
use Rattle.sm_merge.specs.declared.tables.Tables.{Tables}
use Rattle.sm_merge.specs.declared.walk.Walk.{Walk}
use Rattle.sm_merge.specs.steps.Contributing.{AreWalkedTables}
use Rattle.sm_merge.specs.steps.Counting.{AreListedTraits, HasLargeTraits, ListsTraits}
use Rattle.sm_merge.specs.steps.EffectiveTables.{effective_view}
use Rattle.sm_merge.specs.steps.Made.{made_shapes, metadata_pairs, members_count, parted_shapes}
use Rattle.sm_merge.specs.steps.MixedIn.{AreMixedIn}
use Rattle.sm_merge.specs.steps.MixinLinks.{WalksMixins}
use Rattle.sm_merge.specs.steps.ShapeTables.{ids_of}
use Rattle.sm_merge.specs.steps.Stopping.{AreListed, HasLongShape, ListsMembers}
use Rattle.sm_merge.specs.steps.ToldEvents.{AllMade, AreToldFrom}
use Rattle.sm_merge.specs.steps.Verdicts.{AreNamedTables, AreSoundTables, AreWholeTables, Builds, PartsTell}
use Rattle.sm_merge.proofs.Ats.{at_there, at_within}
use Rattle.sm_merge.proofs.LimitsTold.{all_members_told, large_traits_told, long_shape_told, shapes_told}
use Rattle.sm_merge.proofs.MixedMade.{mixed_order}
use Rattle.sm_merge.proofs.NamesMixed.{members_are}
use Rattle.sm_merge.proofs.ShapeNumbers.{ids_count, shape_ids}
use Rattle.sm_merge.proofs.PartsTold.{good_tables, parts_tell, rejected}
use Rattle.sm_merge.proofs.Stopped.{long_shape}
use Rattle.sm_merge.proofs.TraitsListed.{traits_are, traits_large, traits_small}
use Rattle.sm_merge.proofs.WholeGiven.{rows_stated, shapes_given}
use Rattle.sm_merge.proofs.WholeCounts.{ArePast, IsOfMembers}

walked_tables : (ss : List Stated) (t : Tables) (walk : Walk) → AreSoundTables ss t → WalksMixins t.shapes.rows.items walk
    → AreWalkedTables ss t.shapes.rows.items t.traits.items walk
walked_tables ss t walk h walks = record {
  shapes = h.tables.shapes.rows;
  traits_of = h.tables.traits;
  walked = walks ss h.tables.shapes.rows;
}

module _ (ss : List Stated) (t : Tables) (walk : Walk) (h : AreSoundTables ss t) (walks : WalksMixins t.shapes.rows.items walk) where
  -- too many shapes
  pub many_shapes_told : most_shapes < length t.shapes.rows.items → StatementsComeTo ss (Err (Limit Shapes))
  many_shapes_told past = λ g is.
      shapes_told ss t.shapes.rows.items (metadata_pairs t.metadata.items) (good_tables ss t h) walk (walks ss h.tables.shapes.rows)
      g is past

  module _ (few : most_shapes < length t.shapes.rows.items → ⊥) (mixed : List (Vec Contributing))
      (mixed_in : AreWalkedTables ss t.shapes.rows.items t.traits.items walk → AreMixedIn ss t.shapes.rows.items mixed) where
    -- too many members of a shape
    pub long_told : HasLongShape t.shapes.rows.items mixed walk.order.items → StatementsComeTo ss (Err (Limit Members))
    long_told one = λ g is.
        let w = walked_tables ss t walk h walks in
        let l = long_shape ss t.shapes.rows.items t.traits.items walk w mixed (mixed_in w) one in
        long_shape_told ss t.shapes.rows.items (metadata_pairs t.metadata.items) (good_tables ss t h) walk w.walked g is few l.number l.id
        l.there l.long

    -- the names of members
    pub named_tables : (members : List (Vec NamedTarget)) → AreListed t.shapes.rows.items mixed walk.order.items members
        → AreNamedTables ss t walk mixed members
    named_tables members listed =
        let w = walked_tables ss t walk h walks in
        let are = mixed_in w in
        let o = mixed_order ss t.shapes.rows.items t.traits.items walk w mixed are in
        record {
          sound = h;
          walked = w;
          mixed_in = are;
          filled = listed.filled o;
          named = members_are ss t.shapes.rows.items t.traits.items walk w mixed are o members (listed.filled o) listed.size;
          few = few;
          short = listed.short;
        }

-- the same of slices of these
module _ (ss : List Stated) (t : Tables) (walk : Walk) (h : AreSoundTables ss t) (rows : List BareShape) (traits : List PlaceRow)
    (mixed slice : List (Vec Contributing)) (order : List ℕ) (rows_are : rows ≡ t.shapes.rows.items) (given_are : traits ≡ t.traits.items)
    (mixed_are : slice ≡ mixed) (order_is : order ≡ walk.order.items) (walks : WalksMixins rows walk) (few : most_shapes < length rows → ⊥)
    (mixed_in : AreWalkedTables ss rows traits walk → AreMixedIn ss rows mixed) where
  walks_of : WalksMixins t.shapes.rows.items walk
  walks_of = subst (λ rs. WalksMixins rs walk) rows_are walks

  few_of : most_shapes < length t.shapes.rows.items → ⊥
  few_of past = few (subst (λ rs. most_shapes < length rs) (sym rows_are) past)

  mixed_of : AreWalkedTables ss t.shapes.rows.items t.traits.items walk → AreMixedIn ss t.shapes.rows.items mixed
  mixed_of = subst (λ rs. AreWalkedTables ss rs t.traits.items walk → AreMixedIn ss rs mixed) rows_are
      (subst (λ ts. AreWalkedTables ss rows ts walk → AreMixedIn ss rows mixed) given_are mixed_in)

  listed_of : (o : Option (Vec (Vec NamedTarget))) → ListsMembers rows slice order o → ListsMembers t.shapes.rows.items mixed
      walk.order.items o
  listed_of o lists =
      subst (λ rs. ListsMembers rs mixed walk.order.items o) rows_are
      (subst (λ m. ListsMembers rows m walk.order.items o) mixed_are (subst (λ k. ListsMembers rows slice k o) order_is lists))

  pub slices_long : ListsMembers rows slice order None → StatementsComeTo ss (Err (Limit Members))
  slices_long lists = long_told ss t walk h walks_of few_of mixed mixed_of (listed_of None lists)

  pub slices_named : (members : Vec (Vec NamedTarget)) → ListsMembers rows slice order (Some members) → (again : List (Vec Contributing))
      → again ≡ mixed → (now : List (Vec NamedTarget)) → now ≡ members.items → AreNamedTables ss t walk again now
  slices_named members lists again again_is now now_is =
      subst (λ m. AreNamedTables ss t walk m now) (sym again_is) (subst (λ ms. AreNamedTables ss t walk mixed ms) (sym now_is)
      (named_tables ss t walk h walks_of few_of mixed mixed_of members.items (listed_of (Some members) lists)))

module _ (ss : List Stated) (t : Tables) (walk : Walk) (mixed : List (Vec Contributing)) (members : List (Vec NamedTarget))
    (h : AreNamedTables ss t walk mixed members) where
  pub all_many_told : most_members_in_all < members_count members → StatementsComeTo ss (Err (Limit AllMembers))
  all_many_told past = λ g is.
      all_members_told ss t.shapes.rows.items (metadata_pairs t.metadata.items) (good_tables ss t h.sound) walk h.walked.walked g is
      members h.named h.few h.short past

  module _ (fewer : most_members_in_all < members_count members → ⊥) where
    not_past_before : (kind : LimitKind) → IsOfMembers kind → ArePast kind t.shapes.rows.items members → ⊥
    not_past_before Shapes of = h.few
    not_past_before Members of = h.short
    not_past_before AllMembers of = fewer
    not_past_before Traits of = λ never. never

    -- too large traits
    pub large_told : HasLargeTraits t.shapes.rows.items t.traits.items members mixed walk.order.items → StatementsComeTo ss
        (Err (Limit Traits))
    large_told large = λ g is.
        let good = good_tables ss t h.sound in
        large_traits_told ss t.shapes.rows.items (metadata_pairs t.metadata.items) good walk h.walked.walked g is members h.named
        not_past_before (λ es are.
        traits_large ss t.shapes.rows.items t.traits.items walk h.walked mixed h.mixed_in members h.filled large es
        (shapes_given ss good.gives good.sound t.shapes.rows.items es (rows_stated ss t.shapes.rows.items good.shapes) are) are)

    -- and traits
    pub whole_tables : (all : List ShapeTraits) → AreListedTraits t.shapes.rows.items t.traits.items members mixed walk.order.items all
        → AreWholeTables ss t walk mixed members all
    whole_tables all listed = record {
      names = h;
      effective = traits_are ss t.shapes.rows.items t.traits.items walk h.walked mixed h.mixed_in members h.filled all listed;
      fewer = fewer;
      small = traits_small ss t.shapes.rows.items t.traits.items walk h.walked mixed h.mixed_in members h.filled all listed h.named.size;
    }

    -- the same of slices
    module _ (rows : List BareShape) (traits : List PlaceRow) (order : List ℕ) (rows_are : rows ≡ t.shapes.rows.items)
        (given_are : traits ≡ t.traits.items) (order_is : order ≡ walk.order.items) where
      lists_of : (o : Option (Vec ShapeTraits)) → ListsTraits rows traits members mixed order o
          → ListsTraits t.shapes.rows.items t.traits.items members mixed walk.order.items o
      lists_of o lists =
          subst (λ rs. ListsTraits rs t.traits.items members mixed walk.order.items o) rows_are
          (subst (λ ts. ListsTraits rows ts members mixed walk.order.items o) given_are
          (subst (λ k. ListsTraits rows traits members mixed k o) order_is lists))

      pub slices_large : ListsTraits rows traits members mixed order None → StatementsComeTo ss (Err (Limit Traits))
      slices_large lists = large_told (lists_of None lists)

      pub slices_whole : (all : Vec ShapeTraits) → ListsTraits rows traits members mixed order (Some all) → (now : List ShapeTraits)
          → now ≡ all.items → AreWholeTables ss t walk mixed members now
      slices_whole all lists now now_is =
          subst (AreWholeTables ss t walk mixed members) (sym now_is) (whole_tables all.items (lists_of (Some all) lists))

module _ (ss : List Stated) (t : Tables) (walk : Walk) (mixed : List (Vec Contributing)) (members : List (Vec NamedTarget))
    (all : List ShapeTraits) (h : AreWholeTables ss t walk mixed members all) where
  pub not_past : (kind : LimitKind) → ArePast kind t.shapes.rows.items members → ⊥
  not_past Shapes = h.names.few
  not_past Members = h.names.short
  not_past AllMembers = h.fewer
  not_past Traits = λ never. never

  all_made : AllMade ss
  all_made id s there =
      let number = (shape_ids ss t.shapes.rows.items h.names.walked.shapes).all id s there in
      let inside = at_within (ids_of t.shapes.rows.items) number.number id number.there in
      let count = ids_count t.shapes.rows.items in
      let members_size = h.names.named.size in
      let traits_size = h.effective.size in
      let ms = at_there members number.number (omega (arith, inside, count, members_size)) in
      let ts = at_there all number.number (omega (arith, inside, count, traits_size)) in
      (effective_view ms.0.items ts.0, h.effective.each number.number id ms.0 ts.0 number.there ms.1 ts.1)

  pub told_from : AreToldFrom ss t walk mixed members
  told_from = record {
    tables = h.names.sound.tables;
    walked = h.names.walked;
    mixed = h.names.mixed_in;
    members = h.names.named;
    made = all_made;
  }

  -- something is wrong
  pub whole_rejected : (es : List ModelEvent) → AreEventsOf ss (events_view es) → AreErrors es → 0 < length es
      → StatementsComeTo ss (Err (Rejected es))
  whole_rejected = rejected ss t h.names.sound members all h.names.named h.effective not_past h.small

  -- or nothing
  pub whole_tell : (parts : Vec ShapePart) → parted_shapes t.shapes.rows.items parts.items ≡ made_shapes t.shapes.rows.items members all
      → AreEventsOf ss [] → PartsTell ss t (Ok parts)
  whole_tell = parts_tell ss t h.names.sound members all h.names.named h.effective not_past h.small

pub none_of : {A : Type 0} (xs : List A) → (0 < length xs → ⊥) → xs ≡ []
none_of [] h = refl
none_of (x ∷ xs) h = absurd (h (omega arith))

-- the graph that was built
pub built_told : (ss : List Stated) (t : Tables) (parts : Vec ShapePart) (r : Result Graph MergeRefusal) → Builds t parts.items r
    → PartsTell ss t (Ok parts) → StatementsComeTo ss r
built_told ss t parts (Ok g) made tell = tell.1 g made
built_told ss t parts (Err NoMemory) made tell = tt
built_told ss t parts (Err (Limit kind)) made tell = absurd made
built_told ss t parts (Err (Rejected es)) made tell = absurd made
