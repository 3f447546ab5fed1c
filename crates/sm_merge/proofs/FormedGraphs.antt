-- The graph of formed statements that is within the limits has the form of one: it is made of their shapes with their mixins, and of
-- those of the prelude.
use Rattle.std.proofs.Common.{◌≡◌, ◌⊎◌, ◌≤◌, ◌<◌, ◌+◌, ◌^◌, inl, inr, ℕ, false, List, [], ◌∷◌, ◌++◌, map, length, Some}
use Rattle.std.proofs.Common.{refl, sym, ap, subst, ◌∙◌, arith, length-append}
use Rattle.std.specs.Prelude.{◌↔◌}
use Rattle.std.specs.FinMap as fin
use Rattle.std.specs.List.{sum_by}
use Rattle.std.proofs.lemmas.Bool.{cases_lt}
use Rattle.std.proofs.lemmas.List.{map-append}
use Rattle.std.proofs.lemmas.List.Elements.{Contains-append_right}
use Rattle.std.proofs.lemmas.List.Sorted.{sum_by-IsPermutation}
use Rattle.std.proofs.lemmas.Option.{same_Some}
use Rattle.sm_tree.specs.Node.{Node}
use Rattle.sm_model.specs.Formed.{StandsAmong, DifferInNames}
use Rattle.sm_model.specs.FormedGraph.{IsFormedGraph}
use Rattle.sm_model.specs.Given.{AreGivenShapes, given_ids}
use Rattle.sm_model.specs.Graphs.{Entry, GraphMaps, ShapeGiven, given_entries, given_members, given_shape, graph_of, member_id}
use Rattle.sm_model.specs.Kinds.{member_form}
use Rattle.sm_model.specs.PreludeShapes.{is_prelude_id, prelude_shapes}
use Rattle.sm_model.specs.Said.{Said}
use Rattle.sm_model.proofs.MapFacts.{keys, keys_differ}
use Rattle.sm_merge.specs.Limits.{IsWithinLimits, members_in, own_entries, shapes_in}
use Rattle.sm_merge.specs.Merged.{IsGraphOf, IsMergedMember, IsMergedShape, IsOfPrelude, StandsUnder}
use Rattle.sm_merge.specs.Mixins.{EffectiveShape, IsEffective, names_of}
use Rattle.sm_merge.specs.Places.{metadata_values, shape_under}
use Rattle.sm_merge.specs.Stated.{AreFormedFiles, ShapeStated, Stated, stated_by}
use Rattle.sm_merge.specs.Values.{IsValueOf}
use Rattle.sm_merge.specs.declared.limit.LimitKind.TheVariants.{Shapes, AllMembers}
use Rattle.sm_merge.specs.Limits.{most_members_in_all, most_shapes}
use Rattle.sm_merge.specs.steps.Placed.{bare_of}
use Rattle.sm_merge.specs.steps.SoundStated.{AreSoundStated}
use Rattle.sm_merge.specs.steps.Whole.{whole_member, whole_shape}
use Rattle.sm_merge.proofs.EffectiveSound.{GivesNodes, IsSoundEffective, effective_sound}
use Rattle.sm_merge.proofs.EntriesFound.{Has, found_has, get_has, has_before, has_behind, has_either, has_found, has_get}
use Rattle.sm_merge.proofs.EntriesFound.{has_made, made_has, map_again}
use Rattle.sm_merge.proofs.EntryKeys.{entries_differ, fine_form, form_differ}
use Rattle.sm_merge.proofs.GivenCounts.{entries_counted, member_count, members_counted, own_moved, shapes_counted}
use Rattle.sm_merge.proofs.GraphSound.{gives_nodes, metadata_named}
use Rattle.sm_merge.proofs.NamesOnce.{differ_joined}
use Rattle.sm_merge.proofs.OneEffective.{one_effective}
use Rattle.sm_merge.proofs.OneMerged.{one_graph}
use Rattle.sm_merge.proofs.PreludeGiven.{prelude_given, stands_by_test}
use Rattle.sm_merge.proofs.SomeGraph.{apart, shape_own}
use Rattle.sm_merge.proofs.StatedSound.{sound_under, statements_sound}
use Rattle.sm_merge.proofs.WholeGiven.{clash, given_joined, map_given, shape_given}
use Rattle.sm_merge.proofs.WholeGraph.{entries_joined, entry_same, in_member, member_in, whole_entry}

module _ (ss : List Stated) (gives : GivesNodes ss) (sound : AreSoundStated ss) where
  -- a shape with its mixins
  record Made : Type 0 where
    id : List ℕ
    s : ShapeStated
    there : shape_under id ss ≡ Some s
    m : EffectiveShape
    is_effective : IsEffective ss id m

  abbrev shape_made : Made → ShapeGiven
  shape_made h = whole_shape (bare_of h.s) h.m

  abbrev all_made : List Made → List ShapeGiven
  all_made hs = map shape_made hs

  same_id : (h : Made) → h.s.shape.id ≡ h.id
  same_id h = (sound_under h.id ss h.s sound h.there).same

  effective_is : (h : Made) → IsSoundEffective h.s.shape.kind h.m
  effective_is h = effective_sound ss gives sound h.id h.m h.is_effective h.s h.there

  names_differ : (h : Made) → DifferInNames (names_of h.m.members)
  names_differ h =
      form_differ (member_form h.s.shape.kind) (fine_form h.s.shape.kind) (names_of h.m.members) (effective_is h).names

  made_given : (hs : List Made) → AreGivenShapes (all_made hs)
  made_given [] = tt
  made_given (h ∷ hs) =
      (shape_given h.s h.m (sound_under h.id ss h.s sound h.there).shape (effective_is h), made_given hs)

  made_own : (hs : List Made) (k : List ℕ) → StandsAmong k (given_ids (all_made hs)) → is_prelude_id k ≡ false
  made_own [] k among = absurd among
  made_own (h ∷ hs) k (inl same) = ap is_prelude_id (same ∙ same_id h) ∙ (sound_under h.id ss h.s sound h.there).own
  made_own (h ∷ hs) k (inr later) = made_own hs k later

  -- what stands in their blocks stands under its id
  block_stands : (h : Made) (id : List ℕ) (e : Entry) → Has id e (given_shape (shape_made h)) → StandsUnder ss id e
  block_stands h id e (inl (same, entry)) = inl (record {
    s = h.s;
    there = subst (λ k. shape_under k ss ≡ Some h.s) (sym (same ∙ same_id h)) h.there;
    m = h.m;
    is_effective = subst (λ k. IsEffective ss k h.m) (sym (same ∙ same_id h)) h.is_effective;
    is = entry ∙ entry_same (bare_of h.s) h.m ∙ ap (λ k. whole_entry k (bare_of h.s) h.m) (sym same);
  })
  block_stands h id e (inr there) =
      let member = member_in h.s.shape.id h.s.shape.kind h.m.members id e there in
      inr (inl (record {
        shape = h.id;
        s = h.s;
        there = h.there;
        m = h.m;
        is_effective = h.is_effective;
        name = member.name;
        of = member.of;
        found = has_found member.name member.of h.m.members (names_differ h) member.there;
        under = member.under ∙ ap (λ k. member_id k member.name) (same_id h);
        is = member.is;
      }))

  made_stands : (hs : List Made) (id : List ℕ) (e : Entry) → Has id e (given_entries (all_made hs)) → StandsUnder ss id e
  made_stands [] id e there = absurd there
  made_stands (h ∷ hs) id e there = elim (has_either id e (given_shape (shape_made h)) (given_entries (all_made hs)) there) [
    | inl here ↦ block_stands h id e here
    | inr later ↦ made_stands hs id e later
  ]

  -- the shapes of entries
  abbrev with_made : (id : List ℕ) (e : Entry) → StandsUnder ss id e → List Made → List Made
  with_made id e (inl h) hs = record { id = id; s = h.s; there = h.there; m = h.m; is_effective = h.is_effective } ∷ hs
  with_made id e (inr other) hs = hs

  abbrev AllStand : List (List ℕ × Entry) → Type 0
  AllStand es = (k : List ℕ) (e : Entry) → Has k e es → StandsUnder ss k e

  abbrev made_of : (es : List (List ℕ × Entry)) → AllStand es → List Made
  made_of [] all = []
  made_of (e ∷ es) all = with_made e.0 e.1 (all e.0 e.1 (inl (refl, refl))) (made_of es (λ k x h. all k x (inr h)))

  made_among : (es : List (List ℕ × Entry)) (all : AllStand es) (k : List ℕ) → StandsAmong k (given_ids (all_made (made_of es all)))
      → StandsAmong k (keys es)
  made_among [] all k among = among
  made_among (e ∷ es) all k among =
      by (all e.0 e.1 (inl (refl, refl))) (made_of es (λ j x h. all j x (inr h))) (made_among es (λ j x h. all j x (inr h)) k) among
    where
      by : (st : StandsUnder ss e.0 e.1) (hs : List Made) → (StandsAmong k (given_ids (all_made hs)) → StandsAmong k (keys es))
          → StandsAmong k (given_ids (all_made (with_made e.0 e.1 st hs))) → StandsAmong k (keys (e ∷ es))
      by (inl h) hs rest (inl same) = inl (same ∙ (sound_under e.0 ss h.s sound h.there).same)
      by (inl h) hs rest (inr later) = inr (rest later)
      by (inr other) hs rest later = inr (rest later)

  made_differ : (es : List (List ℕ × Entry)) (all : AllStand es) → DifferInNames (keys es)
      → DifferInNames (given_ids (all_made (made_of es all)))
  made_differ [] all d = tt
  made_differ (e ∷ es) all d =
      by (all e.0 e.1 (inl (refl, refl))) (made_of es (λ j x h. all j x (inr h)))
      (made_among es (λ j x h. all j x (inr h))) (made_differ es (λ j x h. all j x (inr h)) d.1)
    where
      by : (st : StandsUnder ss e.0 e.1) (hs : List Made)
          → ((k : List ℕ) → StandsAmong k (given_ids (all_made hs)) → StandsAmong k (keys es))
          → DifferInNames (given_ids (all_made hs)) → DifferInNames (given_ids (all_made (with_made e.0 e.1 st hs)))
      by (inl h) hs among rest = (
        λ here. d.0 (subst (λ k. StandsAmong k (keys es)) (sound_under e.0 ss h.s sound h.there).same (among h.s.shape.id here)),
        rest,
      )
      by (inr other) hs among rest = rest

  -- a shape that stands is made
  shape_alone : (id : List ℕ) (e : Entry) → IsMergedShape ss id e → (IsMergedMember ss id e ⊎ IsOfPrelude id e) → ⊥
  shape_alone id e h (inl k) = apart ss sound id e e h k
  shape_alone id e h (inr k) = shape_own ss sound id e e h k

  record HasBlock (id : List ℕ) (hs : List Made) : Type 0 where
    made : Made
    same : made.id ≡ id
    within : (k : List ℕ) (e : Entry) → Has k e (given_shape (shape_made made)) → Has k e (given_entries (all_made hs))

  block_behind : (id : List ℕ) (h : Made) (hs : List Made) → HasBlock id hs → HasBlock id (h ∷ hs)
  block_behind id h hs b = record {
    made = b.made;
    same = b.same;
    within = λ k e there. has_behind k e (given_shape (shape_made h)) (given_entries (all_made hs)) (b.within k e there);
  }

  block_in : (es : List (List ℕ × Entry)) (all : AllStand es) (id : List ℕ) (e : Entry) → IsMergedShape ss id e → Has id e es
      → HasBlock id (made_of es all)
  block_in [] all id e h there = absurd there
  block_in (x ∷ es) all id e h (inl (same, is)) =
      by (all x.0 x.1 (inl (refl, refl))) (made_of es (λ j y k. all j y (inr k)))
    where
      by : (st : StandsUnder ss x.0 x.1) (hs : List Made) → HasBlock id (with_made x.0 x.1 st hs)
      by (inl k) hs =
          let one : Made = record { id = x.0; s = k.s; there = k.there; m = k.m; is_effective = k.is_effective } in record {
            made = one;
            same = sym same;
            within = λ j e here. has_before j e (given_shape (shape_made one)) (given_entries (all_made hs)) here;
          }
      by (inr other) hs =
          absurd (shape_alone x.0 x.1 (subst (λ k. IsMergedShape ss k x.1) same (subst (IsMergedShape ss id) is h)) other)
  block_in (x ∷ es) all id e h (inr there) =
      by (all x.0 x.1 (inl (refl, refl))) (made_of es (λ j y k. all j y (inr k)))
      (block_in es (λ j y k. all j y (inr k)) id e h there)
    where
      by : (st : StandsUnder ss x.0 x.1) (hs : List Made) → HasBlock id hs → HasBlock id (with_made x.0 x.1 st hs)
      by (inl k) hs b = block_behind id _ hs b
      by (inr other) hs b = b

  -- so its block holds it and its members
  module _ (id : List ℕ) (s : ShapeStated) (there : shape_under id ss ≡ Some s) (m : EffectiveShape) (is : IsEffective ss id m)
      (hs : List Made) (b : HasBlock id hs) where
    same_s : b.made.s ≡ s
    same_s = same_Some b.made.s s (sym (subst (λ k. shape_under k ss ≡ Some b.made.s) b.same b.made.there) ∙ there)

    same_m : b.made.m ≡ m
    same_m = one_effective ss id b.made.m m (subst (λ k. IsEffective ss k b.made.m) b.same b.made.is_effective) is

    in_block : (k : List ℕ) (e : Entry) → Has k e (given_shape (whole_shape (bare_of s) m)) → Has k e (given_entries (all_made hs))
    in_block k e h =
        b.within k e (subst (λ n. Has k e (given_shape (whole_shape (bare_of b.made.s) n))) (sym same_m)
        (subst (λ t. Has k e (given_shape (whole_shape (bare_of t) m))) (sym same_s) h))

  shape_in : (hs : List Made) (id : List ℕ) (e : Entry) → (h : IsMergedShape ss id e) → HasBlock id hs
      → Has id e (given_entries (all_made hs))
  shape_in hs id e h b =
      let same : h.s.shape.id ≡ id = (sound_under id ss h.s sound h.there).same in
      in_block id h.s h.there h.m h.is_effective hs b id e
      (inl (sym same, h.is ∙ ap (λ k. whole_entry k (bare_of h.s) h.m) (sym same) ∙ sym (entry_same (bare_of h.s) h.m)))

  member_there : (hs : List Made) (id : List ℕ) (e : Entry) → (h : IsMergedMember ss id e) → HasBlock h.shape hs
      → Has id e (given_entries (all_made hs))
  member_there hs id e h b =
      let same : h.s.shape.id ≡ h.shape = (sound_under h.shape ss h.s sound h.there).same in
      let there = in_member h.s.shape.id h.s.shape.kind h.m.members h.name h.of (found_has h.name h.of h.m.members h.found) in
      let under : id ≡ member_id h.s.shape.id h.name = h.under ∙ ap (λ k. member_id k h.name) (sym same) in
      in_block h.shape h.s h.there h.m h.is_effective hs b id e (inr
      (subst (λ k. Has k e (given_members h.s.shape.id (map (whole_member h.s.shape.kind) h.m.members))) (sym under)
      (subst (λ x. Has (member_id h.s.shape.id h.name) x (given_members h.s.shape.id (map (whole_member h.s.shape.kind) h.m.members)))
      (sym h.is) there)))

-- the graph of statements
module _ (files : List (List Said)) (formed : AreFormedFiles files) (g : GraphMaps) (of : IsGraphOf (stated_by files) g)
    (within : IsWithinLimits g) where
  abbrev ss : List Stated
  ss = stated_by files

  gives : GivesNodes ss
  gives = gives_nodes files formed

  sound : AreSoundStated ss
  sound = statements_sound files formed

  all : AllStand ss gives sound (fin.entries g.shapes)
  all k e h = (of.shapes k e).0 (has_get g.shapes k e h)

  abbrev made : List (Made ss gives sound)
  made = made_of ss gives sound (fin.entries g.shapes) all

  abbrev own : List ShapeGiven
  own = all_made ss gives sound made

  abbrev shapes : List ShapeGiven
  shapes = own ++ prelude_shapes

  abbrev metadata : List (List ℕ × Node)
  metadata = fin.entries g.metadata

  shapes_given : AreGivenShapes shapes
  shapes_given = given_joined own prelude_shapes (made_given ss gives sound made) prelude_given.each

  ids_differ : DifferInNames (given_ids shapes)
  ids_differ =
      subst DifferInNames (sym (map-append (λ (s : ShapeGiven). s.id) own prelude_shapes))
      (differ_joined (given_ids own) (given_ids prelude_shapes)
      (made_differ ss gives sound (fin.entries g.shapes) all (keys_differ g.shapes)) prelude_given.differ
      (λ k here of_prelude.
      clash (is_prelude_id k) (stands_by_test k (given_ids prelude_shapes) of_prelude) (made_own ss gives sound made k here)))

  all_differ : DifferInNames (keys (given_entries shapes))
  all_differ = entries_differ shapes shapes_given ids_differ

  block : (id : List ℕ) (e : Entry) → IsMergedShape ss id e → HasBlock ss gives sound id made
  block id e h = block_in ss gives sound (fin.entries g.shapes) all id e h (get_has g.shapes id e ((of.shapes id e).1 (inl h)))

  stands_of : (id : List ℕ) (e : Entry) → Has id e (given_entries shapes) → StandsUnder ss id e
  stands_of id e h =
      elim (has_either id e (given_entries own) (given_entries prelude_shapes)
      (subst (Has id e) (entries_joined own prelude_shapes) h)) [
        | inl here ↦ made_stands ss gives sound made id e here
        | inr of_prelude ↦ inr (inr (has_made (given_entries prelude_shapes) id e prelude_differ of_prelude))
      ]
    where
      prelude_differ : DifferInNames (keys (given_entries prelude_shapes))
      prelude_differ = entries_differ prelude_shapes prelude_given.each prelude_given.differ

  joined : (id : List ℕ) (e : Entry) → Has id e (given_entries own ++ given_entries prelude_shapes) → Has id e (given_entries shapes)
  joined id e h = subst (Has id e) (sym (entries_joined own prelude_shapes)) h

  of_stands : (id : List ℕ) (e : Entry) → StandsUnder ss id e → Has id e (given_entries shapes)
  of_stands id e (inl h) =
      joined id e (has_before id e (given_entries own) (given_entries prelude_shapes) (shape_in ss gives sound made id e h (block id e h)))
  of_stands id e (inr (inl h)) =
      let shape : IsMergedShape ss h.shape (whole_entry h.shape (bare_of h.s) h.m) =
      record { s = h.s; there = h.there; m = h.m; is_effective = h.is_effective; is = refl } in
      joined id e (has_before id e (given_entries own) (given_entries prelude_shapes)
      (member_there ss gives sound made id e h (block h.shape (whole_entry h.shape (bare_of h.s) h.m) shape)))
  of_stands id e (inr (inr h)) =
      joined id e (has_behind id e (given_entries own) (given_entries prelude_shapes) (made_has (given_entries prelude_shapes) id e h))

  is_whole : IsGraphOf ss (graph_of shapes metadata)
  is_whole = record {
    shapes = λ id e. (
      λ found. stands_of id e (made_has (given_entries shapes) id e found),
      λ stands. has_made (given_entries shapes) id e all_differ (of_stands id e stands),
    );
    metadata = λ key n. subst (λ m. (fin.get m key ≡ Some n) ↔ IsValueOf (metadata_values ss key) n) (sym (map_again g.metadata))
        (of.metadata key n);
  }

  same : Path GraphMaps g (graph_of shapes metadata)
  same = one_graph ss g (graph_of shapes metadata) of is_whole

  -- there are few of them
  within_made : IsWithinLimits (graph_of shapes metadata)
  within_made = subst IsWithinLimits same within

  few : length (given_entries shapes) < 2 ^ 32
  few =
      let moved = own_moved own all_differ metadata in
      let whole = own_entries (graph_of shapes metadata) in
      let shapes_are : sum_by (λ e. shapes_in e.1) whole ≡ length own =
      sum_by-IsPermutation (λ e. shapes_in e.1) (given_entries own) whole moved ∙ shapes_counted own in
      let members_are : sum_by (λ e. members_in e.1) whole ≡ sum_by member_count own =
      sum_by-IsPermutation (λ e. members_in e.1) (given_entries own) whole moved ∙ members_counted own in
      let counted : length (given_entries shapes) ≡ length (given_entries own) + length (given_entries prelude_shapes) =
      ap length (entries_joined own prelude_shapes) ∙ length-append (given_entries own) (given_entries prelude_shapes) in
      let of_prelude : length (given_entries prelude_shapes) ≡ 21 = refl in
      let few_shapes : length own ≤ 20000 =
      subst (λ n. n ≤ most_shapes) shapes_are (not_past most_shapes (sum_by (λ e. shapes_in e.1) whole) (within_made Shapes)) in
      let few_members : sum_by member_count own ≤ 200000 =
      subst (λ n. n ≤ most_members_in_all) members_are
      (not_past most_members_in_all (sum_by (λ e. members_in e.1) whole) (within_made AllMembers)) in
      omega (arith, counted, of_prelude, entries_counted own, few_shapes, few_members)
    where
      not_past : (limit n : ℕ) → (limit < n → ⊥) → n ≤ limit
      not_past limit n h = elim (cases_lt limit n) [
        | inl past ↦ absurd (h past)
        | inr few ↦ few
      ]

  pub merged_formed : IsFormedGraph g
  merged_formed = record {
    shapes = shapes;
    metadata = metadata;
    given = record {
      each = shapes_given;
      differ = ids_differ;
      few = few;
      metadata_is = map_given g.metadata (λ k n found. (metadata_named files formed k n ((of.metadata k n).0 found)).1);
    };
    prelude = λ s h. Contains-append_right own prelude_shapes s h;
    is = same;
  }
