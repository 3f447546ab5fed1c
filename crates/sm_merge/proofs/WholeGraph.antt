-- The graph of shapes with their mixins, the prelude's and metadata is the graph of the statements.
use Rattle.std.proofs.Common.{◌≡◌, inl, inr, ℕ, List, [], ◌∷◌, ◌++◌, map, Some, refl, sym, ap, subst, ◌∙◌, append_assoc}
use Rattle.std.specs.Prelude.{◌↔◌}
use Rattle.std.specs.Option.{option_map}
use Rattle.std.specs.FinMap as fin
use Rattle.sm_tree.specs.Node.{Node}
use Rattle.sm_model.specs.Formed.{DifferInNames}
use Rattle.sm_model.specs.Graphs.{Entry, MemberEntry, ShapeGiven, given_entries, given_members, given_shape, member_entry}
use Rattle.sm_model.specs.Graphs.{member_id}
use Rattle.sm_model.specs.Graphs.{shape_entry, text_cmp}
use Rattle.sm_model.specs.Kinds.{member_form}
use Rattle.sm_model.specs.PreludeShapes.{prelude_shapes}
use Rattle.sm_model.specs.declared.kind.Kind.{Kind}
use Rattle.sm_model.proofs.MapFacts.{keys}
use Rattle.sm_merge.specs.Merged.{IsGraphOf, IsMergedMember, IsMergedShape, StandsUnder, with_enum_value}
use Rattle.sm_merge.specs.Mixins.{EffectiveMembers, EffectiveShape, IsEffective, names_of}
use Rattle.sm_merge.specs.Places.{metadata_values, shape_under}
use Rattle.sm_merge.specs.Stated.{ShapeStated, Stated}
use Rattle.sm_merge.specs.Values.{IsValueOf}
use Rattle.sm_merge.specs.steps.Placed.{Bare, bare_of, bare_view}
use Rattle.sm_merge.specs.steps.ShapeTables.{AreShapesOf, shapes_view}
use Rattle.sm_merge.specs.steps.Whole.{AreEffective, whole_graph, whole_member, whole_shape, whole_shapes}
use Rattle.sm_merge.specs.declared.parts.BareShape.{BareShape}
use Rattle.sm_merge.proofs.EffectiveSound.{GivesNodes}
use Rattle.sm_merge.proofs.EntriesFound.{Has, found_has, has_before, has_behind, has_either, has_found, has_made, made_has, map_again}
use Rattle.sm_merge.proofs.EntryKeys.{entries_differ, fine_form, form_differ}
use Rattle.sm_merge.proofs.OneEffective.{one_effective}
use Rattle.sm_merge.proofs.PreludeGiven.{prelude_given}
use Rattle.sm_merge.specs.steps.SoundStated.{AreSoundStated}
use Rattle.sm_merge.proofs.StatedSound.{sound_under}
use Rattle.sm_merge.proofs.WholeGiven.{AreStatedRows, all_given, row_sound, rows_stated}

pub entries_joined : (xs ys : List ShapeGiven) → given_entries (xs ++ ys) ≡ given_entries xs ++ given_entries ys
entries_joined [] ys = refl
entries_joined (x ∷ xs) ys =
    ap (λ es. given_shape x ++ es) (entries_joined xs ys) ∙ sym (append_assoc (given_shape x) (given_entries xs) (given_entries ys))

-- the entries of a shape and of its members
member_ids_of : (shape : List ℕ) (kind : Kind) (ms : EffectiveMembers)
    → map (λ m. member_id shape m.name) (map (whole_member kind) ms) ≡ map (member_id shape) (names_of ms)
member_ids_of shape kind [] = refl
member_ids_of shape kind (m ∷ ms) = ap (λ ids. member_id shape m.0 ∷ ids) (member_ids_of shape kind ms)

abbrev pub whole_entry : List ℕ → Bare → EffectiveShape → Entry
whole_entry id b m =
    shape_entry (record { kind = b.kind; members = map (member_id id) (names_of m.members); properties = b.properties; traits = m.traits })

pub entry_same : (b : Bare) (m : EffectiveShape) → Path Entry (shape_entry (record {
  kind = b.kind;
  members = map (λ x. member_id b.id x.name) (map (whole_member b.kind) m.members);
  properties = b.properties;
  traits = fin.from_entries (fin.entries m.traits);
})) (whole_entry b.id b m)
entry_same b m = λ i. shape_entry (record {
  kind = b.kind;
  members = member_ids_of b.id b.kind m.members i;
  properties = b.properties;
  traits = map_again m.traits i;
})

pub member_same : (e : MemberEntry)
    → Path Entry (member_entry (record { target = e.target; traits = fin.from_entries (fin.entries e.traits) })) (member_entry e)
member_same e = λ i. member_entry (record { target = e.target; traits = map_again e.traits i })

pub record IsMemberIn (shape : List ℕ) (kind : Kind) (ms : EffectiveMembers) (id : List ℕ) (e : Entry) : Type 0 where
  pub name : List ℕ
  pub of : MemberEntry
  pub there : Has name of ms
  pub under : id ≡ member_id shape name
  pub is : e ≡ member_entry (with_enum_value kind name of)

pub member_in : (shape : List ℕ) (kind : Kind) (ms : EffectiveMembers) (id : List ℕ) (e : Entry)
    → Has id e (given_members shape (map (whole_member kind) ms)) → IsMemberIn shape kind ms id e
member_in shape kind [] id e h = absurd h
member_in shape kind (m ∷ ms) id e (inl (same, is)) = record {
  name = m.0;
  of = m.1;
  there = inl (refl, refl);
  under = same;
  is = is ∙ member_same (with_enum_value kind m.0 m.1);
}
member_in shape kind (m ∷ ms) id e (inr h) =
    let later = member_in shape kind ms id e h in
    record { name = later.name; of = later.of; there = inr later.there; under = later.under; is = later.is }

pub in_member : (shape : List ℕ) (kind : Kind) (ms : EffectiveMembers) (name : List ℕ) (of : MemberEntry) → Has name of ms
    → Has (member_id shape name) (member_entry (with_enum_value kind name of)) (given_members shape (map (whole_member kind) ms))
in_member shape kind [] name of h = absurd h
in_member shape kind (m ∷ ms) name of (inl (same, is)) = inl (
  ap (member_id shape) same,
  (λ i. member_entry (with_enum_value kind (same i) (is i))) ∙ sym (member_same (with_enum_value kind m.0 m.1)),
)
in_member shape kind (m ∷ ms) name of (inr h) = inr (in_member shape kind ms name of h)

module _ (ss : List Stated) where
  -- what stands in a shape's block stands under its id
  block_stands : (s : ShapeStated) (m : EffectiveShape) → shape_under s.shape.id ss ≡ Some s → IsEffective ss s.shape.id m
      → DifferInNames (names_of m.members) → (id : List ℕ) (e : Entry) → Has id e (given_shape (whole_shape (bare_of s) m))
      → StandsUnder ss id e
  block_stands s m there is differ id e (inl (same, entry)) = inl (subst (λ k. IsMergedShape ss k e) (sym same) (record {
    s = s;
    there = there;
    m = m;
    is_effective = is;
    is = entry ∙ entry_same (bare_of s) m;
  }))
  block_stands s m there is differ id e (inr h) =
      let member = member_in s.shape.id s.shape.kind m.members id e h in
      inr (inl (record {
        shape = s.shape.id;
        s = s;
        there = there;
        m = m;
        is_effective = is;
        name = member.name;
        of = member.of;
        found = has_found member.name member.of m.members differ member.there;
        under = member.under;
        is = member.is;
      }))

  module _ (gives : GivesNodes ss) (sound : AreSoundStated ss) where
    names_differ : (id : List ℕ) (s : ShapeStated) (m : EffectiveShape) → shape_under id ss ≡ Some s → IsEffective ss id m
        → DifferInNames (names_of m.members)
    names_differ id s m there is =
        form_differ (member_form s.shape.kind) (fine_form s.shape.kind) (names_of m.members)
        (row_sound ss gives sound id (bare_of s) (record { s = s; there = there; bare = refl }) m is).names

    own_stands : (rows : List BareShape) (ms : List EffectiveShape) → AreStatedRows ss rows → AreEffective ss rows ms → (id : List ℕ)
        (e : Entry) → Has id e (given_entries (whole_shapes rows ms)) → StandsUnder ss id e
    own_stands [] ms stated are id e h = absurd h
    own_stands (r ∷ rows) [] stated are id e h = absurd h
    own_stands (r ∷ rows) (m ∷ ms) stated are id e h =
        elim (has_either id e (given_shape (whole_shape (bare_view r) m)) (given_entries (whole_shapes rows ms)) h) [
          | inl here ↦
              let row = stated r.id (bare_view r) (inl (refl, refl)) in
              let same : row.s.shape.id ≡ r.id = (sound_under r.id ss row.s sound row.there).same in
              block_stands row.s m (subst (λ k. shape_under k ss ≡ Some row.s) (sym same) row.there)
              (subst (λ k. IsEffective ss k m) (sym same) are.0) (names_differ r.id row.s m row.there are.0) id e
              (subst (λ b. Has id e (given_shape (whole_shape b m))) (sym row.bare) here)
          | inr later ↦ own_stands rows ms (λ k b there. stated k b (inr there)) are.1 id e later
        ]

  -- and back: the block of a row
  record HasBlock (rows : List BareShape) (ms : List EffectiveShape) (id : List ℕ) (b : Bare) : Type 0 where
    m : EffectiveShape
    is_effective : IsEffective ss id m
    stands : (k : List ℕ) (e : Entry) → Has k e (given_shape (whole_shape b m)) → Has k e (given_entries (whole_shapes rows ms))

  block_of : (rows : List BareShape) (ms : List EffectiveShape) → AreEffective ss rows ms → (id : List ℕ) (b : Bare)
      → Has id b (shapes_view rows) → HasBlock rows ms id b
  block_of [] ms are id b h = absurd h
  block_of (r ∷ rows) [] are id b h = absurd are
  block_of (r ∷ rows) (m ∷ ms) are id b (inl (same, is)) = record {
    m = m;
    is_effective = subst (λ k. IsEffective ss k m) (sym same) are.0;
    stands = λ k e h. has_before k e (given_shape (whole_shape (bare_view r) m)) (given_entries (whole_shapes rows ms))
        (subst (λ c. Has k e (given_shape (whole_shape c m))) is h);
  }
  block_of (r ∷ rows) (m ∷ ms) are id b (inr h) =
      let later = block_of rows ms are.1 id b h in record {
        m = later.m;
        is_effective = later.is_effective;
        stands = λ k e there. has_behind k e (given_shape (whole_shape (bare_view r) m)) (given_entries (whole_shapes rows ms))
            (later.stands k e there);
      }

  module _ (sound : AreSoundStated ss) (rows : List BareShape) (shapes : AreShapesOf ss rows) (ms : List EffectiveShape)
      (are : AreEffective ss rows ms) where
    -- what stands in the block of a stated shape stands among the entries
    in_block : (id : List ℕ) (s : ShapeStated) → shape_under id ss ≡ Some s → (m : EffectiveShape) → IsEffective ss id m → (k : List ℕ)
        (e : Entry) → Has k e (given_shape (whole_shape (bare_of s) m)) → Has k e (given_entries (whole_shapes rows ms))
    in_block id s there m is k e h =
        let found : fin.find text_cmp id (shapes_view rows) ≡ Some (bare_of s) = shapes.each id ∙ ap (option_map bare_of) there in
        let block = block_of rows ms are id (bare_of s) (found_has id (bare_of s) (shapes_view rows) found) in
        block.stands k e (subst (λ n. Has k e (given_shape (whole_shape (bare_of s) n)))
        (one_effective ss id m block.m is block.is_effective) h)

    shape_in : (id : List ℕ) (e : Entry) → IsMergedShape ss id e → Has id e (given_entries (whole_shapes rows ms))
    shape_in id e h =
        let same : h.s.shape.id ≡ id = (sound_under id ss h.s sound h.there).same in
        in_block id h.s h.there h.m h.is_effective id e (inl (
          sym same,
          h.is ∙ ap (λ k. whole_entry k (bare_of h.s) h.m) (sym same) ∙ sym (entry_same (bare_of h.s) h.m),
        ))

    member_there : (id : List ℕ) (e : Entry) → IsMergedMember ss id e → Has id e (given_entries (whole_shapes rows ms))
    member_there id e h =
        let same : h.s.shape.id ≡ h.shape = (sound_under h.shape ss h.s sound h.there).same in
        let there =
        in_member h.s.shape.id h.s.shape.kind h.m.members h.name h.of (found_has h.name h.of h.m.members h.found) in
        let under : id ≡ member_id h.s.shape.id h.name = h.under ∙ ap (λ k. member_id k h.name) (sym same) in
        in_block h.shape h.s h.there h.m h.is_effective id e (inr
        (subst (λ k. Has k e (given_members h.s.shape.id (map (whole_member h.s.shape.kind) h.m.members))) (sym under)
        (subst (λ x. Has (member_id h.s.shape.id h.name) x (given_members h.s.shape.id (map (whole_member h.s.shape.kind) h.m.members)))
        (sym h.is) there)))

-- metadata as a graph has it
abbrev pub IsMetadataOf : List Stated → List (List ℕ × Node) → Type 0
IsMetadataOf ss ps = (key : List ℕ) (n : Node)
    → (fin.get (fin.from_entries {R = text_cmp} ps) key ≡ Some n) ↔ IsValueOf (metadata_values ss key) n

module _ (ss : List Stated) (gives : GivesNodes ss) (sound : AreSoundStated ss) (rows : List BareShape) (shapes : AreShapesOf ss rows)
    (ms : List EffectiveShape) (are : AreEffective ss rows ms) where
  abbrev pub all_shapes : List ShapeGiven
  all_shapes = whole_shapes rows ms ++ prelude_shapes

  pub all_differ : DifferInNames (keys (given_entries all_shapes))
  all_differ = let all = all_given ss gives sound rows shapes ms are in entries_differ all_shapes all.each all.differ

  prelude_differ : DifferInNames (keys (given_entries prelude_shapes))
  prelude_differ = entries_differ prelude_shapes prelude_given.each prelude_given.differ

  stands_of : (id : List ℕ) (e : Entry) → Has id e (given_entries all_shapes) → StandsUnder ss id e
  stands_of id e h =
      elim (has_either id e (given_entries (whole_shapes rows ms)) (given_entries prelude_shapes)
      (subst (Has id e) (entries_joined (whole_shapes rows ms) prelude_shapes) h)) [
        | inl own ↦ own_stands ss gives sound rows ms (rows_stated ss rows shapes) are id e own
        | inr of_prelude ↦ inr (inr (has_made (given_entries prelude_shapes) id e prelude_differ of_prelude))
      ]

  joined_has : (id : List ℕ) (e : Entry) → Has id e (given_entries (whole_shapes rows ms) ++ given_entries prelude_shapes)
      → Has id e (given_entries all_shapes)
  joined_has id e h = subst (Has id e) (sym (entries_joined (whole_shapes rows ms) prelude_shapes)) h

  of_stands : (id : List ℕ) (e : Entry) → StandsUnder ss id e → Has id e (given_entries all_shapes)
  of_stands id e (inl h) =
      joined_has id e (has_before id e (given_entries (whole_shapes rows ms)) (given_entries prelude_shapes)
      (shape_in ss sound rows shapes ms are id e h))
  of_stands id e (inr (inl h)) =
      joined_has id e (has_before id e (given_entries (whole_shapes rows ms)) (given_entries prelude_shapes)
      (member_there ss sound rows shapes ms are id e h))
  of_stands id e (inr (inr h)) =
      joined_has id e (has_behind id e (given_entries (whole_shapes rows ms)) (given_entries prelude_shapes)
      (made_has (given_entries prelude_shapes) id e h))

  pub is_graph : (metadata : List (List ℕ × Node)) → IsMetadataOf ss metadata → IsGraphOf ss (whole_graph rows ms metadata)
  is_graph metadata h = record {
    shapes = λ id e. (
      λ found. stands_of id e (made_has (given_entries all_shapes) id e found),
      λ stands. has_made (given_entries all_shapes) id e all_differ (of_stands id e stands),
    );
    metadata = h;
  }
