-- Graphs as merging makes them: what stands under an id is the prelude's, a shape whose members are there, or such a member. The
-- members of an enum have their values.
use Rattle.std.proofs.Common.{◌≡◌, ◌⊎◌, inl, inr, ℕ, Bool, true, false, List, [], ◌∷◌, map, Some, None, refl, sym, ap, subst, ◌∙◌}
use Rattle.std.proofs.Common.{bytes_eq}
use Rattle.std.specs.Prelude.{◌&&◌, not, cond, if◌then◌else◌}
use Rattle.std.specs.List.{cons_option, slice_get}
use Rattle.std.proofs.lemmas.Option.{none-some, same_Some}
use Rattle.std.specs.Option.{is_some}
use Rattle.std.specs.FinMap as fin
use Rattle.std.specs.FinMap.{get-insert}
use Rattle.std.specs.Cmp.Lexicographic.{nat_list_cmp_total}
use Rattle.std.proofs.lemmas.Bool.{cases_Bool}
use Rattle.std.proofs.lemmas.Slice.Eq.{bytes_eq-Decides}
use Rattle.sm_tree.specs.Node.{Node, text}
use Rattle.sm_model.specs.Formed.{StandsAmong, DifferInNames}
use Rattle.sm_model.specs.Given.{HasShapeBody}
use Rattle.sm_model.specs.Graphs.{Entry, GraphMaps, MemberEntry, ShapeEntry, member_entry, member_id, shape_entry}
use Rattle.sm_model.specs.PreludeShapes.{is_prelude_id}
use Rattle.sm_model.specs.References.{IsShapeId}
use Rattle.sm_model.specs.Said.{Said, apply_said, metadata_said, shape_said}
use Rattle.sm_model.specs.declared.kind.Kind.{Kind}
use Rattle.sm_merge.specs.Merged.{IsGraphOf, IsMergedMember, IsMergedShape, IsOfPrelude, StandsUnder, enum_value, is_enum}
use Rattle.sm_merge.specs.Merged.{with_enum_value}
use Rattle.sm_merge.specs.Mixins.{EffectiveShape, IsEffective, effective, names_of}
use Rattle.sm_merge.specs.Meaning.{Defined, node_meant}
use Rattle.sm_merge.specs.Places.{shape_under, shapes_under}
use Rattle.sm_merge.specs.Stated.{AreFormedFiles, ShapeStated, Stated, all_said, body_of, defined_among, shape_with_ids, stated}
use Rattle.sm_merge.specs.Stated.{stated_by}
use Rattle.sm_merge.proofs.EntriesFound.{found_has, has_found, has_key, key_has}
use Rattle.sm_groups.proofs.GroupsMade.{tests}
use Rattle.sm_merge.proofs.NamesOnce.{once_differ}
use Rattle.sm_merge.proofs.StatedSound.{sound_under, statements_sound}
use Rattle.sm_merge.proofs.WholeGiven.{lacks, valued_if}

pub record IsRegularShape (g : GraphMaps) (id : List ℕ) (s : ShapeEntry) : Type 0 where
  pub is : IsShapeId id
  pub own : is_prelude_id id ≡ false
  pub names : List (List ℕ)
  pub differ : DifferInNames names
  pub members : s.members ≡ map (member_id id) names
  pub given : Node
  pub comes : s.properties ≡ body_of s.kind given
  pub body : HasShapeBody s.kind s.properties
  pub each : (name : List ℕ) → StandsAmong name names
      → (e : MemberEntry) × (fin.get g.shapes (member_id id name) ≡ Some (member_entry e))
      × Path MemberEntry (with_enum_value s.kind name e) e

pub record IsRegularMember (g : GraphMaps) (id : List ℕ) : Type 0 where
  pub shape : List ℕ
  pub name : List ℕ
  pub s : ShapeEntry
  pub there : fin.get g.shapes shape ≡ Some (shape_entry s)
  pub is : IsRegularShape g shape s
  pub among : StandsAmong name is.names
  pub under : id ≡ member_id shape name

abbrev pub IsRegularEntry : GraphMaps → List ℕ → Entry → Type 0
IsRegularEntry g id (shape_entry s) = IsRegularShape g id s
IsRegularEntry g id (member_entry m) = IsRegularMember g id

pub record IsRegular (g : GraphMaps) : Type 0 where
  pub prelude : (id : List ℕ) (e : Entry) → IsOfPrelude id e → fin.get g.shapes id ≡ Some e
  pub entries : (id : List ℕ) (e : Entry) → fin.get g.shapes id ≡ Some e → IsOfPrelude id e ⊎ IsRegularEntry g id e

-- a member that has got its value lacks none
and_false : (b : Bool) → (b && false) ≡ false
and_false true = refl
and_false false = refl

valued_again : (kind : Kind) (name : List ℕ) (e : MemberEntry)
    → Path MemberEntry (with_enum_value kind name (with_enum_value kind name e)) (with_enum_value kind name e)
valued_again kind name e = elim (cases_Bool (lacks kind e)) [
  | inl lacking ↦
      let now : MemberEntry = valued_if name e true in
      let step : Path MemberEntry (with_enum_value kind name e) now = ap (valued_if name e) lacking in
      let tied = tests enum_value enum_value ∙ (bytes_eq-Decides enum_value enum_value).1 refl in
      let found : fin.get now.traits enum_value ≡ Some (text name) =
      get-insert nat_list_cmp_total e.traits enum_value (text name) enum_value
      ∙ ap (λ b. cond b (Some (text name)) (fin.get e.traits enum_value)) tied in
      let full : lacks kind now ≡ false = ap (λ o. is_enum kind && not (is_some o)) found ∙ and_false (is_enum kind) in
      ap (with_enum_value kind name) step ∙ ap (valued_if name now) full ∙ sym step
  | inr full ↦ ap (with_enum_value kind name) (ap (valued_if name e) full)
]

effective_differ : (ss : List Stated) (id : List ℕ) (m : EffectiveShape) → IsEffective ss id m → DifferInNames (names_of m.members)
effective_differ ss id m (effective i n s copied there from made) = subst DifferInNames (sym made.names) (once_differ _)

-- the body of a statement comes of what is said
module _ (defined : Defined) (id : List ℕ) where
  abbrev Under : List Said → List ShapeStated
  Under ss = shapes_under id (map (stated defined) ss)

  abbrev ComesOfBody : ShapeStated → Type 0
  ComesOfBody s = (n : Node) × (s.shape.properties ≡ body_of s.shape.kind n)

  stated_body : (ss : List Said) (s : ShapeStated) → shape_under id (map (stated defined) ss) ≡ Some s → ComesOfBody s
  stated_body [] s there = absurd (none-some s there)
  stated_body (metadata_said key value ∷ ss) s there = stated_body ss s there
  stated_body (shape_said t ∷ ss) s there =
      by_test (λ rest. stated_body ss s rest) (bytes_eq t.id id && not (is_prelude_id id)) there
    where
      by_test : (shape_under id (map (stated defined) ss) ≡ Some s → ComesOfBody s) → (b : Bool)
          → slice_get (cons_option (if b then Some (shape_with_ids defined t) else None) (Under ss)) 0 ≡ Some s
          → ComesOfBody s
      by_test later true at =
          subst ComesOfBody (same_Some (shape_with_ids defined t) s at) (node_meant defined t.properties, refl)
      by_test later false at = later at
  stated_body (apply_said target traits ∷ ss) s there = stated_body ss s there

module _ (files : List (List Said)) (formed : AreFormedFiles files) (g : GraphMaps) (of : IsGraphOf (stated_by files) g) where
  abbrev entry_of : (id : List ℕ) (s : ShapeStated) (m : EffectiveShape) → ShapeEntry
  entry_of id s m = record {
    kind = s.shape.kind;
    members = map (member_id id) (names_of m.members);
    properties = s.shape.properties;
    traits = m.traits;
  }

  shape_regular : (id : List ℕ) (e : Entry) (h : IsMergedShape (stated_by files) id e) → IsRegularShape g id (entry_of id h.s h.m)
  shape_regular id e h =
      let under = sound_under id (stated_by files) h.s (statements_sound files formed) h.there in
      let differ = effective_differ (stated_by files) id h.m h.is_effective in
      let given = stated_body (defined_among (all_said files)) id (all_said files) h.s h.there in record {
        is = subst IsShapeId under.same under.shape.id;
        own = under.own;
        names = names_of h.m.members;
        differ = differ;
        members = refl;
        given = given.0;
        comes = given.1;
        body = under.shape.body;
        each = λ name among.
            let has = key_has name h.m.members among in (
              with_enum_value h.s.shape.kind name has.0,
              (of.shapes (member_id id name) (member_entry (with_enum_value h.s.shape.kind name has.0))).1 (inr (inl (record {
                shape = id;
                s = h.s;
                there = h.there;
                m = h.m;
                is_effective = h.is_effective;
                name = name;
                of = has.0;
                found = has_found name has.0 h.m.members differ has.1;
                under = refl;
                is = refl;
              }))),
              valued_again h.s.shape.kind name has.0,
            );
      }

  member_regular : (id : List ℕ) (e : Entry) → IsMergedMember (stated_by files) id e → IsRegularMember g id
  unfolding shape_regular
  member_regular id e h =
      let whole : IsMergedShape (stated_by files) h.shape (shape_entry (entry_of h.shape h.s h.m)) = record {
        s = h.s;
        there = h.there;
        m = h.m;
        is_effective = h.is_effective;
        is = refl;
      } in record {
        shape = h.shape;
        name = h.name;
        s = entry_of h.shape h.s h.m;
        there = (of.shapes h.shape (shape_entry (entry_of h.shape h.s h.m))).1 (inl whole);
        is = shape_regular h.shape (shape_entry (entry_of h.shape h.s h.m)) whole;
        among = has_key h.name h.of h.m.members (found_has h.name h.of h.m.members h.found);
        under = h.under;
      }

  regular_entry : (id : List ℕ) (e : Entry) → StandsUnder (stated_by files) id e → IsOfPrelude id e ⊎ IsRegularEntry g id e
  regular_entry id e (inl h) = inr (subst (IsRegularEntry g id) (sym h.is) (shape_regular id e h))
  regular_entry id e (inr (inl h)) = inr (subst (IsRegularEntry g id) (sym h.is) (member_regular id e h))
  regular_entry id e (inr (inr h)) = inl h

  pub merged_regular : IsRegular g
  merged_regular = record {
    prelude = λ id e h. (of.shapes id e).1 (inr (inr h));
    entries = λ id e found. regular_entry id e ((of.shapes id e).0 found);
  }
