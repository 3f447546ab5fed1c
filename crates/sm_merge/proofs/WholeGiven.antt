-- Shapes with their mixins, and those of the prelude, are what a graph may be made of.
use Rattle.std.proofs.Common.{◌≡◌, inl, inr, ℕ, Bool, true, false, cond, List, [], ◌∷◌, ◌++◌, map, Option, Some, None, refl, sym, ap}
use Rattle.std.proofs.Common.{subst, ◌∙◌}
use Rattle.std.specs.Prelude.{◌&&◌, not, is_some, if◌then◌else◌}
use Rattle.std.specs.Option.{option_map}
use Rattle.std.specs.FinMap as fin
use Rattle.std.specs.FinMap.{get-insert}
use Rattle.std.specs.Cmp.Lexicographic.{nat_list_cmp_total}
use Rattle.std.specs.Ordering.{eq_by_cmp}
use Rattle.std.proofs.lemmas.List.{map-append}
use Rattle.std.proofs.lemmas.Option.{none-some, same_Some}
use Rattle.sm_ids.specs.Identifier.{IsIdentifier}
use Rattle.sm_ids.specs.IdText.{IsIdText}
use Rattle.sm_tree.specs.Node.{Node, text}
use Rattle.sm_tree.specs.Same.{IsNode}
use Rattle.sm_model.specs.Formed.{StandsAmong, DifferInNames, HaveForm}
use Rattle.sm_model.specs.Given.{AreGivenMembers, AreGivenShapes, AreNodes, IsGivenShape, IsNodeMap, given_ids, given_names}
use Rattle.sm_model.specs.Graphs.{MemberEntry, NodeMap, ShapeGiven, text_cmp}
use Rattle.sm_model.specs.Kinds.{member_form}
use Rattle.sm_model.specs.PreludeShapes.{is_prelude_id, prelude_shapes}
use Rattle.sm_model.specs.declared.kind.Kind.{Kind}
use Rattle.sm_model.proofs.MapFacts.{Each, keys_differ}
use Rattle.sm_model.proofs.Rises.{differ_from_rise}
use Rattle.sm_merge.specs.Merged.{enum_value, is_enum, with_enum_value}
use Rattle.sm_merge.specs.Mixins.{EffectiveMembers, EffectiveShape, IsEffective, names_of}
use Rattle.sm_merge.specs.Places.{shape_under}
use Rattle.sm_merge.specs.Stated.{ShapeStated, Stated}
use Rattle.sm_merge.specs.steps.Placed.{Bare, bare_of, bare_view}
use Rattle.sm_merge.specs.steps.ShapeTables.{AreShapesOf, ids_of, shapes_view}
use Rattle.sm_merge.specs.steps.Whole.{AreEffective, whole_member, whole_shape, whole_shapes}
use Rattle.sm_merge.specs.declared.parts.BareShape.{BareShape}
use Rattle.sm_merge.proofs.BodyNodes.{identifier_utf8}
use Rattle.sm_merge.proofs.EffectiveSound.{GivesNodes, HoldsNodes, IsSoundEffective, IsSoundMember, effective_sound}
use Rattle.sm_merge.proofs.EntriesFound.{Has, each_has, has_found, has_get}
use Rattle.sm_merge.proofs.NamesOnce.{differ_joined}
use Rattle.sm_merge.proofs.PreludeGiven.{prelude_given, stands_by_test}
use Rattle.sm_merge.specs.steps.SoundStated.{AreSoundStated, IsSoundShape}
use Rattle.sm_merge.proofs.StatedSound.{sound_under}

-- a member with its value
abbrev pub valued_if : List ℕ → MemberEntry → Bool → MemberEntry
valued_if name e b = if b then record { target = e.target; traits = fin.insert e.traits enum_value (text name) } else e

abbrev pub lacks : Kind → MemberEntry → Bool
lacks kind e = is_enum kind && not (is_some (fin.get e.traits enum_value))

pub target_kept : (kind : Kind) (name : List ℕ) (e : MemberEntry) → (with_enum_value kind name e).target ≡ e.target
target_kept kind name e = by_test (lacks kind e)
  where
    by_test : (b : Bool) → (valued_if name e b).target ≡ e.target
    by_test true = refl
    by_test false = refl

pub name_node : (name : List ℕ) → IsIdentifier name → IsNode (text name)
name_node name h = (identifier_utf8 name h, tt)

nodes_inserted : (m : NodeMap) (k : List ℕ) (v : Node) → HoldsNodes m → IsNode v → HoldsNodes (fin.insert m k v)
nodes_inserted m k v h is t n found =
    by_test (eq_by_cmp text_cmp t k) (sym (get-insert nat_list_cmp_total m k v t) ∙ found)
  where
    by_test : (b : Bool) → cond b (Some v) (fin.get m t) ≡ Some n → IsNode n
    by_test true same = subst IsNode (same_Some v n same) is
    by_test false same = h t n same

value_nodes : (kind : Kind) (name : List ℕ) (e : MemberEntry) → IsIdentifier name → HoldsNodes e.traits
    → HoldsNodes (with_enum_value kind name e).traits
value_nodes kind name e named h = by_test (lacks kind e)
  where
    by_test : (b : Bool) → HoldsNodes (valued_if name e b).traits
    by_test true = nodes_inserted e.traits enum_value (text name) h (name_node name named)
    by_test false = h

-- the traits of a map
nodes_each : (ps : List (List ℕ × Node)) → Each (λ k n. IsNode n) ps → AreNodes ps
nodes_each [] h = tt
nodes_each (p ∷ ps) h = (h.0, nodes_each ps h.1)

pub map_given : (m : NodeMap) → HoldsNodes m → IsNodeMap (fin.entries m)
map_given m h = record {
  differ = keys_differ m;
  nodes = nodes_each (fin.entries m) (each_has (λ k n. IsNode n) (fin.entries m) (λ k n there. h k n (has_get m k n there)));
}

-- members and shapes
members_given : (kind : Kind) (ms : EffectiveMembers) → Each IsSoundMember ms → AreGivenMembers (map (whole_member kind) ms)
members_given kind [] h = tt
members_given kind (m ∷ ms) h = (
  h.0.0.0,
  subst IsIdText (sym (target_kept kind m.0 m.1)) h.0.0.1,
  map_given (with_enum_value kind m.0 m.1).traits (value_nodes kind m.0 m.1 h.0.0.0 h.0.1),
  members_given kind ms h.1,
)

whole_names : (kind : Kind) (ms : EffectiveMembers) → names_of ms ≡ given_names (map (whole_member kind) ms)
whole_names kind [] = refl
whole_names kind (m ∷ ms) = ap (λ names. m.0 ∷ names) (whole_names kind ms)

pub shape_given : (s : ShapeStated) (m : EffectiveShape) → IsSoundShape s.shape → IsSoundEffective s.shape.kind m
    → IsGivenShape (whole_shape (bare_of s) m)
shape_given s m h is = record {
  id = h.id;
  names = subst (HaveForm (member_form s.shape.kind)) (whole_names s.shape.kind m.members) is.names;
  members = members_given s.shape.kind m.members is.members;
  body = h.body;
  traits = map_given m.traits is.traits;
}

-- rows are what is stated
pub record IsStatedRow (ss : List Stated) (id : List ℕ) (b : Bare) : Type 0 where
  pub s : ShapeStated
  pub there : shape_under id ss ≡ Some s
  pub bare : bare_of s ≡ b

abbrev pub AreStatedRows : List Stated → List BareShape → Type 0
AreStatedRows ss rows = (id : List ℕ) (b : Bare) → Has id b (shapes_view rows) → IsStatedRow ss id b

pub rows_stated : (ss : List Stated) (rows : List BareShape) → AreShapesOf ss rows → AreStatedRows ss rows
rows_stated ss rows h id b there =
    by_stated (shape_under id ss) refl (sym (h.each id) ∙ has_found id b (shapes_view rows) (differ_from_rise (ids_of rows) h.rise) there)
  where
    by_stated : (o : Option ShapeStated) → shape_under id ss ≡ o → option_map bare_of o ≡ Some b → IsStatedRow ss id b
    by_stated None is same = absurd (none-some b same)
    by_stated (Some s) is same = record { s = s; there = is; bare = same_Some (bare_of s) b same }

module _ (ss : List Stated) (gives : GivesNodes ss) (sound : AreSoundStated ss) where
  -- what is known of a row, and of what it comes to
  pub row_sound : (id : List ℕ) (b : Bare) (row : IsStatedRow ss id b) (m : EffectiveShape) → IsEffective ss id m
      → IsSoundEffective row.s.shape.kind m
  row_sound id b row m is = effective_sound ss gives sound id m is row.s row.there

  pub shapes_given : (rows : List BareShape) (ms : List EffectiveShape) → AreStatedRows ss rows → AreEffective ss rows ms
      → AreGivenShapes (whole_shapes rows ms)
  shapes_given [] ms stated are = tt
  shapes_given (r ∷ rows) [] stated are = tt
  shapes_given (r ∷ rows) (m ∷ ms) stated are =
      let row = stated r.id (bare_view r) (inl (refl, refl)) in (
        subst (λ b. IsGivenShape (whole_shape b m)) row.bare
            (shape_given row.s m (sound_under r.id ss row.s sound row.there).shape (row_sound r.id (bare_view r) row m are.0)),
        shapes_given rows ms (λ id b there. stated id b (inr there)) are.1,
      )

  not_of_prelude : (rows : List BareShape) → AreStatedRows ss rows → (k : List ℕ) → StandsAmong k (ids_of rows) → is_prelude_id k ≡ false
  not_of_prelude [] stated k h = absurd h
  not_of_prelude (r ∷ rows) stated k (inl same) =
      let row = stated r.id (bare_view r) (inl (refl, refl)) in
      ap is_prelude_id same ∙ (sound_under r.id ss row.s sound row.there).own
  not_of_prelude (r ∷ rows) stated k (inr h) = not_of_prelude rows (λ id b there. stated id b (inr there)) k h

pub whole_ids : (ss : List Stated) (rows : List BareShape) (ms : List EffectiveShape) → AreEffective ss rows ms
    → given_ids (whole_shapes rows ms) ≡ ids_of rows
whole_ids ss [] ms are = refl
whole_ids ss (r ∷ rows) [] are = absurd are
whole_ids ss (r ∷ rows) (m ∷ ms) are = ap (λ ids. r.id ∷ ids) (whole_ids ss rows ms are.1)

pub given_joined : (xs ys : List ShapeGiven) → AreGivenShapes xs → AreGivenShapes ys → AreGivenShapes (xs ++ ys)
given_joined [] ys h k = k
given_joined (x ∷ xs) ys h k = (h.0, given_joined xs ys h.1 k)

pub clash : (b : Bool) → b ≡ true → b ≡ false → ⊥
clash b is isnt = subst (λ c. cond c (Unit {0}) ⊥) (sym is ∙ isnt) tt

-- all shapes of a graph
pub record AreAllGiven (shapes : List ShapeGiven) : Type 0 where
  pub each : AreGivenShapes shapes
  pub differ : DifferInNames (given_ids shapes)

pub all_given : (ss : List Stated) → GivesNodes ss → AreSoundStated ss → (rows : List BareShape) → AreShapesOf ss rows
    → (ms : List EffectiveShape) → AreEffective ss rows ms → AreAllGiven (whole_shapes rows ms ++ prelude_shapes)
all_given ss gives sound rows shapes ms are =
    let stated = rows_stated ss rows shapes in record {
      each = given_joined (whole_shapes rows ms) prelude_shapes (shapes_given ss gives sound rows ms stated are) prelude_given.each;
      differ =
          subst DifferInNames (sym (map-append (λ (s : ShapeGiven). s.id) (whole_shapes rows ms) prelude_shapes
          ∙ ap (λ ids. ids ++ given_ids prelude_shapes) (whole_ids ss rows ms are)))
          (differ_joined (ids_of rows) (given_ids prelude_shapes) (differ_from_rise (ids_of rows) shapes.rise) prelude_given.differ
          (λ k own of_prelude.
          clash (is_prelude_id k) (stands_by_test k (given_ids prelude_shapes) of_prelude)
          (not_of_prelude ss gives sound rows stated k own)));
    }
