-- What stands in the graph of statements of files: ids and targets are ids, bodies and values of traits are nodes, and traits stand
-- under ids. Keys of metadata are UTF-8.
use Rattle.std.proofs.Common.{◌≡◌, inl, inr, ℕ, Bool, true, false, cond, List, [], ◌∷◌, ◌++◌, map, Option, Some, None, refl, sym, ap}
use Rattle.std.proofs.Common.{subst, ◌∙◌, bytes_eq, codes, IsUtf8}
use Rattle.std.specs.Prelude.{if◌then◌else◌}
use Rattle.std.specs.List.{cons_option, flat_map}
use Rattle.std.specs.Option.{option_or}
use Rattle.std.specs.FinMap as fin
use Rattle.std.specs.FinMap.{get-insert, get-remove, get-retain_keys, slice_cmp-IsAntisymmetric, nat_cmp-IsAntisymmetric}
use Rattle.std.specs.Cmp.Lexicographic.{nat_list_cmp_total}
use Rattle.std.specs.Ordering.{eq_by_cmp}
use Rattle.std.proofs.lemmas.Option.{none-some, same_Some}
use Rattle.std.proofs.lemmas.Slice.Eq.{bytes_eq-Decides}
use Rattle.sm_ids.specs.Identifier.{IsIdentifier}
use Rattle.sm_ids.specs.IdText.{IsIdText}
use Rattle.sm_tree.specs.Node.{Node, text}
use Rattle.sm_tree.specs.Same.{IsNode}
use Rattle.sm_model.specs.Formed.{AreFormed, AreStatedMembers, AreTraits, IsFormed}
use Rattle.sm_model.specs.Given.{AreNodes as AreNodesUnder}
use Rattle.sm_model.specs.Graphs.{Entry, MemberEntry, NodeMap, ShapeGiven, given_entries, given_members}
use Rattle.sm_model.specs.Graphs.{member_entry, member_id, shape_entry, text_cmp}
use Rattle.sm_model.specs.PreludeShapes.{prelude_shapes}
use Rattle.sm_model.specs.References.{IsShapeId}
use Rattle.sm_model.specs.Said.{MemberSaid, Said, TraitSaid, apply_said, metadata_said, shape_said}
use Rattle.sm_model.specs.declared.kind.Kind.{Kind}
use Rattle.sm_model.proofs.MapFacts.{Each, each_joined}
use Rattle.sm_merge.specs.Meaning.{Defined}
use Rattle.sm_merge.specs.Merged.{IsMergedMember, IsMergedShape, StandsUnder, enum_value, with_enum_value}
use Rattle.sm_merge.specs.Mixins.{AreCopied, AreEffectiveMembers, EffectiveMembers, EffectiveShape, IsEffective, IsEffectiveValue}
use Rattle.sm_merge.specs.Mixins.{copy_of, effective, is_copied, last_there, member_copied, member_value, member_values, mixed_in}
use Rattle.sm_merge.specs.Mixins.{mixin_trait}
use Rattle.sm_merge.specs.Mixins.{no_mixins, passed_over, shape_values}
use Rattle.sm_merge.specs.Places.{member_traits_at, metadata_by, metadata_values, trait_values, traits_at, values_under}
use Rattle.sm_merge.specs.Stated.{AreFormedFiles, ShapeStated, Stated, all_said, defined_among, member_stated, stated, stated_by}
use Rattle.sm_merge.specs.Stated.{traits_stated}
use Rattle.sm_merge.specs.Values.{AllComeTo, ComeTo, IsValueOf}
use Rattle.sm_merge.specs.steps.Folding.{AreNodes}
use Rattle.sm_merge.proofs.EffectiveSound.{GivesNodes, effective_sound, some_left, some_of}
use Rattle.sm_merge.proofs.EntriesFound.{found_has, has_each, key_has, made_has}
use Rattle.sm_merge.proofs.Folds.{node_joined}
use Rattle.sm_groups.proofs.GroupsMade.{tests}
use Rattle.sm_merge.proofs.MeantIds.{meaning_is_id}
use Rattle.sm_merge.proofs.NodesMeant.{meant_is_node}
use Rattle.sm_merge.proofs.PreludeGiven.{AreOfPrelude, AreUnderIds, api_text, shapes_are}
use Rattle.sm_merge.proofs.SomeEffective.{values_named}
use Rattle.sm_merge.proofs.StatedSound.{sound_under, statements_sound}
use Rattle.sm_merge.proofs.WholeGiven.{lacks, name_node, target_kept, valued_if}

-- a name of a kind, with a node
abbrev pub IsNamedNode : (List ℕ → Type 0) → List ℕ → Node → Type 0
IsNamedNode Named name n = Named name × IsNode n

-- what nodes come to is a node
come_node : (a b c : Node) → IsNode a → IsNode b → ComeTo a b c → IsNode c
come_node a b c x y (inl (same, is)) = subst IsNode (sym is) x
come_node a b c x y (inr (inl (xs, ys, first, second, differ, is))) =
    subst IsNode (sym is) (node_joined xs ys (subst IsNode first x) (subst IsNode second y))
come_node a b c x y (inr (inr (conflict, is))) = subst IsNode (sym is) x

all_node : (a : Node) (bs : List Node) (c : Node) → IsNode a → AreNodes bs → AllComeTo a bs c → IsNode c
all_node a [] c x h is = subst IsNode (sym is) x
all_node a (b ∷ bs) c x h (next, come, rest) = all_node next bs c (come_node a b next x h.0 come) h.1 rest

value_node : (vs : List Node) (n : Node) → AreNodes vs → IsValueOf vs n → IsNode n
value_node [] n h value = absurd value
value_node (a ∷ bs) n h value = all_node a bs n h.0 h.1 value

module _ (Named : List ℕ → Type 0) where
  under_nodes : (name : List ℕ) (ps : List (List ℕ × Node)) → Each (IsNamedNode Named) ps → AreNodes (values_under name ps)
  under_nodes name [] h = tt
  under_nodes name (p ∷ ps) h = by_test (under_nodes name ps h.1) (bytes_eq p.0 name)
    where
      by_test : AreNodes (values_under name ps) → (b : Bool) → AreNodes (cons_option (if b then Some p.1 else None) (values_under name ps))
      by_test later true = (h.0.1, later)
      by_test later false = later

  value_named : (name : List ℕ) (ps : List (List ℕ × Node)) → Each (IsNamedNode Named) ps → (n : Node) → IsValueOf (values_under name ps) n
      → IsNamedNode Named name n
  value_named name ps h n value =
      let there = key_has name ps (values_named name ps n value) in (
        (has_each (IsNamedNode Named) name there.0 ps h there.1).0,
        value_node (values_under name ps) n (under_nodes name ps h) value,
      )

-- what statements give
module _ (defined : Defined) where
  traits_each : (ts : List TraitSaid) → AreTraits ts → Each (IsNamedNode IsIdText) (traits_stated defined ts)
  traits_each [] h = tt
  traits_each (t ∷ ts) h = ((meaning_is_id defined t.id h.0, meant_is_node defined t.value h.1), traits_each ts h.2)

  members_each : (place id : List ℕ) (ms : List MemberSaid) → AreStatedMembers ms
      → Each (IsNamedNode IsIdText) (flat_map (member_traits_at place id) (map (member_stated defined) ms))
  members_each place id [] h = tt
  members_each place id (m ∷ ms) h =
      each_joined (IsNamedNode IsIdText) (member_traits_at place id (member_stated defined m))
      (flat_map (member_traits_at place id) (map (member_stated defined) ms))
      (by_test (bytes_eq (member_id id m.name) place)) (members_each place id ms h.3)
    where
      by_test : (b : Bool) → Each (IsNamedNode IsIdText) (if b then traits_stated defined m.traits else [])
      by_test true = traits_each m.traits h.2
      by_test false = tt

  statement_each : (place : List ℕ) (s : Said) → IsFormed s → Each (IsNamedNode IsIdText) (traits_at place (stated defined s))
  statement_each place (metadata_said key value) h = tt
  statement_each place (shape_said s) h = by_test (bytes_eq s.id place)
    where
      by_test : (b : Bool) → Each (IsNamedNode IsIdText)
          (if b then traits_stated defined s.traits else flat_map (member_traits_at place s.id) (map (member_stated defined) s.members))
      by_test true = traits_each s.traits h.traits
      by_test false = members_each place s.id s.members h.members
  statement_each place (apply_said id ts) h = by_test (bytes_eq _ place)
    where
      by_test : (b : Bool) → Each (IsNamedNode IsIdText) (if b then traits_stated defined ts else [])
      by_test true = traits_each ts h.1
      by_test false = tt

  metadata_each : (s : Said) → IsFormed s → Each (IsNamedNode IsUtf8) (metadata_by (stated defined s))
  metadata_each (metadata_said key value) h = ((h.0, meant_is_node defined value h.1), tt)
  metadata_each (shape_said s) h = tt
  metadata_each (apply_said id ts) h = tt

  module _ (Named : List ℕ → Type 0) (by : Stated → List (List ℕ × Node))
      (each : (s : Said) → IsFormed s → Each (IsNamedNode Named) (by (stated defined s))) where
    file_each : (ss more : List Said) → AreFormed ss → Each (IsNamedNode Named) (flat_map by (map (stated defined) more))
        → Each (IsNamedNode Named) (flat_map by (map (stated defined) (ss ++ more)))
    file_each [] more h rest = rest
    file_each (s ∷ ss) more h rest =
        each_joined (IsNamedNode Named) (by (stated defined s)) (flat_map by (map (stated defined) (ss ++ more)))
        (each s h.0) (file_each ss more h.1 rest)

    files_each : (files : List (List Said)) → AreFormedFiles files
        → Each (IsNamedNode Named) (flat_map by (map (stated defined) (all_said files)))
    files_each [] h = tt
    files_each (file ∷ files) h = file_each file (all_said files) h.0 (files_each files h.1)

-- values that come of statements
trait_named : (files : List (List Said)) → AreFormedFiles files → (place name : List ℕ) (n : Node)
    → IsValueOf (trait_values (stated_by files) place name) n → IsNamedNode IsIdText name n
trait_named files h place name n value =
    let defined = defined_among (all_said files) in
    value_named IsIdText name (flat_map (traits_at place) (stated_by files))
    (files_each defined IsIdText (traits_at place) (statement_each defined place) files h) n value

pub metadata_named : (files : List (List Said)) → AreFormedFiles files → (key : List ℕ) (n : Node)
    → IsValueOf (metadata_values (stated_by files) key) n → IsNamedNode IsUtf8 key n
metadata_named files h key n value =
    let defined = defined_among (all_said files) in
    value_named IsUtf8 key (flat_map metadata_by (stated_by files))
    (files_each defined IsUtf8 metadata_by (metadata_each defined) files h) n value

pub gives_nodes : (files : List (List Said)) → AreFormedFiles files → GivesNodes (stated_by files)
gives_nodes files h place name n value = (trait_named files h place name n value).1

-- traits of a map, of shapes with their mixins, and of their members
abbrev pub HoldsNamed : NodeMap → Type 0
HoldsNamed m = (t : List ℕ) (n : Node) → fin.get m t ≡ Some n → IsNamedNode IsIdText t n

abbrev MemberHolds : List ℕ → MemberEntry → Type 0
MemberHolds name e = HoldsNamed e.traits

abbrev ShapeHolds : EffectiveShape → Type 0
ShapeHolds m = HoldsNamed m.traits × Each MemberHolds m.members

abbrev CopiesHold : List EffectiveShape → Type 0
CopiesHold [] = Unit {0}
CopiesHold (m ∷ ms) = ShapeHolds m × CopiesHold ms

copied_hold : (ms : EffectiveMembers) → Each MemberHolds ms → Each MemberHolds (map (λ e. (e.0, member_copied e.1)) ms)
copied_hold [] h = tt
copied_hold (m ∷ ms) h = (
  λ t n found. h.0 t n (some_left (eq_by_cmp text_cmp t mixin_trait) (fin.get m.1.traits t) n
      (sym (get-remove nat_list_cmp_total m.1.traits mixin_trait t) ∙ found)),
  copied_hold ms h.1,
)

copy_holds : (value : Node) (m : EffectiveShape) → ShapeHolds m → ShapeHolds (copy_of value m)
copy_holds value m h = (
  λ t n found. h.0 t n (some_of (is_copied value t) (fin.get m.traits t) n
      (sym (get-retain_keys m.traits (is_copied value) t
      (λ x tied. ap (is_copied value) (sym (slice_cmp-IsAntisymmetric nat_cmp-IsAntisymmetric t x tied)))) ∙ found)),
  copied_hold m.members h.1,
)

-- the last value that copies have
shape_last : (copied : List EffectiveShape) → CopiesHold copied → (t : List ℕ) (n : Node)
    → last_there (shape_values copied t) ≡ Some n → IsNamedNode IsIdText t n
shape_last [] h t n is = absurd (none-some n is)
shape_last (m ∷ copied) h t n is = by_rest (λ rest. shape_last copied h.1 t n rest) (last_there (shape_values copied t)) refl is
  where
    by_rest : (last_there (shape_values copied t) ≡ Some n → IsNamedNode IsIdText t n) → (o : Option Node)
        → last_there (shape_values copied t) ≡ o → option_or o (fin.get m.traits t) ≡ Some n
        → IsNamedNode IsIdText t n
    by_rest later None same found = h.0.0 t n found
    by_rest later (Some x) same found = later (same ∙ found)

found_holds : (member : List ℕ) (ms : EffectiveMembers) → Each MemberHolds ms → (t : List ℕ) (n : Node)
    → member_value t (fin.find text_cmp member ms) ≡ Some n → IsNamedNode IsIdText t n
found_holds member ms h t n is = by_found (fin.find text_cmp member ms) refl is
  where
    by_found : (o : Option MemberEntry) → fin.find text_cmp member ms ≡ o → member_value t o ≡ Some n → IsNamedNode IsIdText t n
    by_found None same found = absurd (none-some n found)
    by_found (Some e) same found = has_each MemberHolds member e ms h (found_has member e ms same) t n found

member_last : (copied : List EffectiveShape) → CopiesHold copied → (member t : List ℕ) (n : Node)
    → last_there (member_values copied member t) ≡ Some n → IsNamedNode IsIdText t n
member_last [] h member t n is = absurd (none-some n is)
member_last (m ∷ copied) h member t n is =
    by_rest (λ rest. member_last copied h.1 member t n rest) (last_there (member_values copied member t)) refl is
  where
    by_rest : (last_there (member_values copied member t) ≡ Some n → IsNamedNode IsIdText t n) → (o : Option Node)
        → last_there (member_values copied member t) ≡ o
        → option_or o (member_value t (fin.find text_cmp member m.members)) ≡ Some n → IsNamedNode IsIdText t n
    by_rest later None same found = found_holds member m.members h.0.1 t n found
    by_rest later (Some x) same found = later (same ∙ found)

-- values that statements give have names
abbrev GivesNamed : List Stated → Type 0
GivesNamed ss = (place name : List ℕ) (n : Node) → IsValueOf (trait_values ss place name) n → IsNamedNode IsIdText name n

value_holds : (ss : List Stated) → GivesNamed ss → (place : List ℕ) (copied : List (Option Node)) (t : List ℕ) (n : Node)
    → (last_there copied ≡ Some n → IsNamedNode IsIdText t n) → IsEffectiveValue ss place copied t n → IsNamedNode IsIdText t n
value_holds ss gives place copied t n last (inl given) = gives place t n given
value_holds ss gives place copied t n last (inr (none, is)) = last is

members_hold : (ss : List Stated) → GivesNamed ss → (id : List ℕ) (copied : List EffectiveShape) (all : EffectiveMembers)
    → CopiesHold copied → (ms : EffectiveMembers) → AreEffectiveMembers ss id copied all ms → Each MemberHolds ms
members_hold ss gives id copied all h [] are = tt
members_hold ss gives id copied all h (m ∷ ms) are = (
  λ t n found. value_holds ss gives (member_id id m.0) (member_values copied m.0 t) t n (member_last copied h m.0 t n)
      ((are.0.traits t n).0 found),
  members_hold ss gives id copied all h ms are.1,
)

made_holds : (ss : List Stated) → GivesNamed ss → (id : List ℕ) (copied : List EffectiveShape) (all : EffectiveMembers)
    (m : EffectiveShape) → CopiesHold copied
    → ((t : List ℕ) (n : Node) → fin.get m.traits t ≡ Some n → IsEffectiveValue ss id (shape_values copied t) t n)
    → AreEffectiveMembers ss id copied all m.members → ShapeHolds m
made_holds ss gives id copied all m h traits members = (
  λ t n found. value_holds ss gives id (shape_values copied t) t n (shape_last copied h t n) (traits t n found),
  members_hold ss gives id copied all h m.members members,
)

mutual
  effective_holds : (ss : List Stated) → GivesNamed ss → (id : List ℕ) (m : EffectiveShape) → IsEffective ss id m → ShapeHolds m
  effective_holds ss gives id m (effective i n s copied there from made) =
      made_holds ss gives id copied _ m (copies_hold ss gives s s.mixins copied from) (λ t n found. (made.traits t n).0 found) made.members

  copies_hold : (ss : List Stated) → GivesNamed ss → (s : ShapeStated) (mixins : List (List ℕ)) (copied : List EffectiveShape)
      → AreCopied ss s mixins copied → CopiesHold copied
  copies_hold ss gives s mixins copied (no_mixins a) = tt
  copies_hold ss gives s mixins copied (mixed_in a mixin more c m rest is behind) =
      (copy_holds c.mixin_value m (effective_holds ss gives mixin m is), copies_hold ss gives s more rest behind)
  copies_hold ss gives s mixins copied (passed_over a mixin more rest never behind) = copies_hold ss gives s more rest behind

-- the id of a member, from its parts
pub record IsMemberId (id : List ℕ) : Type 0 where
  pub shape : List ℕ
  pub name : List ℕ
  pub is : id ≡ member_id shape name
  pub of_shape : IsShapeId shape
  pub named : IsIdentifier name

-- what stands under an id
abbrev pub IsSoundEntry : List ℕ → Entry → Type 0
IsSoundEntry id (shape_entry s) = IsShapeId id × IsNode s.properties × HoldsNamed s.traits
IsSoundEntry id (member_entry m) = IsMemberId id × IsIdText m.target × HoldsNamed m.traits

-- a shape of the prelude
both_named : (ps : List (List ℕ × Node)) → AreUnderIds ps → AreNodesUnder ps → Each (IsNamedNode IsIdText) ps
both_named [] h is = tt
both_named (p ∷ ps) h is = ((h.0, is.0), both_named ps h.1 is.1)

map_named : (ps : List (List ℕ × Node)) → Each (IsNamedNode IsIdText) ps → HoldsNamed (fin.from_entries ps)
map_named ps h t n found = has_each (IsNamedNode IsIdText) t n ps h (made_has ps t n found)

prelude_each : (ss : List ShapeGiven) → AreOfPrelude ss → Each IsSoundEntry (given_entries ss)
prelude_each [] h = tt
prelude_each (s ∷ ss) h = (
  (h.0.given.id, h.0.given.body.is_node, map_named s.traits (both_named s.traits h.0.under h.0.given.traits.nodes)),
  each_joined IsSoundEntry (given_members s.id s.members) (given_entries ss)
      (subst (λ ms. Each IsSoundEntry (given_members s.id ms)) (sym h.0.bare) tt) (prelude_each ss h.1),
)

-- keys that tie are one
tied_key : (k j : List ℕ) → eq_by_cmp text_cmp k j ≡ true → k ≡ j
tied_key k j h = sym ((bytes_eq-Decides j k).0 (sym (tests k j) ∙ h))

-- a member with its value
value_id : IsIdText enum_value
value_id = api_text (codes "enumValue") refl

value_inserted : (name : List ℕ) (m : NodeMap) → IsIdentifier name → HoldsNamed m → HoldsNamed (fin.insert m enum_value (text name))
value_inserted name m named h t n found =
    by_test (eq_by_cmp text_cmp t enum_value) refl (sym (get-insert nat_list_cmp_total m enum_value (text name) t) ∙ found)
  where
    by_test : (b : Bool) → eq_by_cmp text_cmp t enum_value ≡ b → cond b (Some (text name)) (fin.get m t) ≡ Some n
        → IsNamedNode IsIdText t n
    by_test true tied same =
        (subst IsIdText (sym (tied_key t enum_value tied)) value_id, subst IsNode (same_Some (text name) n same) (name_node name named))
    by_test false tied same = h t n same

valued_holds : (kind : Kind) (name : List ℕ) (e : MemberEntry) → IsIdentifier name → HoldsNamed e.traits
    → HoldsNamed (with_enum_value kind name e).traits
valued_holds kind name e named h = by_test (lacks kind e)
  where
    by_test : (b : Bool) → HoldsNamed (valued_if name e b).traits
    by_test true = value_inserted name e.traits named h
    by_test false = h

module _ (files : List (List Said)) (formed : AreFormedFiles files) where
  abbrev ss : List Stated
  ss = stated_by files

  shape_sound : (id : List ℕ) (e : Entry) → IsMergedShape ss id e → IsSoundEntry id e
  shape_sound id e h =
      let under = sound_under id ss h.s (statements_sound files formed) h.there in
      subst (IsSoundEntry id) (sym h.is) (
        subst IsShapeId under.same under.shape.id,
        under.shape.body.is_node,
        (effective_holds ss (trait_named files formed) id h.m h.is_effective).0,
      )

  member_sound : (id : List ℕ) (e : Entry) → IsMergedMember ss id e → IsSoundEntry id e
  member_sound id e h =
      let sound = statements_sound files formed in
      let under = sound_under h.shape ss h.s sound h.there in
      let there = found_has h.name h.of h.m.members h.found in
      let of_shape = effective_sound ss (gives_nodes files formed) sound h.shape h.m h.is_effective h.s h.there in
      let named = (has_each _ h.name h.of h.m.members of_shape.members there).0 in
      let holds = has_each MemberHolds h.name h.of h.m.members
      (effective_holds ss (trait_named files formed) h.shape h.m h.is_effective).1 there in
      subst (IsSoundEntry id) (sym h.is) (
        record { shape = h.shape; name = h.name; is = h.under; of_shape = subst IsShapeId under.same under.shape.id; named = named.0 },
        subst IsIdText (sym (target_kept h.s.shape.kind h.name h.of)) named.1,
        valued_holds h.s.shape.kind h.name h.of named.0 holds,
      )

  pub stands_sound : (id : List ℕ) (e : Entry) → StandsUnder ss id e → IsSoundEntry id e
  stands_sound id e (inl h) = shape_sound id e h
  stands_sound id e (inr (inl h)) = member_sound id e h
  stands_sound id e (inr (inr h)) =
      has_each IsSoundEntry id e (given_entries prelude_shapes) (prelude_each prelude_shapes shapes_are)
      (made_has (given_entries prelude_shapes) id e h)
