-- What the file of a namespace says of a shape is the shape as the graph has it: so it states this part of the graph.
use Rattle.std.proofs.Common.{◌≡◌, inl, inr, ℕ, Bool, true, false, List, [], ◌∷◌, ◌++◌, map, Option, Some, None}
use Rattle.std.proofs.Common.{refl, sym, ap, subst, ◌∙◌}
use Rattle.std.specs.FinMap as fin
use Rattle.sm_ids.specs.IdText.{IsIdText}
use Rattle.sm_tree.specs.Node.{Node, Members, object}
use Rattle.sm_tree.specs.Parts.{pairs_in, tree_named}
use Rattle.sm_model.specs.Formed.{StandsAmong}
use Rattle.sm_model.specs.Graphs.{Entry, GraphMaps, MemberEntry, MemberGiven, NodeMap, ShapeEntry, ShapeMap, member_entry, member_id}
use Rattle.sm_model.specs.Graphs.{shape_entry}
use Rattle.sm_model.specs.PreludeShapes.{is_prelude_id, unit_id}
use Rattle.sm_model.specs.Properties.{TypeFields, property_forms}
use Rattle.sm_model.specs.Raw.{Raw, raw_object, raw_members_of}
use Rattle.sm_model.specs.References.{IsShapeId}
use Rattle.sm_model.proofs.MapFacts.{Each}
use Rattle.sm_merge.specs.Meaning.{Defined, meaning, node_meant}
use Rattle.sm_merge.specs.Stated.{all_said, body_of, member_stated, shape_with_ids}
use Rattle.sm_merge.specs.Stated.{traits_stated}
use Rattle.sm_merge.proofs.EntriesFound.{each_has, has_get}
use Rattle.sm_merge.proofs.GraphSound.{HoldsNamed, IsNamedNode, IsSoundEntry}
use Rattle.sm_idl.specs.Nodes.{Home}
use Rattle.sm_idl.specs.Written.{is_written}
use Rattle.sm_ids.specs.TextParts.{member_name}
use Rattle.sm_idl.specs.WrittenForms.{written_form}
use Rattle.sm_model.specs.declared.kind.Kind.{Kind}
use Rattle.sm_model.specs.declared.kind.Kind.TheVariants.{Blob, Boolean, Text, Enum, Byte, Short, Integer, IntEnum, Long, Float}
use Rattle.sm_model.specs.declared.kind.Kind.TheVariants.{Double, BigInteger, BigDecimal, Timestamp, Document, List as list_kind}
use Rattle.sm_model.specs.declared.kind.Kind.TheVariants.{Map, Structure, Union, Service, Operation, Resource}
use Rattle.sm_ids.proofs.TextCuts.{member_named}
use Rattle.sm_merge.specs.Restated.{IsMemberIn, IsShapeIn}
use Rattle.sm_idl.specs.WrittenFile.{body_said, entry_said, entry_statements, field_said, fields_said, home_alone, members_said}
use Rattle.sm_idl.specs.WrittenFile.{metadata_of, namespace_file}
use Rattle.sm_idl.specs.WrittenFile.{member_said, shapes_said, target_said, traits_said, value_there_said}
use Rattle.sm_again.specs.WrittenMerges.{EnumsTargetUnit, IsEnum, written_files}
use Rattle.sm_merge.proofs.BodiesAgain.{body_again, forms_said, one_said, pairs_or_none}
use Rattle.sm_merge.proofs.RegularGraphs.{IsRegular, IsRegularShape}
use Rattle.sm_merge.proofs.RestatedFiles.{AllStated, SaysShape, file_if, file_states, shape_if, shapes_if, states_joined}
use Rattle.sm_again.proofs.MembersAgain.{AreSaidMembers, IsSaidMember, members_again, shape_in}
use Rattle.sm_again.proofs.SaidMeant.{says_forms, traits_meant, written_meant}

-- fields are said one by one
module _ (home : Home) where
  one_is : (name : List ℕ) (o : Option Raw) → field_said name o ≡ one_said name o
  one_is name None = refl
  one_is name (Some r) = refl

  fields_are : (fs : TypeFields) (ms : Members) → fields_said home fs ms ≡ forms_said (value_there_said home) fs ms
  fields_are [] ms = refl
  fields_are (f ∷ fs) ms =
      let first = one_is f.0 (value_there_said home f.1 (tree_named f.0 ms)) in
      let rest = fields_are fs ms in
      λ i. first i ++ rest i

  body_is : (fs : TypeFields) (n : Node) (ms : Members) → n ≡ object ms
      → body_said home fs (pairs_in n) ≡ forms_said (value_there_said home) fs (pairs_or_none n)
  body_is fs n ms is =
      subst (λ m. body_said home fs (pairs_in m) ≡ forms_said (value_there_said home) fs (pairs_or_none m)) (sym is) (fields_are fs ms)

-- members
pub record IsLookedUp (defined : Defined) (home : Home) (kind : Kind) (shapes : ShapeMap) (id : List ℕ) : Type 0 where
  pub e : MemberEntry
  pub found : fin.get shapes id ≡ Some (member_entry e)
  pub target : meaning defined (target_said home (written_form kind) e.target) ≡ e.target
  pub named : HoldsNamed e.traits

map_named : (m : NodeMap) → HoldsNamed m → Each (IsNamedNode IsIdText) (fin.entries m)
map_named m h = each_has (IsNamedNode IsIdText) (fin.entries m) (λ t n there. h t n (has_get m t n there))

module _ (defined : Defined) (home : Home) (kind : Kind) (shapes : ShapeMap) (id : List ℕ) (is : IsShapeId id) where
  abbrev member_again : List ℕ → MemberEntry → MemberGiven
  member_again q e = record {
    name = member_name q;
    target = meaning defined (target_said home (written_form kind) e.target);
    traits = traits_stated defined (traits_said home (fin.entries e.traits));
  }

  abbrev members_stated : List (List ℕ) → List MemberGiven
  members_stated ids = map (member_stated defined) (members_said home (written_form kind) shapes ids)

  member_is_in : (name : List ℕ) (l : IsLookedUp defined home kind shapes (member_id id name))
      → IsMemberIn shapes id (member_again (member_id id name) l.e)
  member_is_in name l =
      let named = member_named id is name in record {
        traits = l.e.traits;
        found = ap (λ k. fin.get shapes (member_id id k)) named ∙ l.found
            ∙ ap (λ t. Some (member_entry (record { target = t; traits = l.e.traits }))) (sym l.target);
        same = traits_meant defined home (fin.entries l.e.traits) (map_named l.e.traits l.named);
      }

  one_again : (name : List ℕ) → IsLookedUp defined home kind shapes (member_id id name) → IsSaidMember shapes id members_stated name
  one_again name l = record {
    member = member_again (member_id id name) l.e;
    same = ap (member_id id) (member_named id is name);
    is_in = member_is_in name l;
    first = λ ids. ap (λ o. map (member_stated defined)
        (member_said home (written_form kind) (member_id id name) o ++ members_said home (written_form kind) shapes ids)) l.found;
  }

-- what is asked of the graph
pub record IsWhole (g : GraphMaps) : Type 0 where
  pub regular : IsRegular g
  pub sound : (id : List ℕ) (e : Entry) → fin.get g.shapes id ≡ Some e → IsSoundEntry id e
  pub enums : EnumsTargetUnit g

module _ (g : GraphMaps) (whole : IsWhole g) (defined : Defined) where
  target_meant : (home : Home) (kind : Kind) (t : List ℕ) → IsIdText t → (IsEnum kind → t ≡ unit_id)
      → meaning defined (target_said home (written_form kind) t) ≡ t
  target_meant home Enum t is unit = sym (unit (inl refl))
  target_meant home IntEnum t is unit = sym (unit (inr refl))
  target_meant home Blob t is unit = written_meant defined home t false is
  target_meant home Boolean t is unit = written_meant defined home t false is
  target_meant home Text t is unit = written_meant defined home t false is
  target_meant home Byte t is unit = written_meant defined home t false is
  target_meant home Short t is unit = written_meant defined home t false is
  target_meant home Integer t is unit = written_meant defined home t false is
  target_meant home Long t is unit = written_meant defined home t false is
  target_meant home Float t is unit = written_meant defined home t false is
  target_meant home Double t is unit = written_meant defined home t false is
  target_meant home BigInteger t is unit = written_meant defined home t false is
  target_meant home BigDecimal t is unit = written_meant defined home t false is
  target_meant home Timestamp t is unit = written_meant defined home t false is
  target_meant home Document t is unit = written_meant defined home t false is
  target_meant home list_kind t is unit = written_meant defined home t false is
  target_meant home Map t is unit = written_meant defined home t false is
  target_meant home Structure t is unit = written_meant defined home t false is
  target_meant home Union t is unit = written_meant defined home t false is
  target_meant home Service t is unit = written_meant defined home t false is
  target_meant home Operation t is unit = written_meant defined home t false is
  target_meant home Resource t is unit = written_meant defined home t false is

  look_up : (home : Home) (id : List ℕ) (s : ShapeEntry) → fin.get g.shapes id ≡ Some (shape_entry s) → (r : IsRegularShape g id s)
      → (name : List ℕ) → StandsAmong name r.names → IsLookedUp defined home s.kind g.shapes (member_id id name)
  look_up home id s found r name among =
      let held = r.each name among in
      let sound = whole.sound (member_id id name) (member_entry held.0) held.1 in record {
        e = held.0;
        found = held.1;
        target = target_meant home s.kind held.0.target sound.1 (λ enum. whole.enums id name s held.0 found enum held.1);
        named = sound.2;
      }

  shape_again : (home : Home) (id : List ℕ) (s : ShapeEntry) → fin.get g.shapes id ≡ Some (shape_entry s) → (r : IsRegularShape g id s)
      → IsShapeIn g.shapes (shape_with_ids defined (entry_said home g.shapes id s)).shape
  shape_again home id s found r =
      let said = members_stated defined home s.kind g.shapes id r.is in
      let members : AreSaidMembers g.shapes id said s.members =
      subst (AreSaidMembers g.shapes id said) (sym r.members)
      (members_again g.shapes id said refl r.names
      (λ name among. one_again defined home s.kind g.shapes id r.is name (look_up home id s found r name among))) in
      let sound = whole.sound id (shape_entry s) found in
      let fields = ap (λ ps. body_of s.kind (node_meant defined (raw_object (raw_members_of ps))))
      (body_is home (property_forms s.kind) s.properties r.body.pairs r.body.is_object) in
      let body = fields ∙ body_again s.kind s.properties r.given r.comes r.body defined (value_there_said home) (says_forms defined home) in
      shape_in g.shapes id said s _ _ found members body (traits_meant defined home (fin.entries s.traits) (map_named s.traits sound.2))

-- what is said for a namespace, entry by entry
module _ (home : Home) (shapes : ShapeMap) where
  abbrev passes : List ℕ → Bool
  passes = is_written home.namespace

  shape_statements : (id : List ℕ) (e : Entry) → entry_statements home shapes id e ≡ shape_if passes (entry_said home shapes) id e
  shape_statements id (shape_entry s) = refl
  shape_statements id (member_entry m) = refl

  shapes_are : (es : List (List ℕ × Entry)) → shapes_said home shapes es ≡ shapes_if passes (entry_said home shapes) es
  shapes_are [] = refl
  shapes_are (e ∷ es) =
      let first = shape_statements e.0 e.1 in
      let rest = shapes_are es in
      λ i. first i ++ rest i

-- the file of a namespace is such a file
abbrev pub said_for : GraphMaps → List ℕ → SaysShape
said_for g namespace = entry_said (home_alone namespace) g.shapes

pub file_is : (g : GraphMaps) (namespace : List ℕ)
    → (namespace_file g namespace).said ≡ file_if (is_written namespace) (said_for g namespace) g
file_is g namespace =
    ap (λ ss. metadata_of (fin.entries g.metadata) ++ ss) (shapes_are (home_alone namespace) g.shapes (fin.entries g.shapes))

module _ (g : GraphMaps) (whole : IsWhole g) (defined : Defined) (keeps : List ℕ → Bool) where
  abbrev Kept : List ℕ → Type 0
  Kept namespace = (id : List ℕ) → is_written namespace id ≡ true → (is_prelude_id id ≡ false) × (keeps id ≡ true)

  namespace_states : (namespace : List ℕ) → Kept namespace → AllStated g whole.regular defined keeps (namespace_file g namespace).said
  namespace_states namespace kept =
      subst (AllStated g whole.regular defined keeps) (sym (file_is g namespace))
      (file_states g whole.regular defined keeps (is_written namespace) (said_for g namespace) kept (λ k t. refl) (λ k t. refl)
      (λ id s found r. shape_again g whole defined (home_alone namespace) id s found r))

  pub namespaces_state : (namespaces : List (List ℕ)) → ((namespace : List ℕ) → StandsAmong namespace namespaces → Kept namespace)
      → AllStated g whole.regular defined keeps (all_said (written_files g namespaces))
  namespaces_state [] kept = tt
  namespaces_state (n ∷ ns) kept =
      states_joined g whole.regular defined keeps (namespace_file g n).said (all_said (written_files g ns))
      (namespace_states n (kept n (inl refl))) (namespaces_state ns (λ m later. kept m (inr later)))
